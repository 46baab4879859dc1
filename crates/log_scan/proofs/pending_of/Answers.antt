use mathlib.Core.Path.{sym, ap, ◌∙◌}
use Prim.Native.Nat.{ℕ}
use Rattle.model.specs.Sector.{card_of}
use Rattle.log_scan.specs.Place.{place_of}
use Rattle.log_scan.proofs.Laws.{first_part, pending_part, seen_pending}
use borrow.Author.Rules.{rules}
use Rattle.log_scan.proofs.pending_of.Goals as goal

pub pending_in-requires : goal.pending_in-requires
pending_in-requires c =
    let a = c.args in
    (search rules, c.requires.area.2 ∙ sym (ap (λ (j : ℕ). place_of j a.a.sectors) (first_part a.a a.w.now c.table.result.now c.table.ensures)))

pub returns : goal.returns
returns c =
    let a = c.args in
    let z = c.seen_end-seen.result in
    c.pending_in.ensures ∙ pending_part a.a a.w.now c.table.result.now c.table.ensures a.l.entries z
    ∙ seen_pending a.l a.a (card_of a.w.now) z a.place c.requires.area.2 c.seen_end-seen.ensures
