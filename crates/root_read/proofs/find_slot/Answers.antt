use Rattle.std.proofs.Common.{◌≡◌, ◌-◌, ◌∙◌, ap, arith}
use borrow.Author.Rules.{rules}
use Rattle.model.specs.Scan.{first_from}
use Rattle.model.specs.Sector.{card_of}
use Rattle.model.specs.Root.{slot_at, bears, find, lowest_slot}
use Rattle.root_read.proofs.Laws.{blank_nameless}
use Rattle.root_read.proofs.find_slot.Goals as goal

pub returns : goal.returns
unfolding find lowest_slot
returns c =
    let a = c.args in
    let slot = slot_at a.l (card_of a.w.now) in
    let all : a.l.entries - 0 ≡ a.l.entries = omega arith in (
      c.seek.ensures.found (λ k. bears a.name (slot k)) (λ k r l h. search rules) (λ k. blank_nameless a.name (slot k))
          ∙ ap (first_from (λ k. bears a.name (slot k)) 0) all,
      c.seek.ensures.within,
    )
