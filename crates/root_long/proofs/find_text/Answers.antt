use Rattle.std.proofs.Common.{◌≡◌, ◌-◌, ◌∙◌, ap, arith}
use borrow.Author.Rules.{rules}
use Rattle.model.specs.Bytes.{view}
use Rattle.model.specs.Scan.{first_from}
use Rattle.model.specs.Sector.{card_of}
use Rattle.model.specs.Root.{slot_at}
use Rattle.model.specs.LongName.{has_text, find_text}
use Rattle.root_long.proofs.Laws.{blank_textless}
use Rattle.root_long.proofs.find_text.Goals as goal

pub returns : goal.returns
unfolding find_text
returns c =
    let a = c.args in
    let p = has_text (view a.t.now) (slot_at a.l (card_of a.w.now)) in
    let all : a.l.entries - 0 ≡ a.l.entries = omega arith in (
      c.seek.ensures.found p (λ k r l h. search rules) (blank_textless (view a.t.now) (slot_at a.l (card_of a.w.now)))
          ∙ ap (first_from p 0) all,
      c.seek.ensures.within,
    )
