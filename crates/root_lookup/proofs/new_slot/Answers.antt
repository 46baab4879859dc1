use mathlib.Core.Path.{sym, ap, ◌∙◌}
use Rattle.model.specs.Bytes.{view}
use Rattle.model.specs.Sector.{card_of}
use Rattle.model.specs.Ground.{◌when◌, ◌>>◌}
use Rattle.operations.specs.Calls.{new_slot}
use Rattle.root_lookup.specs.Found.{run_answer}
use Rattle.root_lookup.proofs.Laws.{untaken}
use Rattle.root_lookup.proofs.new_slot.Goals.{then-is_taken-via-then-is_taken, then-is_taken-via-else-is_taken+then-is_text_taken}
use Rattle.root_lookup.proofs.new_slot.Goals as goal

pub returns-then-is_taken-clause-answer : goal.returns-then-is_taken-clause-answer
unfolding new_slot ◌when◌ ◌>>◌
returns-then-is_taken-clause-answer c = elim c.then-is_taken.branch [
  | then-is_taken-via-then-is_taken w ↦ rw (sym c.is_taken.ensures ∙ w.if-is_taken.true)
  | then-is_taken-via-else-is_taken+then-is_text_taken w ↦
      rw (sym c.is_taken.ensures ∙ w.if-is_taken.false, sym w.is_text_taken.ensures ∙ w.if-is_text_taken.true)
]

pub returns-clause-answer : goal.returns-clause-answer
returns-clause-answer c =
    let a = c.args in
    c.free_end.ensures.answer ∙ ap (run_answer a.v.layout (card_of a.w.now)) c.long_slots.ensures
    ∙ sym (untaken a.v (card_of a.w.now) (view a.name.now) (view a.text.now) (sym c.if-is_taken.ensures) (sym c.if-is_text_taken.ensures))
