use mathlib.Core.Path.{sym, ◌∙◌}
use native.Mathlib.Omega.{arith}
use borrow.Author.Tests.{eq-eqb}
use Rattle.model.specs.Root.{end_slot}
use Rattle.model.proofs.Scan.{none_below, first_is}
use Rattle.root_read.proofs.end_slot.Goals as goal

pub returns-then-slot_byte-eq0 : goal.returns-then-slot_byte-eq0
unfolding end_slot
returns-then-slot_byte-eq0 c = (
  sym (first_is _ 0 _ _ (omega arith) (omega arith) c.loop-k.invariant
      (eq-eqb _ _ (sym c.slot_byte.ensures.0 ∙ c.if-slot_byte-eq0.true))),
  omega arith,
)

pub returns : goal.returns
unfolding end_slot
returns c = (sym (none_below _ _ _ c.loop-k.invariant (omega arith)), omega arith)
