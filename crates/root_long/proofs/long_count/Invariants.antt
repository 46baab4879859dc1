use mathlib.Core.Bool.{true}
use Rattle.model.specs.Sector.{card_of}
use Rattle.model.specs.Root.{slot_at}
use Rattle.model.proofs.Scan.{Sofar}
use Rattle.model.proofs.Belong.{inner_test}
use Rattle.root_long.proofs.long_count.Given as goal

abbrev pub invariant-loop-i : goal.invariant-loop-i
invariant-loop-i l = Sofar (inner_test (slot_at l.l (card_of l.w)) l.s) true 1 l.i
