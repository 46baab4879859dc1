use mathlib.Core.Bool.{false}
use Rattle.model.proofs.Scan.{Sofar}
use Rattle.call_format.proofs.Laws.{holds_with}
use Rattle.call_format.proofs.fewest.Given as goal

abbrev pub invariant-loop-n : goal.invariant-loop-n
invariant-loop-n l = Sofar (holds_with l.total l.factor) false 1 l.n
