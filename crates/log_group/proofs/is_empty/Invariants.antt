use mathlib.Core.Bool.{true}
use lib.Dec.{eqb}
use Rattle.model.specs.Sector.{card_of}
use Rattle.model.proofs.Scan.{Sofar}
use Rattle.log_group.proofs.is_empty.Given as goal

abbrev pub invariant-loop-j : goal.invariant-loop-j
invariant-loop-j l = Sofar (λ m. eqb (card_of l.log l.s m) 0) true l.from l.j
