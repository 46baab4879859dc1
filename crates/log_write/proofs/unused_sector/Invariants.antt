use mathlib.Core.Bool.{false}
use Rattle.model.proofs.Scan.{Sofar}
use Rattle.log_write.proofs.Laws.{begins_zero}
use Rattle.log_write.proofs.unused_sector.Given as goal

abbrev pub invariant-loop-k : goal.invariant-loop-k
invariant-loop-k l = Sofar (begins_zero l.a l.w) false 0 l.k
