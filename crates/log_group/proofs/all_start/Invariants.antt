use Prim.Native.Nat.{◌*◌}
use mathlib.Core.Bool.{true}
use Rattle.model.specs.Sector.{card_of}
use Rattle.model.specs.Record.{starts}
use Rattle.model.proofs.Scan.{Sofar}
use Rattle.log_group.proofs.all_start.Given as goal

abbrev pub invariant-loop-k : goal.invariant-loop-k
invariant-loop-k l = Sofar (λ i. starts (card_of l.log l.s (32 * i))) true 0 l.k
