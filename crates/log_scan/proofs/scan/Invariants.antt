use mathlib.Core.Bool.{false}
use Prim.Native.Nat.{◌+◌, ◌*◌}
use Rattle.model.specs.Sector.{card_of}
use Rattle.model.specs.Pending.{pending_at}
use Rattle.model.proofs.Scan.{Sofar}
use Rattle.log_scan.proofs.scan.Given as goal

abbrev pub invariant-loop-s : goal.invariant-loop-s
invariant-loop-s l = Sofar (pending_at (card_of l.log)) false 0 (16 * l.s)

abbrev pub invariant-loop-r : goal.invariant-loop-r
invariant-loop-r l = Sofar (pending_at (card_of l.log)) false 0 (16 * l.s + l.r)
