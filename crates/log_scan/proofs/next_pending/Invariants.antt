use mathlib.Core.Bool.{false}
use Rattle.model.specs.Sector.{card_of}
use Rattle.model.specs.Pending.{pending_at}
use Rattle.model.proofs.Scan.{Sofar}
use Rattle.log_scan.proofs.next_pending.Given as goal

abbrev pub invariant-loop-k : goal.invariant-loop-k
invariant-loop-k l = Sofar (pending_at (card_of l.log)) false l.from l.k
