use Rattle.std.proofs.Common.{◌≡◌, ◌-◌, ◌≤◌, length}
use Rattle.model.specs.Bytes.{view}
use Rattle.listing.specs.Pieces.{pieces}
use Rattle.loglist.proofs.print.Given as goal

abbrev pub invariant-loop-i : goal.invariant-loop-i
invariant-loop-i l = (length l.out ≡ 4096) × (l.i ≤ pieces (view l.table)) × (l.n ≡ pieces (view l.table))

abbrev pub decreases-loop-i : goal.decreases-loop-i
decreases-loop-i l = l.n - l.i
