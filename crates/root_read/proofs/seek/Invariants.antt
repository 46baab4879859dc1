use Rattle.std.proofs.Common.{ℕ, ◌-◌, ◌≤◌, Bool, false}
use Rattle.model.specs.Sector.{card_of}
use Rattle.model.proofs.Scan.{Sofar}
use Rattle.root_read.specs.Seek.{Tests, Unwritten}
use Rattle.root_read.proofs.seek.Given as goal

abbrev pub invariant-loop-k : goal.invariant-loop-k
invariant-loop-k g l = (l.from ≤ l.k) × (l.k ≤ l.l.entries)
    × ((p : ℕ → Bool) → Tests (goal.F-post g l.test) p l.l.entries → Unwritten l.l (card_of l.w) p → Sofar p false l.from l.k)

abbrev pub decreases-loop-k : goal.decreases-loop-k
decreases-loop-k g l = l.l.entries - l.k
