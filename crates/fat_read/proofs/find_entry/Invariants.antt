use mathlib.Core.Bool.{false}
use Prim.Native.Nat.{◌+◌, ◌-◌, ◌≤◌}
use Rattle.model.specs.Sector.{card_of}
use Rattle.model.specs.Fat.{fat_at}
use Rattle.model.proofs.Scan.{Sofar}
use Rattle.fat_read.specs.Located.{holds}
use Rattle.fat_read.proofs.find_entry.Given as goal

abbrev pub invariant-loop-i : goal.invariant-loop-i
invariant-loop-i l = (l.k ≤ l.i) × (l.i ≤ l.k + l.n) × Sofar (holds l.v (fat_at (card_of l.w) l.fat)) false l.k l.i

abbrev pub decreases-loop-i : goal.decreases-loop-i
decreases-loop-i l = l.end - l.i
