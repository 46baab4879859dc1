use Prim.Native.Nat.{◌-◌}
use Rattle.model.specs.Sector.{card_of}
use Rattle.model.specs.Fat.{fat_at}
use Rattle.model.proofs.Nths.{Seeks}
use Rattle.fat_read.specs.Located.{holds}
use Rattle.fat_read.proofs.find_nth.Given as goal

abbrev pub invariant-loop-i : goal.invariant-loop-i
invariant-loop-i l = Seeks (holds l.v (fat_at (card_of l.w) l.fat)) l.k l.n l.m l.i l.left

abbrev pub decreases-loop-i : goal.decreases-loop-i
decreases-loop-i l = l.end - l.i
