use Rattle.model.specs.Sector.{card_of}
use Rattle.model.specs.Fat.{fat_at}
use Rattle.model.proofs.Nths.{Seeks}
use Rattle.fat_read.specs.Located.{holds}
use Rattle.fat_read.proofs.pass_entries.Given as goal

abbrev pub invariant-loop-i : goal.invariant-loop-i
invariant-loop-i l = Seeks (holds l.v (fat_at (card_of l.w) l.fat)) l.k l.n l.m l.i l.left
