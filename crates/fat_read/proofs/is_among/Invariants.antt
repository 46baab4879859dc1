use mathlib.Core.Path.{◌≡◌}
use mathlib.Core.Bool.{false}
use Rattle.model.specs.Scan.{count_from}
use Rattle.model.specs.Sector.{card_of}
use Rattle.model.specs.Fat.{fat_at}
use Rattle.fat_read.specs.Located.{holds}
use Rattle.fat_read.proofs.is_among.Given as goal

abbrev pub invariant-loop-i : goal.invariant-loop-i
invariant-loop-i l = l.seen ≡ false → count_from (holds l.v (fat_at (card_of l.w) l.fat)) l.k l.i ≡ 0
