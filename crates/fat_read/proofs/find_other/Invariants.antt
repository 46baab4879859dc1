use mathlib.Core.Bool.{false}
use Rattle.model.specs.Sector.{card_of}
use Rattle.model.specs.Fat.{fat1_of}
use Rattle.model.proofs.Scan.{Sofar}
use Rattle.fat_read.specs.Located.{lacks}
use Rattle.fat_read.proofs.find_other.Given as goal

abbrev pub invariant-loop-i : goal.invariant-loop-i
invariant-loop-i l = Sofar (lacks 0xFFF6 (fat1_of l.l (card_of l.w))) false l.k l.i
