use mathlib.Core.Bool.{true}
use lib.Dec.{eqb}
use Rattle.model.specs.Bytes.{bytes_of}
use Rattle.model.specs.Sector.{card_of}
use Rattle.model.specs.Root.{slot_at}
use Rattle.model.specs.LongName.{character, long_character}
use Rattle.model.proofs.Scan.{Sofar}
use Rattle.root_long.proofs.has_characters.Given as goal

abbrev pub invariant-loop-q : goal.invariant-loop-q
invariant-loop-q l = Sofar (λ m. eqb (long_character (slot_at l.l (card_of l.w)) l.s m) (character (bytes_of l.t) m)) true 0 l.q
