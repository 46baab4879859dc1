use mathlib.Core.Bool.{false}
use Prim.Native.Nat.{◌*◌, ◌≤◌}
use lib.Dec.{eqb}
use Rattle.model.specs.Sector.{card_of}
use Rattle.model.specs.Root.{slot_at}
use Rattle.model.specs.LongName.{long_character}
use Rattle.model.proofs.Scan.{Sofar}
use Rattle.root_long.proofs.long_length.Given as goal

abbrev pub invariant-loop-q : goal.invariant-loop-q
invariant-loop-q l = (l.n ≤ 260) × (l.n ≤ 13 * l.s) × Sofar (λ m. eqb (long_character (slot_at l.l (card_of l.w)) l.s m) 0) false 0 l.q
