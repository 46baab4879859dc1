use mathlib.Core.Bool.{false}
use lib.Dec.{eqb}
use Rattle.model.specs.Sector.{card_of}
use Rattle.model.specs.Root.{slot_at}
use Rattle.model.proofs.Scan.{Sofar}
use Rattle.root_read.proofs.end_slot.Given as goal

abbrev pub invariant-loop-k : goal.invariant-loop-k
invariant-loop-k l = Sofar (λ m. eqb (slot_at l.l (card_of l.w) m 0) 0) false 0 l.k
