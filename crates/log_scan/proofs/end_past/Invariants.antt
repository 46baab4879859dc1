use mathlib.Core.Bool.{false}
use lib.Dec.{eqb}
use Rattle.model.specs.Bytes.{pick}
use Rattle.model.specs.Scan.{among}
use Rattle.model.specs.Sector.{card_of}
use Rattle.model.specs.Root.{first_bytes}
use Rattle.model.specs.Pending.{named_slots}
use Rattle.model.proofs.Scan.{Sofar}
use Rattle.log_scan.proofs.end_past.Given as goal

abbrev pub invariant-loop-k : goal.invariant-loop-k
invariant-loop-k l = Sofar (λ m. eqb (pick (among (named_slots l.o) m) 0xE5 (first_bytes l.l (card_of l.w) m)) 0) false 0 l.k
