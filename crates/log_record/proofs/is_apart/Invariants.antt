use mathlib.Core.Bool.{true}
use Rattle.model.specs.Sector.{card_of}
use Rattle.model.specs.Record.{record_at}
use Rattle.model.specs.Pending.{apart}
use Rattle.model.proofs.Scan.{Sofar}
use Rattle.log_record.proofs.is_apart.Given as goal

abbrev pub invariant-loop-i : goal.invariant-loop-i
invariant-loop-i l = Sofar (apart (record_at (card_of l.log l.s)) l.k) true 0 l.i
