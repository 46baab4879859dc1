use mathlib.Core.Bool.{true}
use Rattle.model.specs.Sector.{card_of}
use Rattle.model.specs.Record.{record_at}
use Rattle.model.specs.Pending.{part_ok}
use Rattle.model.proofs.Scan.{Sofar}
use Rattle.log_record.proofs.records_ok.Given as goal

abbrev pub invariant-loop-k : goal.invariant-loop-k
invariant-loop-k l = Sofar (part_ok l.entries l.z (record_at (card_of l.log l.s))) true 1 l.k
