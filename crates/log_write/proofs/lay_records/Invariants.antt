use mathlib.Core.Path.{◌≡◌}
use mathlib.Core.List.{map}
use lib.ListN.{take}
use Rattle.model.specs.Bytes.{bytes_of}
use Rattle.model.specs.Record.{record_bytes, operation_records, lay}
use Rattle.log_write.proofs.lay_records.Given as goal

abbrev pub invariant-loop-k : goal.invariant-loop-k
invariant-loop-k l = bytes_of l.buf ≡ lay (map record_bytes (take l.k (operation_records l.o)))
