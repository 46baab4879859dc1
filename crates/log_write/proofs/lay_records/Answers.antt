use native.Mathlib.Omega.{arith}
use mathlib.Core.Path.{ap, ◌∙◌}
use mathlib.Core.List.{List, map}
use lib.Seq.{take_all}
use Rattle.model.specs.Bytes.{bytes_of}
use Rattle.model.specs.Record.{record_bytes, operation_records, lay}
use Rattle.model.specs.declared.Record.{Record}
use Rattle.log_write.proofs.Laws.{lay_zeros, lay_next}
use Rattle.log_write.proofs.lay_records.Goals as goal

pub loop-k-init : goal.loop-k-init
loop-k-init c = lay_zeros

pub record_of-requires : goal.record_of-requires
record_of-requires c = omega (arith, c.records_of-k-end.ensures.0)

pub loop-k-preserved : goal.loop-k-preserved
loop-k-preserved c =
    lay_next (operation_records c.args.o) c.loop-k.k (bytes_of c.record_bytes.result) (bytes_of c.loop-k.buf) (bytes_of c.lay.new.buf)
    (omega (arith, c.records_of-k-end.ensures.0)) (c.record_bytes.ensures ∙ ap record_bytes c.record_of.ensures) c.loop-k.invariant c.lay.ensures

pub returns : goal.returns
returns c =
    c.loop-k.invariant ∙ ap (λ (rs : List Record). lay (map record_bytes rs))
    (take_all c.loop-k.k (operation_records c.args.o) (omega (arith, c.records_of-k-end.ensures.0)))
