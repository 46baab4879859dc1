use Rattle.model.specs.Record.{record_bytes}
use Rattle.model.proofs.Lists.{all_zero}
use Rattle.log_write.proofs.record_bytes.Goals as goal

pub returns : goal.returns
unfolding record_bytes
returns c =
    rw (
      c.set_name.ensures,
      c.set-b-9.ensures,
      c.set-b-8.ensures,
      c.set-b-7.ensures,
      c.set-b-6.ensures,
      c.set-b-5.ensures,
      c.set-b-4.ensures,
      c.set-b-3.ensures,
      c.set-b-2.ensures,
      c.set-b.ensures,
      all_zero 32,
    )
