use Rattle.std.proofs.Common.{arith}
use Rattle.model.specs.Bytes.{bytes_of}
use Rattle.listing_text.proofs.Buffer.{put_then}
use Rattle.listing_text.proofs.Shown.{name_short, name_long}
use Rattle.listing_text.proofs.Text.name.Goals as goal

pub returns-else-e-ne0 : goal.returns-else-e-ne0
returns-else-e-ne0 c = (
  rw (name_short (bytes_of c.args.s.now) c.args.from c.trimmed_length-n.ensures.0 c.trimmed_length-e.ensures.0 c.if-e-ne0.false)
      c.shown.ensures.0,
  omega arith,
)

pub returns-then-e-ne0 : goal.returns-then-e-ne0
returns-then-e-ne0 c = (
  rw (name_long (bytes_of c.args.s.now) c.args.from c.trimmed_length-n.ensures.0 c.trimmed_length-e.ensures.0 c.if-e-ne0.true)
      (put_then (put_then c.shown.ensures.0 c.byte.ensures) c.shown-then-e-ne0.ensures.0),
  omega arith,
)
