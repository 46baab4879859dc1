use Rattle.std.proofs.Common.{arith}
use Rattle.model.specs.Text.{ascii}
use Rattle.listing_text.proofs.Buffer.{put_then}
use Rattle.listing_line.specs.Words.{slot_text}
use Rattle.listing_line.proofs.put_slot.Goals as goal

pub returns : goal.returns
unfolding slot_text ascii
returns c = (put_then c.field.ensures.0 c.field-2.ensures.0, omega arith)
