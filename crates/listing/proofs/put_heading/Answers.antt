use Rattle.std.proofs.Common.{sym, ◌∙◌, arith}
use Rattle.model.specs.Text.{ascii, line}
use Rattle.listing_text.proofs.Buffer.{put_then}
use Rattle.listing.specs.Pieces.{heading}
use Rattle.listing.proofs.put_heading.Goals as goal

pub returns-then-is_table : goal.returns-then-is_table
unfolding heading line ascii
returns-then-is_table c = (rw (sym c.is_table.ensures ∙ c.if-is_table.true) (put_then c.field.ensures.0 c.text.ensures), omega arith)
