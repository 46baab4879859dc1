use Rattle.listing_text.proofs.Buffer.{put_byte}
use Rattle.listing_text.proofs.Text.byte.Goals as goal

pub returns : goal.returns
returns c = put_byte c.args.self.now c.args.b c.requires
