use Rattle.model.specs.Root.{slot_at}
use Rattle.root_read.proofs.slot_byte.Goals as goal

pub returns : goal.returns
unfolding slot_at
returns c = (rw c.root_place.ensures.0 at c.byte.ensures.0, c.byte.ensures.1)
