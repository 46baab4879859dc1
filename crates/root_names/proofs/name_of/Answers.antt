use Rattle.model.specs.Bytes.{le}
use Rattle.root_names.proofs.name_of.Goals as goal

pub returns : goal.returns
unfolding le
returns c = c.name_at.ensures
