use Rattle.model.specs.Bytes.{le}
use Rattle.std.proofs.Common.{rules}
use Rattle.root_names.proofs.character.Goals as goal

pub returns : goal.returns
unfolding le
returns c = search rules
