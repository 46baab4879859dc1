use Rattle.model.specs.Bytes.{le}
use borrow.Author.Rules.{rules}
use Rattle.root_long.proofs.character_at.Goals as goal

pub returns : goal.returns
unfolding le
returns c = search rules
