use Rattle.model.specs.Ground.{◌when◌, ◌>>◌}
use Rattle.operations.specs.Calls.{whole}
use Rattle.root_lookup.proofs.keep_whole.Goals as goal

pub returns-then-not-keeps-clause-answer : goal.returns-then-not-keeps-clause-answer
unfolding whole ◌when◌ ◌>>◌
returns-then-not-keeps-clause-answer c = rw (← c.if-not-keeps.ensures)

pub returns-clause-answer : goal.returns-clause-answer
unfolding whole ◌when◌ ◌>>◌
returns-clause-answer c = rw (← c.if-not-keeps.ensures)
