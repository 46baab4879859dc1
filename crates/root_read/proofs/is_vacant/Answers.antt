use Rattle.std.proofs.Common.{arith}
use Rattle.std.proofs.lemmas.Grind.{common_steps}
use Rattle.model.specs.Root.{vacant}
use Rattle.root_read.proofs.is_vacant.Goals as goal

pub returns-then-b-eq0 : goal.returns-then-b-eq0
unfolding vacant
returns-then-b-eq0 c = grind (arith, common_steps)

pub returns-else-b-eq0 : goal.returns-else-b-eq0
unfolding vacant
returns-else-b-eq0 c = grind (arith, common_steps)
