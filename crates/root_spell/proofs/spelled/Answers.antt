use Rattle.std.proofs.Common.{arith}
use Rattle.std.proofs.lemmas.Grind.{common_steps}
use Rattle.model.specs.LongName.{spelled}
use Rattle.root_spell.proofs.spelled.Goals as goal

pub returns-then-q-n : goal.returns-then-q-n
unfolding spelled
returns-then-q-n c = grind (arith, common_steps)

pub returns-then-q-n-2 : goal.returns-then-q-n-2
unfolding spelled
returns-then-q-n-2 c = grind (arith, common_steps)

pub returns-else-q-n-2 : goal.returns-else-q-n-2
unfolding spelled
returns-else-q-n-2 c = grind (arith, common_steps)
