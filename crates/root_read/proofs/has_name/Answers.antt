use Rattle.std.proofs.Common.{arith}
use Rattle.std.proofs.lemmas.Grind.{common_steps}
use Rattle.model.specs.Root.{bears, same_name, slot_at}
use Rattle.root_read.proofs.has_name.Goals as goal

pub returns-then-is_listed : goal.returns-then-is_listed
unfolding bears same_name slot_at
returns-then-is_listed c = grind (arith, common_steps)

pub returns-else-is_listed : goal.returns-else-is_listed
unfolding bears
returns-else-is_listed c = grind (arith, common_steps)
