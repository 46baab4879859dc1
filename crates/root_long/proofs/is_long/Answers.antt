use Rattle.std.proofs.Common.{arith}
use Rattle.std.proofs.lemmas.Grind.{common_steps}
use Rattle.model.specs.Scan.{every}
use Rattle.model.specs.Long.{is_long}
use Rattle.root_long.proofs.is_long.Goals as goal

pub returns-then-slot_byte-eq15 : goal.returns-then-slot_byte-eq15
unfolding is_long every
returns-then-slot_byte-eq15 c = grind (arith, common_steps)

pub returns-else-slot_byte-eq15 : goal.returns-else-slot_byte-eq15
unfolding is_long every
returns-else-slot_byte-eq15 c = grind (arith, common_steps)
