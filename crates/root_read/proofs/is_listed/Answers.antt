use Rattle.std.proofs.Common.{arith}
use Rattle.std.proofs.lemmas.Grind.{common_steps}
use Rattle.std.proofs.lemmas.Nat.Bits.{and_pow}
use Rattle.model.specs.Root.{listed, is_label}
use Rattle.root_read.proofs.is_listed.Goals as goal

pub returns-then-not-is_vacant : goal.returns-then-not-is_vacant
unfolding listed is_label
returns-then-not-is_vacant c = grind (arith, common_steps, and_pow c.slot_byte.result 3)

pub returns-else-not-is_vacant : goal.returns-else-not-is_vacant
unfolding listed is_label
returns-else-not-is_vacant c = grind (arith, common_steps)
