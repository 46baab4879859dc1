use Rattle.std.proofs.Common.{arith}
use Rattle.std.proofs.lemmas.Grind.{common_steps}
use Rattle.std.proofs.lemmas.Nat.Bits.{and_pow}
use Rattle.model.specs.Root.{is_directory}
use Rattle.root_read.proofs.is_directory.Goals as goal

pub returns : goal.returns
unfolding is_directory
returns c = grind (arith, common_steps, and_pow c.slot_byte.result 4)
