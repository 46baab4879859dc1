use Rattle.std.proofs.Common.{arith}
use Rattle.std.proofs.lemmas.Grind.{common_steps}
use Rattle.model.specs.Scan.{every}
use Rattle.model.specs.LongName.{has_text}
use Rattle.root_long.proofs.has_text.Goals as goal

pub returns-then-long_length-t : goal.returns-then-long_length-t
unfolding has_text every
returns-then-long_length-t c = grind (arith, common_steps)

pub returns-else-long_length-t : goal.returns-else-long_length-t
unfolding has_text every
returns-else-long_length-t c = grind (arith, common_steps)
