use Rattle.std.proofs.Common.{arith}
use Rattle.std.proofs.lemmas.Grind.{common_steps}
use Rattle.model.specs.Scan.{every, between}
use Rattle.model.specs.LongName.{text_ok}
use Rattle.root_names.proofs.is_text.Goals as goal

pub returns-then-n-le-MOST_CHARACTERS : goal.returns-then-n-le-MOST_CHARACTERS
unfolding text_ok every between
returns-then-n-le-MOST_CHARACTERS c = grind (arith, common_steps)

pub returns-else-n-le-MOST_CHARACTERS : goal.returns-else-n-le-MOST_CHARACTERS
unfolding text_ok every between
returns-else-n-le-MOST_CHARACTERS c = grind (arith, common_steps)
