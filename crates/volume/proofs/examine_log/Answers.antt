use mathlib.Core.Path.{sym}
use Rattle.model.specs.Ground.{◌>>=◌}
use Rattle.volume.specs.Examined.{examine_on}
use Rattle.fat_read.proofs.Grounds.{locate_nowhere, locate_at}
use Rattle.volume.proofs.examine_log.Goals as goal

pub returns-in_default-clause-answer : goal.returns-in_default-clause-answer
unfolding examine_on ◌>>=◌
returns-in_default-clause-answer c = rw (locate_nowhere c.args.l _ (sym c.in_default.ensures.0))

pub returns-clause-answer : goal.returns-clause-answer
unfolding examine_on ◌>>=◌
returns-clause-answer c = rw (locate_at c.args.l _ _ (sym c.in-Some.ensures.0)) c.inspect.ensures.answer
