use mathlib.Core.Path.{ap, ◌∙◌}
use Rattle.operations.specs.Outcome.{outcome_number}
use Rattle.lfat.proofs.lfat_fits.Goals as goal

pub returns : goal.returns
returns c = c.number_of.ensures ∙ ap outcome_number c.fits.ensures
