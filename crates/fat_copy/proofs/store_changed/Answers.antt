use mathlib.Core.Path.{sym, ◌∙◌}
use Rattle.model.proofs.Runs.{spent_none}
use Rattle.fat_copy.proofs.Laws.{renewal_none, renewal_one}
use Rattle.fat_copy.proofs.store_changed.Goals as goal

pub returns-then-not-alters : goal.returns-then-not-alters
returns-then-not-alters c = rw (renewal_none _ _ _ (sym c.alters.ensures ∙ c.if-not-alters.true)) (spent_none _ _)

pub returns : goal.returns
returns c = rw (renewal_one _ _ _ (sym c.alters.ensures ∙ c.if-not-alters.false)) c.store_sector.ensures
