use mathlib.Core.Path.{sym, ap}
use Rattle.model.specs.Pending.{is_held}
use Rattle.volume.proofs.Laws.{settled_held, settled_differ, settled_clean, not_held}
use Rattle.volume.proofs.settle.Goals as goal

pub returns-in-Held-clause-answer : goal.returns-in-Held-clause-answer
returns-in-Held-clause-answer c = sym (settled_held _ c.args.v (ap is_held c.in-Held.is))

pub returns-then-not-agree-clause-answer : goal.returns-then-not-agree-clause-answer
returns-then-not-agree-clause-answer c = sym (settled_differ _ c.args.v (not_held _ c.in_default.not-Held) (sym c.if-not-agree.ensures))

pub returns-clause-answer : goal.returns-clause-answer
returns-clause-answer c = sym (settled_clean _ c.args.v (not_held _ c.in_default.not-Held) (sym c.if-not-agree.ensures))
