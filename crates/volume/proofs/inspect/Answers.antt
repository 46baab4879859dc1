use mathlib.Core.Path.{sym, ap}
use Rattle.model.specs.Pending.{is_broken}
use Rattle.volume.proofs.Laws.{inspect_root, inspect_record, inspect_volume, not_broken}
use Rattle.volume.proofs.inspect.Goals as goal

pub returns-then-not-root_ok-clause-answer : goal.returns-then-not-root_ok-clause-answer
returns-then-not-root_ok-clause-answer c = sym (inspect_root _ _ _ _ (sym c.if-not-root_ok.ensures))

pub returns-in-Broken-clause-answer : goal.returns-in-Broken-clause-answer
returns-in-Broken-clause-answer c =
    rw (← c.pending_of-p.ensures) (sym (inspect_record _ _ _ _ (sym c.if-not-root_ok.ensures) (ap is_broken c.in-Broken.is)))

pub returns-clause-answer : goal.returns-clause-answer
returns-clause-answer c =
    rw (← c.pending_of-p.ensures) (sym (inspect_volume _ _ _ _ (sym c.if-not-root_ok.ensures) (not_broken _ c.in_default.not-Broken)))
