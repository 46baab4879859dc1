use mathlib.Core.Path.{sym}
use Rattle.std.proofs.lemmas.Result.{err_from_is_err_and}
use Rattle.model.proofs.Volumes.{at_refused, at_late, at_granted}
use Rattle.volume.proofs.clean_at.Goals as goal

pub returns-in_err-v-clause-answer : goal.returns-in_err-v-clause-answer
returns-in_err-v-clause-answer c =
    let p = err_from_is_err_and c.from_residual.result c.from_residual.ensures.1 in
    rw (p.1, p.2) (sym (at_refused _ _ _ (sym c.in_err-v.ensures.answer)))

pub returns-then-seconds-gt-LAST_SECOND-clause-answer : goal.returns-then-seconds-gt-LAST_SECOND-clause-answer
returns-then-seconds-gt-LAST_SECOND-clause-answer c =
    sym (at_late _ c.args.seconds _ (sym c.in_ok-v.ensures.answer) c.if-seconds-gt-LAST_SECOND.true)

pub returns-clause-answer : goal.returns-clause-answer
returns-clause-answer c = sym (at_granted _ c.args.seconds _ (sym c.in_ok-v.ensures.answer) c.if-seconds-gt-LAST_SECOND.false)
