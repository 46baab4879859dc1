use Rattle.std.proofs.lemmas.Result.{err_from_is_err_and}
use Rattle.model.specs.Ground.{◌>>=◌}
use Rattle.operations.specs.Calls.{append_on}
use Rattle.call_outcome.proofs.Ends.{did_refused}
use Rattle.call_append.proofs.append_on.Goals as goal

pub returns-in_err-f : goal.returns-in_err-f
unfolding append_on ◌>>=◌
returns-in_err-f c =
    let p = err_from_is_err_and c.from_residual.result c.from_residual.ensures.1 in rw (p.1, p.2, ← c.in_err-f.ensures.answer) (did_refused _ _ _)

pub returns : goal.returns
unfolding append_on ◌>>=◌
returns c = rw (← c.in_ok-f.ensures.answer) c.append_to.ensures
