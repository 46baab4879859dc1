use Rattle.std.proofs.lemmas.Result.{err_from_is_err_and}
use Rattle.model.specs.Ground.{◌>>=◌}
use Rattle.call_outcome.proofs.Ends.{did_refused}
use Rattle.operations.specs.Calls.{truncate}
use Rattle.call_truncate.proofs.truncate.Goals as goal

pub returns-in_err-v : goal.returns-in_err-v
unfolding truncate ◌>>=◌
returns-in_err-v c =
    let p = err_from_is_err_and c.from_residual.result c.from_residual.ensures.1 in
    rw (p.1, p.2, ← c.in_err-v.ensures.answer) (did_refused _ _ _)

pub returns : goal.returns
unfolding truncate ◌>>=◌
returns c = rw (← c.in_ok-v.ensures.answer, ← c.stamp.ensures) c.truncate_on.ensures
