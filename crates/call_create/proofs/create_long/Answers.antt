use Rattle.std.proofs.lemmas.Result.{err_from_is_err_and}
use Rattle.model.specs.Ground.{◌>>=◌}
use Rattle.call_outcome.proofs.Ends.{did_refused}
use Rattle.operations.specs.Calls.{create_long}
use Rattle.call_create.proofs.create_long.Goals as goal

pub returns-in_err-v : goal.returns-in_err-v
unfolding create_long ◌>>=◌
returns-in_err-v c =
    let p = err_from_is_err_and c.from_residual.result c.from_residual.ensures.1 in
    rw (p.1, p.2, ← c.in_err-v.ensures.answer) (did_refused _ _ _)

pub returns : goal.returns
unfolding create_long ◌>>=◌
returns c = rw (← c.in_ok-v.ensures.answer, ← c.stamp.ensures) c.create_long_on.ensures
