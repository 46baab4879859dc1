use Rattle.std.proofs.lemmas.Result.{err_from_is_err_and}
use Rattle.model.specs.Ground.{◌>>=◌}
use Rattle.operations.specs.Calls.{append}
use Rattle.call_outcome.proofs.Ends.{did_refused}
use Rattle.call_append.proofs.append.Goals as goal

pub returns-in_err-v : goal.returns-in_err-v
unfolding append ◌>>=◌
returns-in_err-v c =
    let p = err_from_is_err_and c.from_residual.result c.from_residual.ensures.1 in rw (p.1, p.2, ← c.in_err-v.ensures.answer) (did_refused _ _ _)

pub returns : goal.returns
unfolding append ◌>>=◌
returns c = rw (← c.in_ok-v.ensures.answer, ← c.stamp.ensures) c.append_on.ensures
