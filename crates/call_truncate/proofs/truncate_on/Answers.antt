use Rattle.std.proofs.lemmas.Result.{err_from_is_err_and}
use Rattle.model.specs.Ground.{◌>>=◌}
use Rattle.call_outcome.proofs.Ends.{did_refused}
use Rattle.operations.specs.Calls.{truncate_on}
use Rattle.call_truncate.proofs.truncate_on.Goals as goal

pub truncate_as-requires : goal.truncate_as-requires
truncate_as-requires c = record { ready = c.requires; chained = c.in_ok-f.ensures.chained }

pub returns-in_err-f : goal.returns-in_err-f
unfolding truncate_on ◌>>=◌
returns-in_err-f c =
    let p = err_from_is_err_and c.from_residual.result c.from_residual.ensures.1 in
    rw (p.1, p.2, ← c.in_err-f.ensures.answer) (did_refused _ _ _)

pub returns : goal.returns
unfolding truncate_on ◌>>=◌
returns c = rw (← c.in_ok-f.ensures.answer) c.truncate_as.ensures
