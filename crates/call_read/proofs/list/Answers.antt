use Rattle.std.proofs.lemmas.Result.{err_from_is_err_and}
use Rattle.model.specs.Ground.{◌>>=◌}
use Rattle.operations.specs.Reading.{list}
use Rattle.call_read.proofs.Gave.{gave_refused, gave_filled}
use Rattle.call_read.proofs.list.Goals as goal

pub returns-in_err-v : goal.returns-in_err-v
unfolding list ◌>>=◌
returns-in_err-v c =
    let p = err_from_is_err_and c.from_residual.result c.from_residual.ensures.1 in
    rw (p.1, p.2) (gave_refused _ _ (rw (← c.in_err-v.ensures.answer)))

pub returns : goal.returns
unfolding list ◌>>=◌
returns c = gave_filled _ (rw (← c.in_ok-v.ensures.answer)) c.copy_listed.ensures
