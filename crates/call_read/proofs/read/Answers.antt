use Rattle.std.proofs.lemmas.Result.{err_from_is_err_and}
use Rattle.model.specs.Ground.{◌>>=◌}
use Rattle.operations.specs.Reading.{read}
use Rattle.call_read.proofs.Gave.{gave_refused}
use Rattle.call_read.proofs.read.Goals as goal

pub returns-in_err-v : goal.returns-in_err-v
unfolding read ◌>>=◌
returns-in_err-v c =
    let p = err_from_is_err_and c.from_residual.result c.from_residual.ensures.1 in
    rw (p.1, p.2) (gave_refused _ _ (rw (← c.in_err-v.ensures.answer)))

pub returns : goal.returns
unfolding read ◌>>=◌
returns c = rw (← c.in_ok-v.ensures.answer) c.read_from.ensures
