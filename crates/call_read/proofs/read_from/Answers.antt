use Rattle.std.proofs.lemmas.Result.{err_from_is_err_and}
use Rattle.model.specs.Ground.{◌>>=◌}
use Rattle.operations.specs.Reading.{read_on}
use Rattle.call_read.proofs.Gave.{gave_refused, gave_filled}
use Rattle.call_read.proofs.read_from.Goals as goal

pub returns-in_err-f : goal.returns-in_err-f
unfolding read_on ◌>>=◌
returns-in_err-f c =
    let p = err_from_is_err_and c.from_residual.result c.from_residual.ensures.1 in
    rw (p.1, p.2) (gave_refused _ _ (rw (← c.in_err-f.ensures.answer)))

pub returns : goal.returns
unfolding read_on ◌>>=◌
returns c = gave_filled _ (rw (← c.in_ok-f.ensures.answer)) c.read_file.ensures
