use Rattle.std.proofs.lemmas.Result.{err_from_is_err_and}
use Rattle.model.specs.Ground.{◌>>=◌}
use Rattle.call_outcome.proofs.Ends.{did_refused, did_spent}
use Rattle.operations.specs.Calls.{delete_on}
use Rattle.call_truncate.proofs.delete_on.Goals as goal

pub delete_file-stored-requires : goal.delete_file-stored-requires
delete_file-stored-requires c = record { ready = c.requires; chained = c.in_ok-f.ensures.chained }

pub returns-in_err-f : goal.returns-in_err-f
unfolding delete_on ◌>>=◌
returns-in_err-f c =
    let p = err_from_is_err_and c.from_residual.result c.from_residual.ensures.1 in
    rw (p.1, p.2, ← c.in_err-f.ensures.answer) (did_refused _ _ _)

pub returns : goal.returns
unfolding delete_on ◌>>=◌
returns c = rw (← c.in_ok-f.ensures.answer, c.ended.ensures) (did_spent _ c.delete_file-stored.ensures)
