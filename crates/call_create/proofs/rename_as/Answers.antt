use Rattle.std.proofs.lemmas.Result.{err_from_is_err_and}
use Rattle.model.specs.Ground.{◌>>=◌}
use Rattle.call_outcome.proofs.Ends.{did_refused}
use Rattle.operations.specs.Calls.{rename_as}
use Rattle.call_create.proofs.rename_as.Goals as goal

pub rename_to-requires : goal.rename_to-requires
rename_to-requires c =
    let h = c.requires in
    record { ready = h.ready; slots_and_name = (h.slot_and_name.0, c.in_ok-s.ensures.inside, h.slot_and_name.1) }

pub returns-in_err-s : goal.returns-in_err-s
unfolding rename_as ◌>>=◌
returns-in_err-s c =
    let p = err_from_is_err_and c.from_residual.result c.from_residual.ensures.1 in
    rw (p.1, p.2, ← c.in_err-s.ensures.answer) (did_refused _ _ _)

pub returns : goal.returns
unfolding rename_as ◌>>=◌
returns c = rw (← c.in_ok-s.ensures.answer) c.rename_to.ensures
