use Rattle.std.proofs.lemmas.Result.{err_from_is_err_and}
use Rattle.model.specs.Ground.{◌>>=◌}
use Rattle.call_outcome.proofs.Ends.{did_refused}
use Rattle.operations.specs.Calls.{create_as}
use Rattle.call_create.proofs.create_as.Goals as goal

pub create_at-requires : goal.create_at-requires
create_at-requires c =
    let h = c.requires in record { ready = h.ready; slot_and_names = (c.in_ok-s.ensures.inside, h.names.0, h.names.1, h.names.2) }

pub returns-in_err-s : goal.returns-in_err-s
unfolding create_as ◌>>=◌
returns-in_err-s c =
    let p = err_from_is_err_and c.from_residual.result c.from_residual.ensures.1 in
    rw (p.1, p.2, ← c.in_err-s.ensures.answer) (did_refused _ _ _)

pub returns : goal.returns
unfolding create_as ◌>>=◌
returns c = rw (← c.in_ok-s.ensures.answer) c.create_at.ensures
