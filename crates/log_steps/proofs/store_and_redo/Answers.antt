use Rattle.std.proofs.lemmas.Result.{err_from_is_err_and}
use Rattle.model.specs.Bytes.{bytes_of}
use Rattle.model.specs.Record.{planned}
use Rattle.log_steps.proofs.Laws.{group_steps_cut, group_steps_ran}
use Rattle.log_steps.proofs.store_and_redo.Goals as goal

pub returns-in_err-store_group : goal.returns-in_err-store_group
returns-in_err-store_group c =
    let a = c.args in
    let p = err_from_is_err_and c.from_residual.result c.from_residual.ensures.1 in
    rw p.1 (group_steps_cut a.l (planned a.p (bytes_of a.text.now)) c.in_err-store_group.was c.store_group.ensures)

pub returns : goal.returns
returns c =
    let a = c.args in
    group_steps_ran a.l (planned a.p (bytes_of a.text.now)) c.in_ok-store_group.was c.store_group.ensures c.redo.ensures
