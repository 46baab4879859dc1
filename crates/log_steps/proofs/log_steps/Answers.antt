use native.Mathlib.Omega.{arith}
use Rattle.std.proofs.lemmas.Result.{err_from_is_err_and}
use Rattle.model.specs.Bytes.{bytes_of}
use Rattle.model.specs.Sector.{card_of}
use Rattle.model.specs.Log.{log_of}
use Rattle.model.specs.Record.{with_text}
use Rattle.operations.specs.Plan.{new_group}
use Rattle.log_steps.proofs.Laws.{log_steps_cut, log_steps_ran, group_sector_in}
use borrow.Author.Rules.{rules}
use Rattle.log_steps.proofs.log_steps.Goals as goal

pub returns-in_err-clear_log : goal.returns-in_err-clear_log
returns-in_err-clear_log c =
    let a = c.args in
    let p = err_from_is_err_and c.from_residual.result c.from_residual.ensures.1 in
    rw p.1 (log_steps_cut a.v (with_text a.o (bytes_of a.text.now)) c.in_err-clear_log.was c.clear_log.ensures)

pub store_and_redo-requires : goal.store_and_redo-requires
store_and_redo-requires c =
    let a = c.args in
    let s = c.group_sector-s.ensures in
    let g = c.plan_for.ensures in
    let b = group_sector_in a.v.log (log_of a.v.log (card_of a.w.now)) (omega arith) in record {
      held = search rules;
      slots = rw g.1 c.requires.slots;
      group_within = (omega (arith, b, s, g.2), omega (arith, b, s, g.2), g.3);
    }

pub returns : goal.returns
unfolding new_group
returns c =
    let a = c.args in
    log_steps_ran a.v (with_text a.o (bytes_of a.text.now)) c.in_ok-clear_log.was c.clear_log.ensures
    (rw (c.plan_for.ensures.0, c.group_sector-s.ensures) at c.store_and_redo.ensures)
