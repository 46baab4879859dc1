use native.Mathlib.Omega.{arith}
use Rattle.std.proofs.lemmas.Result.{err_from_is_err_and}
use Rattle.model.proofs.Runs.{spends_none, spends_more, spends_cut}
use Rattle.fat_copy.proofs.Copies.{copy_turn}
use Rattle.fat_copy.proofs.copy_fat.Goals as goal

pub loop-k-init : goal.loop-k-init
loop-k-init c = spends_none _ _ _

pub returns-in_err-copy_changed : goal.returns-in_err-copy_changed
returns-in_err-copy_changed c =
    let a = c.args in
    let l = c.loop-k in
    let p = err_from_is_err_and c.from_residual.result c.from_residual.ensures.1 in
    rw (p.1, p.2)
    (spends_cut _ l.invariant (rw (copy_turn a.from a.to a.n l.k (omega arith) (omega arith) l.invariant) at c.copy_changed.ensures)
    c.in_err-copy_changed.was a.n (omega arith))

pub loop-k-preserved : goal.loop-k-preserved
loop-k-preserved c =
    let a = c.args in
    let l = c.loop-k in
    spends_more _ l.invariant (rw (copy_turn a.from a.to a.n l.k (omega arith) (omega arith) l.invariant) at c.copy_changed.ensures)
    c.in_ok-copy_changed.was
