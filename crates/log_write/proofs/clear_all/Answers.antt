use native.Mathlib.Omega.{arith}
use mathlib.Core.Path.{◌≡◌}
use Rattle.std.proofs.lemmas.Result.{err_from_is_err_and}
use Rattle.log_write.proofs.Laws.{clear_begun, clear_more, clear_cut, clear_ended}
use Rattle.log_write.proofs.clear_all.Goals as goal

pub loop-k-init : goal.loop-k-init
loop-k-init c = clear_begun c.args.a _ _

pub returns-in_err-store_zeros : goal.returns-in_err-store_zeros
returns-in_err-store_zeros c =
    let p = err_from_is_err_and c.from_residual.result c.from_residual.ensures.1 in
    rw p.1 (clear_cut c.args.a (omega arith) (omega arith) c.loop-k.invariant c.store_zeros.ensures c.in_err-store_zeros.was)

pub loop-k-preserved : goal.loop-k-preserved
loop-k-preserved c =
    clear_more c.args.a (omega arith) (omega arith) c.loop-k.invariant c.store_zeros.ensures c.in_ok-store_zeros.was

pub returns : goal.returns
returns c = let e : c.loop-k.k ≡ 0 = omega arith in clear_ended c.args.a (rw e at c.loop-k.invariant)
