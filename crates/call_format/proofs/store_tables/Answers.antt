use mathlib.Core.Path.{◌≡◌, refl}
use native.Mathlib.Omega.{arith}
use Rattle.std.proofs.lemmas.Result.{err_from_is_err_and}
use Rattle.model.proofs.Runs.{spends_none, spends_more, spends_cut}
use Rattle.formatting.proofs.Card.{tables}
use Rattle.call_format.proofs.Laws.{table_turn, table_turns}
use Rattle.call_format.proofs.store_tables.Goals as goal

pub loop-k-init : goal.loop-k-init
loop-k-init c = (refl, spends_none _ _ _)

pub returns-in_err-store_table : goal.returns-in_err-store_table
returns-in_err-store_table c =
    let a = c.args in
    let p = err_from_is_err_and c.from_residual.result c.from_residual.ensures.1 in
    rw (p.1, p.2, table_turns a.l a.n)
    (spends_cut (table_turn a.l a.n) c.loop-k.invariant.1 c.store_table.ensures c.in_err-store_table.was (tables a.l a.n) c.loop-k-test.true)

pub loop-k-preserved : goal.loop-k-preserved
loop-k-preserved c = (
  omega (arith, c.loop-k.invariant.0),
  spends_more (table_turn c.args.l c.args.n) c.loop-k.invariant.1 c.store_table.ensures c.in_ok-store_table.was,
)

pub returns : goal.returns
returns c =
    let a = c.args in
    let end : c.loop-k.k ≡ tables a.l a.n = omega arith in
    rw (table_turns a.l a.n) (rw end at c.loop-k.invariant.1)
