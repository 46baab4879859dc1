use mathlib.Core.Path.{sym, ◌∙◌}
use native.Mathlib.Omega.{arith}
use mathlib.Core.Bool.{false}
use borrow.Author.Tests.{eq-eqb, ne_eqb}
use Rattle.model.specs.Log.{unused}
use Rattle.model.proofs.Scan.{first_is, sofar_none, sofar_more, none_below}
use Rattle.log_write.proofs.Laws.{begins_zero}
use Rattle.log_write.proofs.unused_sector.Goals as goal

pub loop-k-init : goal.loop-k-init
loop-k-init c = sofar_none _ _ _ _ (omega arith)

pub returns-then-byte-eq0 : goal.returns-then-byte-eq0
unfolding unused
returns-then-byte-eq0 c =
    let args = c.args in
    let turn = c.loop-k in
    sym (first_is (begins_zero args.a args.w.now) 0 args.a.sectors turn.k (omega arith) (omega arith) turn.invariant
    (eq-eqb _ _ (sym c.byte.ensures.0 ∙ c.if-byte-eq0.true)))

pub loop-k-preserved : goal.loop-k-preserved
loop-k-preserved c =
    sofar_more (begins_zero c.args.a c.args.w.now) false 0 c.loop-k.k c.loop-k.invariant
    (ne_eqb _ _ (λ q. c.if-byte-eq0.false (c.byte.ensures.0 ∙ q)))

pub returns : goal.returns
unfolding unused
returns c =
    let args = c.args in
    let turn = c.loop-k in
    sym (none_below (begins_zero args.a args.w.now) args.a.sectors turn.k turn.invariant (omega arith))
