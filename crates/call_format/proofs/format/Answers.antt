use Rattle.std.proofs.lemmas.Result.{err_from_is_err_and}
use Rattle.model.specs.Sector.{window_of}
use Rattle.formatting.specs.Fresh.{fresh_fields}
use Rattle.formatting.specs.Format.{format_stores}
use Rattle.formatting.proofs.Form.{few_log}
use Rattle.call_outcome.proofs.Ends.{did_refused, did_spent}
use Rattle.call_format.proofs.Laws.{formed_bad, formed_good, fresh_held, card_spent, format_size, format_window, format_granted}
use Rattle.call_format.proofs.format.Goals as goal

pub returns-in_err-l : goal.returns-in_err-l
returns-in_err-l c =
    let a = c.args in
    let p = err_from_is_err_and c.from_residual.result c.from_residual.ensures.1 in
    let bad = formed_bad a.total a.factor a.n c.formed.ensures c.ok_or.ensures.value c.in_err-l.was in
    rw (p.1, p.2, bad.1, format_size (window_of a.w.now) a.total a.factor a.n bad.0) (did_refused _ _ _)

pub returns-then-w-total : goal.returns-then-w-total
returns-then-w-total c =
    let a = c.args in
    let good = formed_good a.total a.factor a.n c.formed.ensures c.ok_or.ensures.value c.in_ok-l.was in
    rw (format_window (window_of a.w.now) a.total a.factor a.n good.0 c.if-w-total.true) (did_refused _ _ _)

pub store_card-stored-requires : goal.store_card-stored-requires
store_card-stored-requires c =
    let a = c.args in
    let good = formed_good a.total a.factor a.n c.formed.ensures c.ok_or.ensures.value c.in_ok-l.was in
    (rw good.1 (fresh_held a.total a.factor a.n good.0 a.w.now c.if-w-total.false), few_log (fresh_fields a.total a.factor) a.n good.0)

pub returns : goal.returns
returns c =
    let a = c.args in
    let good = formed_good a.total a.factor a.n c.formed.ensures c.ok_or.ensures.value c.in_ok-l.was in
    rw (format_granted (window_of a.w.now) a.total a.factor a.n good.0 c.if-w-total.false, c.ended.ensures)
    (did_spent (format_stores (fresh_fields a.total a.factor) a.n) (card_spent a.total a.factor a.n good.0 good.1 c.store_card-stored.ensures))
