use mathlib.Core.Path.{refl}
use Rattle.std.proofs.lemmas.Result.{err_from_is_err_and}
use Rattle.model.specs.Bytes.{view}
use Rattle.call_append.proofs.Laws.{append_cut, append_ran}
use Rattle.operations.specs.Finish.{edits, operation_edits}
use borrow.Author.Rules.{rules}
use Rattle.call_append.proofs.store_append.Goals as goal

pub returns-in_err-store_chain : goal.returns-in_err-store_chain
returns-in_err-store_chain c =
    let a = c.args in
    let h = c.requires in
    let p = err_from_is_err_and c.from_residual.result c.from_residual.ensures.1 in
    rw (p.1, p.2) (append_cut a.v a.w.now a.f (view a.bytes.now) a.stamp h.ready.0 h.ready.1 a.last a.n h.growth.0 h.growth.1
    c.store_chain.ensures c.in_err-store_chain.was)

pub plain_steps-requires : goal.plain_steps-requires
unfolding edits operation_edits
plain_steps-requires c =
    let h = c.requires in
    record { held = search rules; log_within = search rules; slots = ((h.ready.2, h.ready.2), tt) }

pub returns : goal.returns
returns c =
    let a = c.args in
    let h = c.requires in
    append_ran a.v a.w.now a.f (view a.bytes.now) a.stamp h.ready.0 h.ready.1 a.last a.n h.growth.0 h.growth.1
    c.store_chain.ensures c.in_ok-store_chain.was _ _ c.first_new-from.ensures refl c.plain_steps.ensures
