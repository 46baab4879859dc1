use mathlib.Core.Path.{refl}
use Rattle.std.proofs.lemmas.Result.{err_from_is_err_and}
use Rattle.model.specs.Bytes.{view}
use Rattle.operations.specs.Finish.{edits, operation_edits}
use Rattle.call_replace.proofs.Laws.{replace_cut, replace_ran}
use borrow.Author.Rules.{rules}
use Rattle.call_replace.proofs.store_replace.Goals as goal

pub returns-in_err-store_fresh : goal.returns-in_err-store_fresh
returns-in_err-store_fresh c =
    let a = c.args in
    let h = c.requires in
    let p = err_from_is_err_and c.from_residual.result c.from_residual.ensures.1 in
    rw (p.1, p.2) (replace_cut a.v a.w.now a.f (view a.bytes.now) a.stamp h.ready.0 h.ready.2 a.n h.taken c.store_fresh.ensures c.in_err-store_fresh.was)

pub plain_steps-requires : goal.plain_steps-requires
unfolding edits operation_edits
plain_steps-requires c =
    let slot = c.requires.ready.1.seated.slot in
    record { held = search rules; log_within = search rules; slots = ((slot, slot), tt) }

pub returns : goal.returns
returns c =
    let a = c.args in
    let h = c.requires in
    replace_ran a.v a.w.now a.f (view a.bytes.now) a.stamp h.ready.0 h.ready.2 a.n h.taken c.store_fresh.ensures c.in_ok-store_fresh.was
    _ _ c.first_new-from.ensures refl c.plain_steps.ensures
