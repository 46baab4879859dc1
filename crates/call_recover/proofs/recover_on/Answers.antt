use native.Mathlib.Omega.{arith}
use mathlib.Core.Path.{sym, ap, subst, ◌∙◌}
use Rattle.model.specs.Bytes.{Bytes}
use Rattle.model.specs.Record.{planned}
use Rattle.model.proofs.Runs.{spent_none}
use Rattle.operations.specs.Plan.{recover_stores}
use Rattle.call_recover.proofs.Laws.{sector_high, Redoable, redoable}
use Rattle.call_recover.proofs.recover_on.Goals as goal

pub plan_at-plan-requires : goal.plan_at-plan-requires
plan_at-plan-requires c =
    let a = c.args in
    let h = c.requires in
    omega (arith, sector_high a.v a.w.now h _ c.in-Held.is, h.held.whole)

pub text_at-requires : goal.text_at-requires
text_at-requires c =
    let a = c.args in
    let h = c.requires in
    omega (arith, sector_high a.v a.w.now h _ c.in-Held.is, h.held.whole)

pub redo-requires : goal.redo-requires
redo-requires c =
    let a = c.args in
    let h = c.requires in
    let the-plan-at = c.plan_at-plan in
    let k = subst (Redoable a.v) (sym (ap (λ (t : Bytes). planned the-plan-at.result t) c.text_at.ensures
    ∙ the-plan-at.ensures.0)) (redoable a.v a.w.now h _ c.in-Held.is) in
    record { held = h.held; slots = (k.slots, record { even = omega arith; short = omega arith }); group_within = (k.low, k.high, the-plan-at.ensures.1) }

pub returns-in-Nothing : goal.returns-in-Nothing
unfolding recover_stores
returns-in-Nothing c = rw c.in-Nothing.is c.to_fat2.ensures

pub returns-in-Broken : goal.returns-in-Broken
unfolding recover_stores
returns-in-Broken c = rw c.in-Broken.is (spent_none c.args.limit.now c.args.w.now)

pub returns-in-Held : goal.returns-in-Held
unfolding recover_stores
returns-in-Held c =
    let plan = c.plan_at-plan in
    let text = c.text_at in
    rw (c.in-Held.is, ← (ap (λ (t : Bytes). planned plan.result t) text.ensures ∙ plan.ensures.0)) c.redo.ensures
