use mathlib.Core.Path.{◌≡◌, refl, sym, ap, ◌∙◌}
use Prim.Native.Nat.{ℕ, ◌+◌, ◌-◌}
use native.Mathlib.Omega.{arith}
use mathlib.Core.Bool.{false}
use Rattle.model.specs.Sector.{card_of}
use Rattle.model.specs.Fat.{fat1_of, entry, in_range, is_end}
use Rattle.model.specs.Chain.{ends_after}
use Rattle.model.proofs.Walks.{ends_zero, inside}
use Rattle.fat_chain.proofs.Links.{adjacent_one, ends_outside, ends_here, ends_later, in_window}
use borrow.Author.Rules.{rules}
use Rattle.fat_chain.proofs.ends.Goals as goal

pub loop-left-init : goal.loop-left-init
loop-left-init c = refl

pub returns-then-not-is_inside : goal.returns-then-not-is_inside
returns-then-not-is_inside c =
    let a = c.args in
    let e = entry (fat1_of a.l (card_of a.w.now)) in
    let turn = c.loop-left in
    let z : turn.k ≡ turn.k + 1 - 1 = omega arith in
    let out : in_range a.l turn.k ≡ false = sym c.is_inside.ensures ∙ c.if-not-is_inside.true in
    sym (turn.invariant ∙ ends_outside a.l e 1 turn.left turn.k (omega arith) (omega arith) (adjacent_one e turn.k) (rw z at out))

pub run_length-m-requires : goal.run_length-m-requires
run_length-m-requires c =
    let a = c.args in
    let t = inside a.l c.loop-left.k (sym c.is_inside.ensures ∙ c.if-not-is_inside.false) in
    (search rules, omega (arith, t), search rules)

pub returns-then-not-is_inside-2 : goal.returns-then-not-is_inside-2
returns-then-not-is_inside-2 c =
    let a = c.args in
    let e = entry (fat1_of a.l (card_of a.w.now)) in
    let turn = c.loop-left in
    let run = c.run_length-m.ensures in
    sym (turn.invariant ∙ ends_outside a.l e c.run_length-m.result turn.left turn.k run.0 run.1 run.3
    (sym c.is_inside-in-loop-left.ensures ∙ c.if-not-is_inside-2.true))

pub entry_at-k-requires : goal.entry_at-k-requires
entry_at-k-requires c =
    let a = c.args in
    let p = c.requires in
    let run = c.run_length-m in
    in_window a.l a.w.now (c.loop-left.k + run.result - 1) p (omega (arith, run.ensures))

pub returns-then-left-m : goal.returns-then-left-m
returns-then-left-m c =
    let a = c.args in
    let e = entry (fat1_of a.l (card_of a.w.now)) in
    let turn = c.loop-left in
    let run = c.run_length-m.ensures in
    let low = sym c.is_inside.ensures ∙ c.if-not-is_inside.false in
    let high = sym c.is_inside-in-loop-left.ensures ∙ c.if-not-is_inside-2.false in
    c.is_end.ensures ∙ ap is_end c.entry_at-k.ensures.0
    ∙ sym (turn.invariant ∙ ends_here a.l e _ turn.left turn.k run.0 run.1 run.3 low high c.if-left-m.true)

pub loop-left-preserved : goal.loop-left-preserved
loop-left-preserved c =
    let a = c.args in
    let e = entry (fat1_of a.l (card_of a.w.now)) in
    let turn = c.loop-left in
    let run = c.run_length-m.ensures in
    let low = sym c.is_inside.ensures ∙ c.if-not-is_inside.false in
    let high = sym c.is_inside-in-loop-left.ensures ∙ c.if-not-is_inside-2.false in
    turn.invariant ∙ ends_later a.l e _ turn.left turn.k run.0 run.1 run.3 low high c.if-left-m.false
    ∙ ap (ends_after a.l e (turn.left - c.run_length-m.result)) (sym c.entry_at-k.ensures.0)

pub returns : goal.returns
returns c =
    let a = c.args in
    let e = entry (fat1_of a.l (card_of a.w.now)) in
    let turn = c.loop-left in
    let z : turn.left ≡ 0 = omega (arith, c.loop-left-test.false) in
    sym (turn.invariant ∙ ap (λ (n : ℕ). ends_after a.l e n turn.k) z ∙ ends_zero a.l e turn.k)
