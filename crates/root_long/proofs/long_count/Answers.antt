use Prim.Native.Nat.{ℕ, ◌+◌, ◌-◌}
use native.Mathlib.Omega.{arith}
use mathlib.Core.Path.{sym, ap, ◌∙◌}
use mathlib.Core.Bool.{true}
use borrow.Author.Tests.{not-true, not-false}
use Rattle.model.specs.Sector.{card_of}
use Rattle.model.specs.Root.{Directory, slot_at}
use Rattle.model.specs.Long.{is_long}
use Rattle.model.proofs.Scan.{sofar_more}
use Rattle.model.proofs.Belong.{inner_test, count_past, count_over, count_found, count_broken}
use Rattle.root_long.proofs.long_count.Goals as goal

pub returns-then-s-i : goal.returns-then-s-i
returns-then-s-i c =
    let a = c.args in
    sym (count_past (slot_at a.l (card_of a.w.now)) a.s c.loop-i.i c.loop-i.invariant c.if-s-i.true)

pub returns-then-is_long : goal.returns-then-is_long
returns-then-is_long c =
    let a = c.args in
    let d : Directory = slot_at a.l (card_of a.w.now) in
    let s : ℕ = a.s in
    let i : ℕ = c.loop-i.i in
    let sum = c.from-sum.ensures ∙ c.checksum.ensures in
    sym (count_found d s i c.loop-i.invariant c.loop-i.auto.i (omega arith) (omega arith)
    (ap (λ x. is_long x (0x40 + i) (d (s - i))) (sym sum) ∙ sym c.is_long.ensures ∙ c.if-is_long.true))

pub returns-then-not-is_long : goal.returns-then-not-is_long
returns-then-not-is_long c =
    let a = c.args in
    let d : Directory = slot_at a.l (card_of a.w.now) in
    let s : ℕ = a.s in
    let i : ℕ = c.loop-i.i in
    let sum = c.from-sum.ensures ∙ c.checksum.ensures in
    sym (count_broken d s i c.loop-i.invariant c.loop-i.auto.i
    (ap (λ x. is_long x (0x40 + i) (d (s - i))) (sym sum) ∙ sym c.is_long.ensures ∙ c.if-is_long.false)
    (ap (λ x. is_long x i (d (s - i))) (sym sum) ∙ sym c.is_long-in-loop-i.ensures ∙ not-true _ c.if-not-is_long.true-raw))

pub loop-i-preserved : goal.loop-i-preserved
loop-i-preserved c =
    let a = c.args in
    let d : Directory = slot_at a.l (card_of a.w.now) in
    let s : ℕ = a.s in
    let i : ℕ = c.loop-i.i in
    let sum = c.from-sum.ensures ∙ c.checksum.ensures in
    sofar_more (inner_test d s) true 1 i c.loop-i.invariant
    (ap (λ x. is_long x i (d (s - i))) (sym sum) ∙ sym c.is_long-in-loop-i.ensures ∙ not-false _ c.if-not-is_long.false-raw)

pub returns : goal.returns
returns c =
    let a = c.args in
    sym (count_over (slot_at a.l (card_of a.w.now)) a.s c.loop-i.i c.loop-i.invariant (omega arith))
