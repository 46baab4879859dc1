use mathlib.Core.Path.{◌≡◌, refl}
use Prim.Native.Nat.{◌+◌, ◌*◌, ◌/◌, ◌%◌}
use native.Mathlib.Omega.{arith}
use lib.Seq.{get_or-set_same, get_or-set_other}
use borrow.Author.Tests.{eq-eqb}
use Rattle.fat_release.specs.Release.{bit_of}
use Rattle.fat_release.proofs.Laws.{bit_zero, eight_more}
use Rattle.fat_release.proofs.clear_eight.Goals as goal
use Rattle.fat_release.proofs.clear_eight.Goals.{then-m-i-eq1, else-m-i-eq1}

pub returns-then-m-eq0 : goal.returns-then-m-eq0
returns-then-m-eq0 c = (λ j e. rw (c.if-m-eq0.true, bit_zero 0 (j / 2 % 8) refl), λ j ne. refl)

pub loop-i-init : goal.loop-i-init
loop-i-init c = record { done = λ j q l. absurd (omega arith); rest = λ j h. refl }

pub loop-i-preserved : goal.loop-i-preserved
unfolding bit_of
loop-i-preserved c =
    let a = c.args in
    let o = c.loop-i in
    let x = 16 * a.k + o.i in
    elim c.if-m-i-eq1.branch [
      | then-m-i-eq1 w ↦ rw w.buf-is (eight_more a.buf.now o.buf _ a.k a.m o.i (omega arith) o.invariant
          (rw (w.if-m-i-eq1.true) (get_or-set_same o.buf x 0 0 (omega arith))) (λ j ne. get_or-set_other o.buf x j 0 0 ne))
      | else-m-i-eq1 w ↦ let z : bit_of a.m (o.i / 2) ≡ 0 = omega (arith, w.if-m-i-eq1.false) in
          rw w.buf-is (eight_more a.buf.now o.buf o.buf a.k a.m o.i (omega arith) o.invariant
          (rw (eq-eqb (bit_of a.m (o.i / 2)) 0 z) refl) (λ j ne. refl))
    ]

pub returns : goal.returns
returns c =
    let so = c.loop-i.invariant in
    (λ j e. so.done j e (omega arith), λ j ne. so.rest j (λ e. absurd (ne e)))
