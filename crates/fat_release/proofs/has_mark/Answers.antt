use Prim.Native.Nat.{ℕ, ◌+◌, ◌/◌, ◌%◌}
use native.Mathlib.Omega.{arith}
use mathlib.Core.Path.{◌≡◌, sym, ap, ◌∙◌}
use borrow.Author.Tests.{eqb-true}
use lib.ListN.{get_or}
use Rattle.fat_release.proofs.Laws.{bit_zero, mark_past}
use Rattle.fat_release.proofs.has_mark.Goals as goal

pub returns-then-is_empty : goal.returns-then-is_empty
returns-then-is_empty c = λ e i h. mark_past c.args.marks.now (eqb-true _ _ (sym c.is_empty.ensures ∙ c.if-is_empty.true)) (c.args.at + i)

pub returns : goal.returns
returns c = λ e i h.
    let a = c.args in
    let z : (a.at + i) / 8 ≡ a.at / 8 + i / 8 = omega arith in
    bit_zero _ ((a.at + i) % 8) (ap (λ (y : ℕ). get_or a.marks.now y 0) z ∙ c.loop-i.invariant e (i / 8) (omega arith))
