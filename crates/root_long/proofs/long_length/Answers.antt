use mathlib.Core.Path.{◌≡◌, sym, ap, ◌∙◌}
use Prim.Native.Nat.{ℕ, ◌*◌, ◌≤◌}
use native.Mathlib.Omega.{arith}
use borrow.Author.Tests.{eq-eqb}
use Rattle.model.specs.Sector.{card_of}
use Rattle.model.specs.Root.{Directory, slot_at}
use Rattle.model.specs.Long.{long_count}
use Rattle.model.specs.LongName.{long_length}
use Rattle.model.proofs.Scan.{sofar_none, none_below, first_is0}
use Rattle.model.proofs.Belong.{count_few, count_low}
use Rattle.root_long.proofs.long_length.Goals as goal

-- All the entries that belong to the slot stand before it, and are not many.
near : (d : Directory) (s n : ℕ) → n ≡ long_count d s → (n ≤ 20) × (n ≤ s)
near d s n e = (omega (arith, count_few d s), omega (arith, count_low d s))

pub overflow_mul-n : goal.overflow_mul-n
overflow_mul-n c =
    let a = c.args in
    omega (arith, near (slot_at a.l (card_of a.w.now)) a.s c.long_count-n.result c.long_count-n.ensures)

pub loop-q-init : goal.loop-q-init
loop-q-init c =
    let a = c.args in
    let few = near (slot_at a.l (card_of a.w.now)) a.s c.long_count-n.result c.long_count-n.ensures in
    (omega (arith, few.0), omega (arith, few.1), sofar_none _ _ _ _ (omega arith))

pub returns-then-character_at-eq0 : goal.returns-then-character_at-eq0
unfolding long_length
returns-then-character_at-eq0 c =
    let turn = c.loop-q in (
      sym (first_is0 _ _ turn.q (omega (arith, c.long_count-n.ensures)) (λ j less. turn.invariant.2 j (omega arith) less)
          (eq-eqb _ _ (sym c.character_at.ensures ∙ c.if-character_at-eq0.true))),
      omega arith,
      omega arith,
    )

pub returns : goal.returns
unfolding long_length
returns c =
    let n = ap (λ (n : ℕ). 13 * n) c.long_count-n.ensures in
    (n ∙ sym (none_below _ _ _ c.loop-q.invariant.2 (omega (arith, n))), omega arith, omega arith)
