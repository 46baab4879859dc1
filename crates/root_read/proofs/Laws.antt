-- Sectors of slots that were never used, runs of free slots, and the bytes of a slot.
use Prim.Native.Nat.{ℕ, ◌+◌, ◌-◌, ◌*◌, ◌/◌, ◌%◌, ◌<◌, ◌≤◌}
use native.Mathlib.Omega.{arith}
use mathlib.Core.Path.{◌≡◌, sym, ap, ◌∙◌}
use mathlib.Core.Logic.{⊎_elim}
use mathlib.Core.Bool.{Bool, true, false, not, ◌||◌}
use lib.Dec.{eqb, leb}
use borrow.Author.Tests.{le-leb, lt-leb, eq-eqb, ne_eqb, not-true, not-false}
use Rattle.model.specs.Bytes.{Bytes}
use Rattle.model.specs.Scan.{all, all_from, first_from}
use Rattle.model.specs.Sector.{Card, card_of}
use Rattle.model.specs.Root.{root_place, slot_at, listed, bears, vacant, end_slot, root_ok}
use Rattle.model.specs.declared.Layout.{Layout}
use Rattle.model.specs.declared.Name.{Name}
use Rattle.model.proofs.Scan.{Sofar, all_of, all_not, all_at0, first_le, first_ge, first_has, first_before}
use Rattle.model.proofs.Tests.{less?, clash}
use lib.ListN.{get_or}
use mathlib.Core.List.{List}

-- The sixteen slots of a sector, each by its first byte.
pub blank_slots : (l : Layout) (c : Card) (k : ℕ) → k % 16 ≡ 0 → all (λ i. eqb (c (root_place l (k / 16)) (32 * i)) 0) 16 ≡ true
    → all_from (λ m. eqb (slot_at l c m 0) 0) k 16 ≡ true
unfolding slot_at
blank_slots l c k e h = all_of (λ m. eqb (slot_at l c m 0) 0) k 16 (λ m low less.
    let d : m / 16 ≡ k / 16 = omega arith in
    let z : 32 * (m % 16) + 0 ≡ 32 * (m % 16) = omega arith in
    rw (d, z) (all_at0 (λ i. eqb (c (root_place l (k / 16)) (32 * i)) 0) 16 h (m % 16) (omega arith)))

-- A slot that was never used is not listed, and bears no name.
pub blank_unlisted : (b : Bytes) → eqb (b 0) 0 ≡ true → listed b ≡ false
unfolding listed vacant
blank_unlisted b e = rw e

pub blank_nameless : (name : Name) (b : Bytes) → eqb (b 0) 0 ≡ true → bears name b ≡ false
unfolding bears
blank_nameless name b e = rw (blank_unlisted b e)

-- No m numbers of a kind one after another begin at or before one that is not of it: it is less than m after the lowest that might.
pub run_broken : (p : ℕ → Bool) (m i k : ℕ) → Sofar (λ j. all_from p j m) false 0 i → k < i + m → p k ≡ false
    → Sofar (λ j. all_from p j m) false 0 (k + 1)
run_broken p m i k none near h j low less =
    ⊎_elim (λ before. none j low before) (λ from. all_not p j m k (omega arith) (omega arith) h) (less? j i)

-- The bytes of slot k in a window.
pub slot_byte : (l : Layout) (w : List ℕ) (k a j : ℕ) → a ≡ 512 * root_place l (k / 16) + 32 * (k % 16) → j < 32 → get_or w (a + j) 0 ≡ slot_at l (card_of w) k j
unfolding slot_at
slot_byte l w k a j e h = ap (λ (z : ℕ). get_or w z 0) (omega arith)

-- No byte from z on, the lowest that is 0, is another, where none is found.
pub none_after : (n z : ℕ) (b : Bytes) (r : ℕ) → z ≡ end_slot n b → z ≤ n → r ≡ first_from (λ k. not (eqb (b k) 0)) z (n - z)
    → eqb r n ≡ root_ok n b
unfolding root_ok end_slot
none_after n z b r e h f =
    rw (← e) (⊎_elim none some (less? r n))
  where
    p : ℕ → Bool
    p k = leb k z || eqb (b k) 0

    q : ℕ → Bool
    q k = not (eqb (b k) 0)

    top : r ≤ n
    top = omega (arith, f, first_le q z (n - z))

    low : z ≤ r
    low = omega (arith, f, first_ge q z (n - z))

    -- z itself is not found
    later : r < n → z < r
    later l = ⊎_elim
        (λ g. g)
        (λ g.
        let same : r ≡ z = omega (arith, low) in
        let here : q z ≡ true = ap q (sym (sym f ∙ same)) ∙ first_has q z (n - z) (omega (arith, f)) in
        let zero : eqb (b z) 0 ≡ true = ap (λ k. eqb (b k) 0) e ∙ first_has (λ k. eqb (b k) 0) 0 n (omega (arith, e)) in
        clash here (ap not zero))
        (less? z r)

    none : r < n → eqb r n ≡ all p n
    none l =
        let here : q r ≡ true = ap q f ∙ first_has q z (n - z) (omega (arith, f)) in
        ne_eqb r n (λ k. omega arith) ∙ sym (all_not p 0 n r (omega arith) (omega arith) (rw (lt-leb r z (later l)) (not-true _ here)))

    some : n ≤ r → eqb r n ≡ all p n
    some l =
        eq-eqb r n (omega (arith, top))
        ∙ sym (all_of p 0 n (λ k from less. ⊎_elim
        (λ high. rw (lt-leb k z high) (not-false _ (first_before q z (n - z) k (omega arith) (omega (arith, f)))))
        (λ low. rw (le-leb k z low))
        (less? z k)))
