-- Laws of the slots of a name.
use Prim.Native.Nat.{ℕ, zero, suc, ◌-◌, ◌≤◌, ◌<◌}
use native.Mathlib.Omega.{arith}
use mathlib.Core.Path.{◌≡◌, refl, sym, ap, ◌∙◌}
use mathlib.Core.Logic.{◌⊎◌, inl, inr, ⊎_elim}
use mathlib.Core.List.{List, [], ◌∷◌, ◌++◌, map}
use mathlib.Core.Bool.{Bool, true, false, ◌||◌}
use lib.Dec.{leb, eqb}
use borrow.Author.Tests.{eq-eqb, ne_eqb, eqb-true, lt-leb, le-leb}
use Rattle.model.specs.Scan.{any, among}
use Rattle.model.specs.Long.{name_slots}
use Rattle.model.proofs.Tests.{told, same?, less?, clash, or_left, or_right, or_assoc}
use Rattle.model.proofs.All.{All, all_map}

-- Slot k is one of the n before slot s, or s.
abbrev pub OfName : ℕ → ℕ → ℕ → Type 0
OfName s n k = (k ≤ s) × (s - k ≤ n)

pub of_name? : (s n k : ℕ) → OfName s n k ⊎ (OfName s n k → ⊥)
of_name? s n k = go (less? s k) (less? n (s - k))
  where
    go : (s < k) ⊎ (k ≤ s) → (n < s - k) ⊎ (s - k ≤ n) → OfName s n k ⊎ (OfName s n k → ⊥)
    go (inl a) b = inr (λ h. omega (arith, h.0))
    go (inr a) (inl b) = inr (λ h. omega (arith, h.1))
    go (inr a) (inr b) = inl (a, b)

-- What holds of these holds of all of the list,
pub all_slots : (P : ℕ → Type 0) (s n : ℕ) → ((k : ℕ) → OfName s n k → P k) → All P (name_slots s n)
unfolding name_slots
all_slots P s zero h = (h s (omega arith, omega arith), tt)
all_slots P s (suc n) h = (h (s - suc n) (omega arith, omega arith), all_slots P s n (λ k w. h k (w.0, omega (arith, w.1))))

-- and a test that holds of one of them holds of one of the list; one that holds of none, of none.
pub some_slot : (p : ℕ → Bool) (s n k : ℕ) → OfName s n k → p k ≡ true → any (map p (name_slots s n)) ≡ true
unfolding name_slots any
some_slot p s zero k w h = let e : s ≡ k = omega (arith, w) in or_left (p s) false (ap p e ∙ h)
some_slot p s (suc n) k w h = ⊎_elim
    (λ e. or_left (p (s - suc n)) (any (map p (name_slots s n))) (ap p e ∙ h))
    (λ ne. or_right (p (s - suc n)) (any (map p (name_slots s n))) (some_slot p s n k (w.0, omega (arith, w)) h)) (same? (s - suc n) k)

pub no_slot : (p : ℕ → Bool) (s n : ℕ) → ((k : ℕ) → OfName s n k → p k ≡ false) → any (map p (name_slots s n)) ≡ false
unfolding name_slots any
no_slot p s zero h = rw (h s (omega arith, omega arith))
no_slot p s (suc n) h = rw (h (s - suc n) (omega arith, omega arith)) (no_slot p s n (λ k w. h k (w.0, omega (arith, w.1))))

pub of_name : (s n k : ℕ) → OfName s n k → among (name_slots s n) k ≡ true
of_name s n k w = some_slot (eqb k) s n k w (eq-eqb k k refl)

pub not_of_name : (s n k : ℕ) → (OfName s n k → ⊥) → among (name_slots s n) k ≡ false
not_of_name s n k ne = no_slot (eqb k) s n (λ i w. ne_eqb k i (λ e. ne (omega (arith, w), omega (arith, w))))

pub low_named : (s n k : ℕ) → among (name_slots s n) k ≡ true → k ≤ s
low_named s n k h = ⊎_elim (λ less. clash h (not_of_name s n k (λ w. omega (arith, w.0)))) (λ low. low) (less? s k)

-- A test of them need not be asked of slot s again.
pub own_tested : (q : ℕ → Bool) (s n : ℕ) → any (map q (name_slots s n)) ≡ (any (map q (name_slots s n)) || q s)
own_tested q s n = go (any (map q (name_slots s n))) (q s) (some_slot q s n s (omega arith, omega arith))
  where
    go : (a b : Bool) → (b ≡ true → a ≡ true) → a ≡ (a || b)
    go true b h = refl
    go false true h = h refl
    go false false h = refl

-- A test of a list with one more number; a number of it is of the list or is that one.
pub any_end : (q : ℕ → Bool) (ks : List ℕ) (j : ℕ) → any (map q (ks ++ (j ∷ []))) ≡ (any (map q ks) || q j)
unfolding any
any_end q [] j = go (q j)
  where
    go : (t : Bool) → (t || false) ≡ t
    go true = refl
    go false = refl
any_end q (i ∷ ks) j = ap (λ t. q i || t) (any_end q ks j) ∙ sym (or_assoc (q i) (any (map q ks)) (q j))

pub among_end : (ks : List ℕ) (j k : ℕ) → among (ks ++ (j ∷ [])) k ≡ (among ks k || eqb k j)
among_end ks j k = any_end (eqb k) ks j

pub either_among : (ks : List ℕ) (j k : ℕ) → among (ks ++ (j ∷ [])) k ≡ true → (among ks k ≡ true) ⊎ (k ≡ j)
either_among ks j k h = ⊎_elim (λ on. inl on) (λ off. inr (eqb-true k j (sym (rw off at (among_end ks j k)) ∙ h))) (told (among ks k))

-- So two comparisons tell whether a slot is one of them.
pub slot_test : (s n k : ℕ) → k ≤ s → leb (s - k) n ≡ among (name_slots s n) k
slot_test s n k le = ⊎_elim
    (λ less. lt-leb (s - k) n less ∙ sym (not_of_name s n k (λ w. omega (arith, w.1))))
    (λ few. le-leb (s - k) n few ∙ sym (of_name s n k (le, few))) (less? n (s - k))

-- A list's numbers are among it.
more_among : (i : ℕ) (ks js : List ℕ) → All (λ k. among ks k ≡ true) js → All (λ k. among (i ∷ ks) k ≡ true) js
unfolding any
more_among i ks js a = all_map (λ k. among ks k ≡ true) (λ k. among (i ∷ ks) k ≡ true) (λ k h. or_right (eqb k i) (among ks k) h) js a

pub each_among : (ks : List ℕ) → All (λ k. among ks k ≡ true) ks
unfolding any
each_among [] = tt
each_among (k ∷ ks) = (or_left (eqb k k) (among ks k) (eq-eqb k k refl), more_among k ks ks (each_among ks))
