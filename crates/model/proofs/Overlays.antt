-- Bytes laid over others, one more at a time.
use mathlib.Core.Path.{◌≡◌, sym, ap, ◌∙◌}
use mathlib.Core.Logic.{⊎_elim}
use mathlib.Core.Bool.{and-false}
use mathlib.Core.List.{List}
use Prim.Native.Nat.{ℕ, ◌+◌, ◌-◌, ◌<◌, ◌≤◌}
use native.Mathlib.Omega.{arith}
use lib.ListN.{length, get_or, set}
use lib.Dec.{ltb}
use lib.Seq.{get_or-set_same, get_or-set_other}
use borrow.Author.Tests.{le-leb, lt-leb, lt-ltb, le-ltb}
use Rattle.model.specs.Bytes.{Bytes, overlay, bytes_of, pick}
use Rattle.model.proofs.Tests.{same?, less?}

module _ (p : Bytes) (at : ℕ) (b : Bytes) where
  pub overlay_in : (n i : ℕ) → at ≤ i → i < at + n → overlay n p at b i ≡ p (i - at)
  unfolding overlay
  overlay_in n i l h = rw (le-leb at i l, lt-ltb i (at + n) h)

  pub overlay_below : (n i : ℕ) → i < at → overlay n p at b i ≡ b i
  unfolding overlay
  overlay_below n i h = rw (lt-leb at i h)

  pub overlay_above : (n i : ℕ) → at + n ≤ i → overlay n p at b i ≡ b i
  unfolding overlay
  overlay_above n i h = rw (le-ltb i (at + n) h, and-false)

  pub overlay_none : (i : ℕ) → overlay 0 p at b i ≡ b i
  overlay_none i = ⊎_elim (λ h. overlay_below 0 i h) (λ h. overlay_above 0 i (omega arith)) (less? i at)

  -- away from the next byte nothing changes
  pub overlay_other : (k i : ℕ) → (i ≡ at + k → ⊥) → overlay k p at b i ≡ overlay (k + 1) p at b i
  overlay_other k i ne =
      ⊎_elim
      (λ h. overlay_below k i h ∙ sym (overlay_below (k + 1) i h))
      (λ l. ⊎_elim
      (λ h. overlay_in k i l h ∙ sym (overlay_in (k + 1) i l (omega arith)))
      (λ h. overlay_above k i h ∙ sym (overlay_above (k + 1) i (omega arith)))
      (less? i (at + k)))
      (less? i at)

-- one byte more
pub overlay_more : (p : Bytes) (e out : List ℕ) (at k v : ℕ) → at + k < length out → v ≡ p k
    → ((i : ℕ) → get_or out i 0 ≡ overlay k p at (bytes_of e) i) → (i : ℕ) → get_or (set out (at + k) v) i 0 ≡ overlay (k + 1) p at (bytes_of e) i
overlay_more p e out at k v l is inv i =
    ⊎_elim
    (λ q.
    let z : k ≡ i - at = omega arith in
    rw q (get_or-set_same out (at + k) v 0 l) ∙ is ∙ ap p z ∙ sym (overlay_in p at (bytes_of e) (k + 1) i (omega arith) (omega arith)))
    (λ q. get_or-set_other out (at + k) i v 0 q ∙ inv i ∙ overlay_other p at (bytes_of e) k i q)
    (same? i (at + k))

-- Bytes laid over the first n.
pub over_first : (n : ℕ) (p b : Bytes) (i : ℕ) → overlay n p 0 b i ≡ pick (ltb i n) (p i) (b i)
over_first n p b i = ⊎_elim inside past (less? i n)
  where
    inside : i < n → overlay n p 0 b i ≡ pick (ltb i n) (p i) (b i)
    inside h =
        let lo : 0 ≤ i = omega arith in
        let hi : i < 0 + n = omega arith in
        let z : i - 0 ≡ i = omega arith in
        rw (lt-ltb i n h) (overlay_in p 0 b n i lo hi ∙ ap p z)

    past : n ≤ i → overlay n p 0 b i ≡ pick (ltb i n) (p i) (b i)
    past h =
        let lo : 0 + n ≤ i = omega arith in
        rw (le-ltb i n h) (overlay_above p 0 b n i lo)

pub overlay_front : (n : ℕ) (p b : Bytes) (i : ℕ) → i < n → overlay n p 0 b i ≡ p i
overlay_front n p b i h = over_first n p b i ∙ rw (lt-ltb i n h)
