-- Laws of links: how they go on, clusters that lie one after another, and the chain rule along these.
use Prim.Native.Nat.{ℕ, zero, suc, ◌+◌, ◌-◌, ◌*◌, ◌≤◌, ◌<◌}
use native.Mathlib.Nat.{mul-le-mul}
use native.Mathlib.Omega.{arith}
use mathlib.Core.Path.{◌≡◌, refl, sym, ap, ◌∙◌}
use mathlib.Core.List.{List}
use mathlib.Core.Bool.{Bool, true, false}
use lib.Dec.{ltb}
use lib.ListN.{length}
use borrow.Author.Tests.{ltb-true, ltb-false}
use Rattle.model.specs.Fat.{in_range, is_end}
use Rattle.model.specs.Chain.{ends_after}
use Rattle.model.specs.Promises.{Held}
use Rattle.model.specs.declared.Layout.{Layout}
use Rattle.model.proofs.Tests.{clash, between_is}
use Rattle.model.proofs.Walks.{inside, ends_one, ends_step, ends_inside, ends_rest}
use Rattle.fat_chain.specs.Links.{links, Adjacent}

module _ (e : ℕ → ℕ) where
  pub links_none : (k : ℕ) → links e 0 k ≡ k
  unfolding links
  links_none k = refl

  pub links_more : (n k : ℕ) → links e (n + 1) k ≡ e (links e n k)
  unfolding links
  links_more n k = let z : n + 1 ≡ suc n = omega arith in rw z

  pub links_shift : (n k : ℕ) → links e n (e k) ≡ links e (suc n) k
  unfolding links
  links_shift zero k = refl
  links_shift (suc n) k = ap e (links_shift n k)

  pub links_add : (n m k : ℕ) → links e m (links e n k) ≡ links e (n + m) k
  unfolding links
  links_add n zero k = let z : n + 0 ≡ n = omega arith in rw z
  links_add n (suc m) k = let z : n + suc m ≡ suc (n + m) = omega arith in rw z (ap e (links_add n m k))

  -- One cluster, and one more that follows on the card and in the chain.
  pub adjacent_one : (k : ℕ) → Adjacent e k 1
  unfolding links
  adjacent_one k zero less = omega arith
  adjacent_one k (suc i) less = absurd (omega arith)

  pub adjacent_more : (k m : ℕ) → 1 ≤ m → Adjacent e k m → e (k + m - 1) ≡ k + m → Adjacent e k (m + 1)
  adjacent_more k m some so next i less = go (ltb i m) refl
    where
      go : (t : Bool) → ltb i m ≡ t → links e i k ≡ k + i
      go true h = so i (ltb-true i m h)
      go false h =
          let high : m ≤ i = ltb-false i m h in
          let z : i ≡ m - 1 + 1 = omega arith in
          let last : k + (m - 1) ≡ k + m - 1 = omega arith in
          ap (λ (n : ℕ). links e n k) z ∙ links_more (m - 1) k ∙ ap e (so (m - 1) (omega arith) ∙ last) ∙ next ∙ omega arith

-- Any entry that a link can name lies in the window.
pub in_window : (l : Layout) (xs : List ℕ) (k : ℕ) → Held l xs → k < 65536 → 512 * l.fat1 + 2 * (k + 1) ≤ length xs
in_window l xs k h less =
    let m : 4085 * 1 ≤ l.clusters * l.factor = mul-le-mul h.fits.shape.many h.fits.shape.factor_low in
    omega arith

-- The chain rule along clusters that lie one after another: it does not hold if the last of them is out of range; if that and the first
-- are in range, it is decided after the last.
module _ (l : Layout) (e : ℕ → ℕ) where
  ends_along : (j left k : ℕ) → j < left → ((i : ℕ) → i < j → in_range l (k + i) ≡ true) → ((i : ℕ) → i < j → e (k + i) ≡ k + i + 1)
      → ends_after l e left k ≡ ends_after l e (left - j) (k + j)
  ends_along zero left k less in-it on =
      let z : left - 0 ≡ left = omega arith in
      let y : k + 0 ≡ k = omega arith in
      rw (z, y)
  ends_along (suc j) left k less in-it on =
      let y : k + 0 ≡ k = omega arith in
      let here : in_range l k ≡ true = rw y at (in-it 0 (omega arith)) in
      let next : e k ≡ k + 1 = ap e (sym y) ∙ on 0 (omega arith) ∙ omega arith in
      let a : left - 1 - j ≡ left - suc j = omega arith in
      let b : k + 1 + j ≡ k + suc j = omega arith in
      ends_step l e left k (omega arith) ∙ rw (here, next)
      (ends_along j (left - 1) (k + 1) (omega arith)
      (λ i h. let s : k + suc i ≡ k + 1 + i = omega arith in rw s at (in-it (suc i) (omega arith)))
      (λ i h. let s : k + suc i ≡ k + 1 + i = omega arith in rw s at (on (suc i) (omega arith)))
      ∙ (λ t. ends_after l e (a t) (b t)))

  reached : (j left k : ℕ) → j < left → ((i : ℕ) → i < j → e (k + i) ≡ k + i + 1) → ends_after l e left k ≡ true → in_range l (k + j) ≡ true
  reached zero left k less on h = let y : k ≡ k + 0 = omega arith in rw y at (ends_inside l e left k h)
  reached (suc j) zero k less on h = absurd (omega arith)
  reached (suc j) (suc zero) k less on h = absurd (omega arith)
  reached (suc j) (suc (suc n)) k less on h =
      let y : k + 0 ≡ k = omega arith in
      let next : e k ≡ k + 1 = ap e (sym y) ∙ on 0 (omega arith) ∙ omega arith in
      let z : k + 1 + j ≡ k + suc j = omega arith in
      rw z at (reached j (suc n) (k + 1) (omega arith)
      (λ i h. let s : k + suc i ≡ k + 1 + i = omega arith in rw s at (on (suc i) (omega arith)))
      (rw next at (ends_rest l e n k h)))

  module _ (m left k : ℕ) (some : 1 ≤ m) (le : m ≤ left) (run : Adjacent e k m) where
    on : (i : ℕ) → i < m - 1 → e (k + i) ≡ k + i + 1
    on i h = ap e (sym (run i (omega arith))) ∙ sym (links_more e i k) ∙ run (i + 1) (omega arith) ∙ omega arith

    last : k + (m - 1) ≡ k + m - 1
    last = omega arith

    pub ends_outside : in_range l (k + m - 1) ≡ false → ends_after l e left k ≡ false
    ends_outside out = go (ends_after l e left k) refl
      where
        go : (b : Bool) → ends_after l e left k ≡ b → ends_after l e left k ≡ false
        go false h = h
        go true h = clash (rw last at (reached (m - 1) left k (omega arith) on h)) out

    ends_run : in_range l k ≡ true → in_range l (k + m - 1) ≡ true → ends_after l e left k ≡ ends_after l e (left - m + 1) (k + m - 1)
    unfolding in_range
    ends_run low high =
        let a = inside l k low in
        let b = inside l (k + m - 1) high in
        let p : left - (m - 1) ≡ left - m + 1 = omega arith in
        ends_along (m - 1) left k (omega arith) (λ i h. between_is 2 (l.clusters + 1) (k + i) (omega arith) (omega arith)) on
        ∙ (λ t. ends_after l e (p t) (last t))

    module _ (low : in_range l k ≡ true) (high : in_range l (k + m - 1) ≡ true) where
      pub ends_here : left ≡ m → ends_after l e left k ≡ is_end (e (k + m - 1))
      ends_here same =
          let z : left - m + 1 ≡ 1 = omega arith in
          ends_run low high ∙ ap (λ n. ends_after l e n (k + m - 1)) z ∙ ends_one l e (k + m - 1) ∙ rw high refl

      pub ends_later : (left ≡ m → ⊥) → ends_after l e left k ≡ ends_after l e (left - m) (e (k + m - 1))
      ends_later more =
          let z : left - m + 1 - 1 ≡ left - m = omega arith in
          let many : 1 < left - m + 1 = omega (arith, more) in
          ends_run low high ∙ ends_step l e (left - m + 1) (k + m - 1) many ∙ rw (high, z) refl
