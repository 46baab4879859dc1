-- Laws of scans: what a scan over the n numbers from i on says, by the numbers themselves.
use Prim.Native.Nat.{ℕ, zero, suc, ◌+◌, ◌<◌, ◌≤◌}
use native.Mathlib.Nat.{add-zero}
use native.Mathlib.Omega.{arith}
use mathlib.Core.Path.{◌≡◌, refl, sym, ap, ◌∙◌}
use mathlib.Core.Logic.{◌⊎◌, inl, inr, ⊎_elim}
use mathlib.Core.Bool.{Bool, true, false}
use mathlib.Core.List.{List, [], ◌∷◌, ◌++◌}
use Rattle.model.specs.Bytes.{pick}
use Rattle.model.specs.Scan.{walk, first_from, all_from, count_from, indices_from}
use Rattle.model.proofs.Tests.{same?, less?, clash}

-- the first number from i on, or one after it
split : (i n k : ℕ) → i ≤ k → k < i + suc n → (k ≡ i) ⊎ (i + 1 ≤ k)
split i n k l h = ⊎_elim (λ e. inl e) (λ ne. inr (omega arith)) (same? k i)

-- scans of two tests that agree on the numbers scanned
pub walk_same : {A : Type 0} (hit miss : ℕ → A → A) (end : ℕ → A) (p q : ℕ → Bool) (i n : ℕ)
    → ((k : ℕ) → i ≤ k → k < i + n → p k ≡ q k) → walk hit miss end p i n ≡ walk hit miss end q i n
unfolding walk
walk_same hit miss end p q i zero h = refl
walk_same hit miss end p q i (suc n) h =
    rw (h i (omega arith) (omega arith), walk_same hit miss end p q (i + 1) n (λ k l m. h k (omega arith) (omega arith)))

module _ (p q : ℕ → Bool) (i n : ℕ) (h : (k : ℕ) → i ≤ k → k < i + n → p k ≡ q k) where
  pub all_same : all_from p i n ≡ all_from q i n
  unfolding all_from
  all_same = walk_same _ _ _ p q i n h

  pub first_same : first_from p i n ≡ first_from q i n
  unfolding first_from
  first_same = walk_same _ _ _ p q i n h

  pub count_same : count_from p i n ≡ count_from q i n
  unfolding count_from
  count_same = walk_same _ _ _ p q i n h

  pub indices_same : indices_from p i n ≡ indices_from q i n
  unfolding indices_from
  indices_same = walk_same _ _ _ p q i n h

module _ (p : ℕ → Bool) where
  pub all_of : (i n : ℕ) → ((k : ℕ) → i ≤ k → k < i + n → p k ≡ true) → all_from p i n ≡ true
  unfolding all_from walk
  all_of i zero h = refl
  all_of i (suc n) h = rw (h i (omega arith) (omega arith)) (all_of (i + 1) n (λ k l m. h k (omega arith) (omega arith)))

  -- one that fails is enough
  pub all_not : (i n k : ℕ) → i ≤ k → k < i + n → p k ≡ false → all_from p i n ≡ false
  unfolding all_from walk
  all_not i zero k l h e = absurd (omega arith)
  all_not i (suc n) k l h e = ⊎_elim (λ q. here (rw q at e)) (λ m. go (p i) (all_not (i + 1) n k m (omega arith) e)) (split i n k l h)
    where
      here : p i ≡ false → pick (p i) (all_from p (i + 1) n) false ≡ false
      here f = rw f

      go : (b : Bool) → all_from p (i + 1) n ≡ false → pick b (all_from p (i + 1) n) false ≡ false
      go true f = f
      go false f = refl

  pub all_at : (i n : ℕ) → all_from p i n ≡ true → (k : ℕ) → i ≤ k → k < i + n → p k ≡ true
  all_at i n h k l m = go (p k) refl
    where
      go : (b : Bool) → p k ≡ b → b ≡ true
      go true e = refl
      go false e = sym (all_not i n k l m e) ∙ h

  -- what no number has is found after the last
  pub first_none : (i n : ℕ) → ((k : ℕ) → i ≤ k → k < i + n → p k ≡ false) → first_from p i n ≡ i + n
  unfolding first_from walk
  first_none i zero h = sym (add-zero i)
  first_none i (suc n) h = rw (h i (omega arith) (omega arith)) (first_none (i + 1) n (λ k l m. h k (omega arith) (omega arith)) ∙ omega arith)

  -- r is found where it has p, and none below it has
  pub first_is : (i n r : ℕ) → i ≤ r → r < i + n → ((k : ℕ) → i ≤ k → k < r → p k ≡ false) → p r ≡ true → first_from p i n ≡ r
  unfolding first_from walk
  first_is i zero r l h none e = absurd (omega arith)
  first_is i (suc n) r l h none e =
      ⊎_elim
      (λ q. rw (rw q at e) (sym q))
      (λ m. rw (none i (omega arith) (omega arith)) (first_is (i + 1) n r m (omega arith) (λ k a b. none k (omega arith) b) e))
      (split i n r l h)

  pub first_le : (i n : ℕ) → first_from p i n ≤ i + n
  unfolding first_from walk
  first_le i zero = omega arith
  first_le i (suc n) = go (p i) (first_le (i + 1) n)
    where
      go : (b : Bool) → first_from p (i + 1) n ≤ i + 1 + n → pick b i (first_from p (i + 1) n) ≤ i + suc n
      go true h = omega arith
      go false h = omega arith

  pub first_ge : (i n : ℕ) → i ≤ first_from p i n
  unfolding first_from walk
  first_ge i zero = omega arith
  first_ge i (suc n) = go (p i) (first_ge (i + 1) n)
    where
      go : (b : Bool) → i + 1 ≤ first_from p (i + 1) n → i ≤ pick b i (first_from p (i + 1) n)
      go true h = omega arith
      go false h = omega arith

  -- none below what is found has p
  pub first_before : (i n k : ℕ) → i ≤ k → k < first_from p i n → p k ≡ false
  unfolding first_from walk
  first_before i zero k l h = absurd (omega arith)
  first_before i (suc n) k l h = go (p i) refl (first_before (i + 1) n k)
    where
      go : (b : Bool) → p i ≡ b → (i + 1 ≤ k → k < first_from p (i + 1) n → p k ≡ false) → p k ≡ false
      go true e f = absurd (let z : k < i = rw e at h in omega arith)
      go false e f =
          let z : k < first_from p (i + 1) n = rw e at h in
          ⊎_elim (λ q. rw q e) (λ m. f m z) (⊎_elim (λ x. inl x) (λ ne. inr (omega arith)) (same? k i))

  -- what is found has p
  pub first_has : (i n : ℕ) → first_from p i n < i + n → p (first_from p i n) ≡ true
  unfolding first_from walk
  first_has i zero h = absurd (omega arith)
  first_has i (suc n) h = go (p i) refl (first_has (i + 1) n)
    where
      go : (b : Bool) → p i ≡ b → (first_from p (i + 1) n < i + 1 + n → p (first_from p (i + 1) n) ≡ true) → p (pick b i (first_from p (i + 1) n)) ≡ true
      go true e f = e
      go false e f = f (let z : first_from p (i + 1) n < i + suc n = rw e at h in omega arith)

  -- one number more, at the end
  pub count_step : (i n : ℕ) → count_from p i (n + 1) ≡ count_from p i n + pick (p (i + n)) 1 0
  unfolding count_from walk
  count_step i zero = rw (add-zero i) (go (p i))
    where
      go : (b : Bool) → pick b 1 0 ≡ 0 + pick b 1 0
      go true = refl
      go false = refl
  count_step i (suc n) =
      let e : i + suc n ≡ i + 1 + n = omega arith in
      let f : suc n + 1 ≡ suc (n + 1) = omega arith in
      rw (e, f) (go (p i) (count_step (i + 1) n))
    where
      go : (b : Bool) → count_from p (i + 1) (n + 1) ≡ count_from p (i + 1) n + pick (p (i + 1 + n)) 1 0
          → pick b (suc (count_from p (i + 1) (n + 1))) (count_from p (i + 1) (n + 1)) ≡ pick b (suc (count_from p (i + 1) n))
          (count_from p (i + 1) n) + pick (p (i + 1 + n)) 1 0
      go true h = omega (arith, h)
      go false h = h

  pub count_le : (i n : ℕ) → count_from p i n ≤ n
  unfolding count_from walk
  count_le i zero = omega arith
  count_le i (suc n) = go (p i) (count_le (i + 1) n)
    where
      go : (b : Bool) → count_from p (i + 1) n ≤ n → pick b (suc (count_from p (i + 1) n)) (count_from p (i + 1) n) ≤ suc n
      go true h = omega arith
      go false h = omega arith

  -- those that have p are all from the first on
  pub first_count : (i n : ℕ) → first_from p i n + count_from p i n ≤ i + n
  unfolding first_from count_from walk
  first_count i zero = omega arith
  first_count i (suc n) = go (p i) (first_count (i + 1) n) (count_le (i + 1) n)
    where
      go : (b : Bool) → first_from p (i + 1) n + count_from p (i + 1) n ≤ i + 1 + n → count_from p (i + 1) n ≤ n
          → pick b i (first_from p (i + 1) n) + pick b (suc (count_from p (i + 1) n)) (count_from p (i + 1) n) ≤ i + suc n
      go true h l = omega arith
      go false h l = omega arith

  pub count_none : (i : ℕ) → count_from p i 0 ≡ 0
  unfolding count_from walk
  count_none i = refl

  pub indices_none : (i : ℕ) → indices_from p i 0 ≡ []
  unfolding indices_from walk
  indices_none i = refl

  pub indices_step : (i n : ℕ) → indices_from p i (n + 1) ≡ indices_from p i n ++ pick (p (i + n)) ((i + n) ∷ []) []
  unfolding indices_from walk
  indices_step i zero = rw (add-zero i) (go (p i))
    where
      go : (b : Bool) → pick b (i ∷ []) [] ≡ [] ++ pick b (i ∷ []) []
      go true = refl
      go false = refl
  indices_step i (suc n) =
      let e : i + suc n ≡ i + 1 + n = omega arith in
      let f : suc n + 1 ≡ suc (n + 1) = omega arith in
      rw (e, f) (go (p i) (indices_step (i + 1) n))
    where
      go : (b : Bool) → indices_from p (i + 1) (n + 1) ≡ indices_from p (i + 1) n ++ pick (p (i + 1 + n)) ((i + 1 + n) ∷ []) []
          → pick b (i ∷ indices_from p (i + 1) (n + 1)) (indices_from p (i + 1) (n + 1)) ≡ pick b (i ∷ indices_from p (i + 1) n)
          (indices_from p (i + 1) n) ++ pick (p (i + 1 + n)) ((i + 1 + n) ∷ []) []
      go true h = ap (λ (x : List ℕ). i ∷ x) h
      go false h = h

-- what a loop over the numbers from i to k has seen
abbrev pub Sofar : (ℕ → Bool) → Bool → ℕ → ℕ → Type 0
Sofar p v i k = (m : ℕ) → i ≤ m → m < k → p m ≡ v

module _ (p : ℕ → Bool) (v : Bool) (i : ℕ) where
  pub sofar_none : (k : ℕ) → k ≤ i → Sofar p v i k
  sofar_none k l m a b = absurd (omega arith)

  pub sofar_more : (k : ℕ) → Sofar p v i k → p k ≡ v → Sofar p v i (k + 1)
  sofar_more k inv here m l h = ⊎_elim (λ e. rw e here) (λ ne. inv m l (omega arith)) (same? m k)

  pub sofar_cut : (k j : ℕ) → Sofar p v i k → j ≤ k → Sofar p v i j
  sofar_cut k j inv le m l h = inv m l (omega arith)

-- what a search from 0 on has not found
pub none_below : (p : ℕ → Bool) (n k : ℕ) → Sofar p false 0 k → n ≤ k → first_from p 0 n ≡ n
none_below p n k inv l = first_none p 0 n (sofar_cut p false 0 k (0 + n) inv (omega arith)) ∙ omega arith

module _ (p : ℕ → Bool) where
  -- what none of the numbers below k has is not found below k
  pub first_above : (i n k : ℕ) → k ≤ i + n → ((j : ℕ) → i ≤ j → j < k → p j ≡ false) → k ≤ first_from p i n
  first_above i n k l h = ⊎_elim (λ less. go less) (λ le. le) (less? (first_from p i n) k)
    where
      go : first_from p i n < k → k ≤ first_from p i n
      go less = clash (first_has p i n (omega arith)) (h (first_from p i n) (first_ge p i n) less)

  -- what holds of all that p holds of is found no later
  pub first_mono : (q : ℕ → Bool) (i n : ℕ) → ((j : ℕ) → p j ≡ true → q j ≡ true) → first_from q i n ≤ first_from p i n
  first_mono q i n h = ⊎_elim go (λ le. le) (less? (first_from p i n) (first_from q i n))
    where
      go : first_from p i n < first_from q i n → first_from q i n ≤ first_from p i n
      go less =
          let le : first_from q i n ≤ i + n = first_le q i n in
          clash (h (first_from p i n) (first_has p i n (omega arith))) (first_before q i n (first_from p i n) (first_ge p i n) less)

-- scans of the numbers below n
module _ (p : ℕ → Bool) (n : ℕ) where
  pub all_of0 : ((j : ℕ) → j < n → p j ≡ true) → all_from p 0 n ≡ true
  all_of0 h = all_of p 0 n (λ k lo hi. h k (omega arith))

  pub all_at0 : all_from p 0 n ≡ true → (j : ℕ) → j < n → p j ≡ true
  all_at0 h j less = all_at p 0 n h j (omega arith) (omega arith)

  pub first_le0 : first_from p 0 n ≤ n
  first_le0 = let h : first_from p 0 n ≤ 0 + n = first_le p 0 n in omega arith

  pub first_before0 : (j : ℕ) → j < first_from p 0 n → p j ≡ false
  first_before0 j less = first_before p 0 n j (omega arith) less

  pub first_upto0 : (k : ℕ) → p k ≡ true → first_from p 0 n ≤ k
  first_upto0 k h = ⊎_elim (λ less. clash h (first_before0 k less)) (λ le. le) (less? k (first_from p 0 n))

  pub first_has0 : first_from p 0 n < n → p (first_from p 0 n) ≡ true
  first_has0 h = first_has p 0 n (omega arith)

  pub first_above0 : (k : ℕ) → k ≤ n → ((j : ℕ) → j < k → p j ≡ false) → k ≤ first_from p 0 n
  first_above0 k le h = first_above p 0 n k (omega arith) (λ j lo less. h j less)

  pub first_is0 : (r : ℕ) → r < n → ((j : ℕ) → j < r → p j ≡ false) → p r ≡ true → first_from p 0 n ≡ r
  first_is0 r less none h = first_is p 0 n r (omega arith) (omega arith) (λ k lo hi. none k hi) h
