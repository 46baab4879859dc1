-- Scans as loops make them: what was seen so far, and what a count says in the end.
use Prim.Native.Nat.{ℕ, zero, suc, ◌+◌, ◌-◌, ◌<◌, ◌≤◌}
use native.Mathlib.Nat.{add-zero, zero-add, suc-add}
use native.Mathlib.Omega.{arith}
use mathlib.Core.Path.{◌≡◌, refl, sym, ap, ◌∙◌}
use mathlib.Core.List.{◌∷◌}
use lib.ListN.{length}
use mathlib.Core.Logic.{⊎_elim}
use mathlib.Core.Bool.{Bool, true, false}
use Rattle.model.specs.Bytes.{pick}
use Rattle.model.specs.Scan.{walk, first_from, count_from, indices_from, all_from}
use Rattle.model.proofs.Tests.{told, less?, same?}
use Rattle.model.proofs.Scan.{Sofar, all_at, first_before, first_le, first_ge, count_step}

-- A count, one number further: k.
module _ (p : ℕ → Bool) (i n m k : ℕ) (so : m ≡ count_from p i n) (at : k ≡ i + n) where
  pub count_hit : p k ≡ true → m + 1 ≡ count_from p i (n + 1)
  count_hit h = rw (count_step p i n, ← at, h, so)

  pub count_miss : p k ≡ false → m ≡ count_from p i (n + 1)
  count_miss h = rw (count_step p i n, ← at, h) (so ∙ omega arith)

module _ (p : ℕ → Bool) where
  -- A count in two parts.
  pub count_add : (i n m : ℕ) → count_from p i (n + m) ≡ count_from p i n + count_from p (i + n) m
  unfolding count_from walk
  count_add i zero m = rw (zero-add m, add-zero i) (sym (zero-add (count_from p i m)))
  count_add i (suc n) m =
      let e : i + suc n ≡ i + 1 + n = omega arith in
      rw (suc-add, e, count_add (i + 1) n m) (go (p i) (count_from p (i + 1) n) (count_from p (i + 1 + n) m))
    where
      go : (b : Bool) (x y : ℕ) → pick b (suc (x + y)) (x + y) ≡ pick b (suc x) x + y
      go true x y = omega arith
      go false x y = refl

  pub count_all : (i n : ℕ) → ((k : ℕ) → i ≤ k → k < i + n → p k ≡ true) → count_from p i n ≡ n
  unfolding count_from walk
  count_all i zero h = refl
  count_all i (suc n) h = rw (h i (omega arith) (omega arith)) (ap suc (count_all (i + 1) n (λ k l m. h k (omega arith) (omega arith))))

  pub count_zero : (i n : ℕ) → ((k : ℕ) → i ≤ k → k < i + n → p k ≡ false) → count_from p i n ≡ 0
  unfolding count_from walk
  count_zero i zero h = refl
  count_zero i (suc n) h = rw (h i (omega arith) (omega arith)) (count_zero (i + 1) n (λ k l m. h k (omega arith) (omega arith)))

  count_first : (i n : ℕ) → p i ≡ true → count_from p i (suc n) ≡ suc (count_from p (i + 1) n)
  unfolding count_from walk
  count_first i n e = rw e

  -- What is there is counted.
  pub count_some : (i n k : ℕ) → i ≤ k → k < i + n → p k ≡ true → 1 ≤ count_from p i n
  count_some i n k l h e = ⊎_elim (λ q. absurd (none q)) (λ q. omega arith) (less? (count_from p i n) 1)
    where
      none : count_from p i n < 1 → ⊥
      none q =
          let s = count_add i (k - i) (suc (i + n - suc k)) in
          let f : k - i + suc (i + n - suc k) ≡ n = omega arith in
          let g : i + (k - i) ≡ k = omega arith in
          let t : count_from p k (suc (i + n - suc k)) ≡ suc (count_from p (k + 1) (i + n - suc k)) = count_first k (i + n - suc k) e in
          let u : count_from p i n ≡ count_from p i (k - i) + suc (count_from p (k + 1) (i + n - suc k)) = rw (f, g, t) at s in
          omega arith

  pub indices_count : (i n : ℕ) → length (indices_from p i n) ≡ count_from p i n
  unfolding indices_from count_from walk
  indices_count i zero = refl
  indices_count i (suc n) = go (p i) (indices_count (i + 1) n)
    where
      go : (b : Bool) → length (indices_from p (i + 1) n) ≡ count_from p (i + 1) n
          → length (pick b (i ∷ indices_from p (i + 1) n) (indices_from p (i + 1) n)) ≡ pick b (suc (count_from p (i + 1) n)) (count_from p (i + 1) n)
      go true h = ap suc h
      go false h = h

-- ---- the numbers that a scan gives, from the lowest on

module _ (p : ℕ → Bool) where
  pub indices_here : (i n : ℕ) → 0 < n → p i ≡ true → indices_from p i n ≡ i ∷ indices_from p (i + 1) (n - 1)
  unfolding indices_from walk
  indices_here i zero pos e = absurd (omega arith)
  indices_here i (suc n) pos e = let f : suc n - 1 ≡ n = omega arith in rw (e, f)

  -- Numbers that p does not hold of are passed over.
  pub indices_over : (i n r : ℕ) → i ≤ r → r ≤ i + n → Sofar p false i r → indices_from p i n ≡ indices_from p r (i + n - r)
  unfolding indices_from walk
  indices_over i zero r lo hi none = let f : i + 0 - r ≡ 0 = omega arith in rw f
  indices_over i (suc n) r lo hi none =
      ⊎_elim
      (λ e. let f : suc n ≡ i + suc n - i = omega arith in ap (indices_from p i) f ∙ ap (λ (z : ℕ). indices_from p z (i + suc n - z)) (sym e))
      (λ ne.
      let f : i + suc n - r ≡ i + 1 + n - r = omega arith in
      rw (none i (omega arith) (omega arith), f) (indices_over (i + 1) n r (omega arith) (omega arith) (λ m l h. none m (omega arith) h)))
      (same? r i)

  -- They begin with the first.
  pub indices_first : (i n : ℕ) → indices_from p i n ≡ indices_from p (first_from p i n) (i + n - first_from p i n)
  indices_first i n = indices_over i n (first_from p i n) (first_ge p i n) (first_le p i n) (first_before p i n)

-- ---- a search

-- A search that passes over numbers none of which is counted.
pub sofar_over : (p : ℕ → Bool) (i k n : ℕ) → Sofar p false i k → count_from p k n ≡ 0 → Sofar p false i (k + n)
sofar_over p i k n inv none m l h =
    ⊎_elim
    (λ low. inv m l low)
    (λ up. ⊎_elim (λ e. absurd (let s = count_some p k n m up h e in omega arith)) (λ e. e) (told (p m)))
    (less? m k)

-- A search that passes over numbers of each of which another test says enough.
pub sofar_past : (p q : ℕ → Bool) (v : Bool) (i k n : ℕ) → Sofar p v i k → all_from q k n ≡ true → ((m : ℕ) → q m ≡ true → p m ≡ v)
    → Sofar p v i (k + n)
sofar_past p q v i k n inv all tells m l h = ⊎_elim (λ low. inv m l low) (λ up. tells m (all_at q k n all m up h)) (less? m k)
