-- The m-th number that a test holds of, as a loop finds it.
use Prim.Native.Nat.{ℕ, zero, suc, ◌+◌, ◌-◌, ◌≤◌, ◌<◌}
use native.Mathlib.Nat.{add-zero, zero-add, suc-add}
use native.Mathlib.Omega.{arith}
use mathlib.Core.Path.{◌≡◌, refl, sym, ap, ◌∙◌}
use mathlib.Core.Logic.{◌⊎◌, inl, inr, ⊎_elim}
use mathlib.Core.List.{List, [], ◌∷◌, ◌++◌}
use mathlib.Core.Bool.{Bool, true, false}
use lib.ListN.{length, get_or, get_or-append, get_or-eq_default}
use lib.Seq.{get_or-append-add}
use Rattle.model.specs.Bytes.{pick}
use Rattle.model.specs.Scan.{walk, count_from, indices_from, nth_from}
use Rattle.model.proofs.Tests.{told, same?}
use Rattle.model.proofs.Scan.{count_none, count_step}
use Rattle.model.proofs.Searches.{count_hit, count_miss, count_add, indices_count, indices_here}
use Rattle.model.proofs.Indices.{indices_all, all_get_or}

-- An element that is there, whatever stands for one that is not.
pub get_or_any : {A : Type 0} (xs : List A) (i : ℕ) (d e : A) → i < length xs → get_or xs i d ≡ get_or xs i e
get_or_any [] i d e h = absurd (omega arith)
get_or_any (x ∷ xs) zero d e h = refl
get_or_any (x ∷ xs) (suc i) d e h = get_or_any xs i d e (omega arith)

module _ (p : ℕ → Bool) where
  -- The numbers of a scan, in two parts.
  pub indices_add : (i n m : ℕ) → indices_from p i (n + m) ≡ indices_from p i n ++ indices_from p (i + n) m
  unfolding indices_from walk
  indices_add i zero m = rw (zero-add m, add-zero i)
  indices_add i (suc n) m =
      let e : i + suc n ≡ i + 1 + n = omega arith in
      rw (suc-add, e, indices_add (i + 1) n m) (go (p i) (indices_from p (i + 1) n) (indices_from p (i + 1 + n) m))
    where
      go : (b : Bool) (x y : List ℕ) → pick b (i ∷ (x ++ y)) (x ++ y) ≡ pick b (i ∷ x) x ++ y
      go true x y = refl
      go false x y = refl

  -- The m-th is among those after the first s, which have c: there it is number k.
  nth_drop : (i n m s c j r k : ℕ) → c ≡ count_from p i s → j ≡ i + s → r + s ≡ n → 1 ≤ k → k + c ≡ m → nth_from p i n m ≡ nth_from p j r k
  unfolding nth_from
  nth_drop i n m s c j r k counted at left some more =
      let xs = indices_from p i s in
      let is : n ≡ s + r = omega arith in
      let long : length xs ≡ c = indices_count p i s ∙ sym counted in
      let place : m - 1 ≡ length xs + (k - 1) = omega arith in
      let end : i + n ≡ j + r = omega arith in
      ap (λ (z : ℕ). get_or (indices_from p i z) (m - 1) (i + n)) is ∙ ap (λ zs. get_or zs (m - 1) (i + n)) (indices_add i s r)
      ∙ ap (λ (z : ℕ). get_or (xs ++ indices_from p (i + s) r) z (i + n)) place ∙ get_or-append-add xs (indices_from p (i + s) r) (k - 1) (i + n)
      ∙ ap (λ (z : ℕ). get_or (indices_from p z r) (k - 1) (i + n)) (sym at) ∙ ap (get_or (indices_from p j r) (k - 1)) end

  -- Where the first s numbers have enough, these decide.
  nth_take : (i n m s : ℕ) → s ≤ n → 1 ≤ m → m ≤ count_from p i s → nth_from p i n m ≡ nth_from p i s m
  unfolding nth_from
  nth_take i n m s low some enough =
      let xs = indices_from p i s in
      let is : n ≡ s + (n - s) = omega arith in
      let here : m - 1 < length xs = omega (arith, indices_count p i s) in
      ap (λ (z : ℕ). get_or (indices_from p i z) (m - 1) (i + n)) is ∙ ap (λ zs. get_or zs (m - 1) (i + n)) (indices_add i s (n - s))
      ∙ get_or-append xs (indices_from p (i + s) (n - s)) (i + n) (m - 1) here ∙ get_or_any xs (m - 1) (i + n) (i + s) here

  nth_here : (i n : ℕ) → 0 < n → p i ≡ true → nth_from p i n 1 ≡ i
  unfolding nth_from
  nth_here i n pos e = rw (indices_here p i n pos e)

  -- Where there are fewer, the end; where there are as many, a number before it.
  pub nth_end : (i n m : ℕ) → count_from p i n < m → nth_from p i n m ≡ i + n
  unfolding nth_from
  nth_end i n m few = get_or-eq_default (indices_from p i n) (i + n) {n = m - 1} (omega (arith, indices_count p i n))

  pub nth_inside : (i n m : ℕ) → 1 ≤ m → m ≤ count_from p i n → nth_from p i n m < i + n
  unfolding nth_from
  nth_inside i n m some enough =
      let xs = indices_from p i n in
      let here : m - 1 < length xs = omega (arith, indices_count p i n) in
      let less : get_or xs (m - 1) 0 < i + n = all_get_or (λ k. k < i + n) xs (indices_all (λ k. k < i + n) p i n (λ j lo hi e. hi)) (m - 1) here in
      rw (get_or_any xs (m - 1) (i + n) 0 here) less

-- The m-th has m - 1 before it.
pub record Placed (p : ℕ → Bool) (i m k : ℕ) : Type 0 where
  pub low : i ≤ k
  pub has : p k ≡ true
  pub before : count_from p i (k - i) + 1 ≡ m

module _ (p : ℕ → Bool) where
  -- One number more at the front: it counts c.
  placed_on : (i m x c k : ℕ) → c ≡ count_from p i 1 → x + c ≡ m → Placed p (i + 1) x k → Placed p i m k
  placed_on i m x c k one more h =
      let low = h.low in
      let s : 1 + (k - (i + 1)) ≡ k - i = omega arith in
      record { low = omega arith; has = h.has; before = omega (arith, rw s at (count_add p i 1 (k - (i + 1))), h.before) }

  abbrev AllPlaced : ℕ → ℕ → Type 0
  AllPlaced i n = (m : ℕ) → 1 ≤ m → m ≤ count_from p i n → Placed p i m (nth_from p i n m)

  pub nth_placed : (i n : ℕ) → AllPlaced i n
  nth_placed i zero m some enough = absurd (omega (arith, count_none p i))
  nth_placed i (suc n) m some enough = go (told (p i)) (nth_placed (i + 1) n)
    where
      further : AllPlaced (i + 1) n → (c x : ℕ) → c ≡ count_from p i 1 → x + c ≡ m → 1 ≤ x → Placed p i m (nth_from p i (suc n) m)
      further rest c x one more pos =
          let s : 1 + n ≡ suc n = omega arith in
          let split : count_from p i (suc n) ≡ count_from p i 1 + count_from p (i + 1) n = rw s at (count_add p i 1 n) in
          rw (nth_drop p i (suc n) m 1 c (i + 1) n x one refl (omega arith) pos more)
          (placed_on i m x c (nth_from p (i + 1) n x) one more (rest x pos (omega arith)))

      go : (p i ≡ true) ⊎ (p i ≡ false) → AllPlaced (i + 1) n → Placed p i m (nth_from p i (suc n) m)
      go (inl e) rest =
          let one : 1 ≡ count_from p i 1 = count_hit p i 0 0 i (sym (count_none p i)) (omega arith) e in
          ⊎_elim
          (λ first.
          let z : i - i ≡ 0 = omega arith in
          rw (first, nth_here p i (suc n) (omega arith) e) (record { low = omega arith; has = e; before = rw (z, count_none p i) refl }))
          (λ later. further rest 1 (m - 1) one (omega arith) (omega arith))
          (same? m 1)
      go (inr e) rest = further rest 0 m (count_miss p i 0 0 i (sym (count_none p i)) (omega arith) e) (omega arith) some

  -- Counted with it there are m, and before it fewer.
  module _ (i m k : ℕ) (at : Placed p i m k) where
    pub placed_here : (s : ℕ) → i + s ≡ k + 1 → count_from p i s ≡ m
    placed_here s e =
        let low = at.low in
        let t : k - i + 1 ≡ s = omega arith in
        let q : i + (k - i) ≡ k = omega arith in
        let one = rw (t, q, at.has) at (count_step p i (k - i)) in
        omega (arith, one, at.before)

    pub placed_below : (s : ℕ) → i + s ≤ k → count_from p i s < m
    placed_below s less =
        let t : s + (k - i - s) ≡ k - i = omega arith in
        omega (arith, rw t at (count_add p i s (k - i - s)), at.before)

-- ---- a search for the m-th of the n numbers from k on: it is the x-th from i on

pub record Seeks (p : ℕ → Bool) (k n m i x : ℕ) : Type 0 where
  pub low : k ≤ i
  pub high : i ≤ k + n
  pub some : 1 ≤ x
  pub same : nth_from p k n m ≡ nth_from p i (k + n - i) x

module _ {p : ℕ → Bool} {k n m : ℕ} where
  pub seeks_start : 1 ≤ m → Seeks p k n m k m
  seeks_start some = record { low = omega arith; high = omega arith; some = some; same = ap (λ (z : ℕ). nth_from p k z m) (omega arith) }

  module _ {i x : ℕ} (so : Seeks p k n m i x) where
    -- The s numbers from i on have c, too few: they are passed over.
    pub seeks_pass : (s : ℕ) {c j y : ℕ} → c ≡ count_from p i s → j ≡ i + s → j ≤ k + n → y + c ≡ x → 1 ≤ y → Seeks p k n m j y
    seeks_pass s {c = c} {j = j} {y = y} counted at below more some =
        record {
          low = omega (arith, so.low);
          high = below;
          some = some;
          same = so.same ∙ nth_drop p i (k + n - i) x s c j (k + n - j) y counted at (omega (arith, so.high)) some more;
        }

    -- So one number.
    pub seeks_hit : {y : ℕ} → i < k + n → y + 1 ≡ x → 1 ≤ y → p i ≡ true → Seeks p k n m (i + 1) y
    seeks_hit below more some e =
        seeks_pass 1 (count_hit p i 0 0 i (sym (count_none p i)) (omega arith) e) (omega arith) (omega arith) more some

    pub seeks_miss : {y : ℕ} → i < k + n → y ≡ x → p i ≡ false → Seeks p k n m (i + 1) y
    seeks_miss below e f =
        seeks_pass 1 (count_miss p i 0 0 i (sym (count_none p i)) (omega arith) f) (omega arith) (omega arith) (omega arith)
        (omega (arith, so.some))

    -- It has come to an end: at i, among the s numbers from i on, at the end.
    pub seeks_here : i < k + n → x ≡ 1 → p i ≡ true → i ≡ nth_from p k n m
    seeks_here below one e = sym (so.same ∙ ap (nth_from p i (k + n - i)) one ∙ nth_here p i (k + n - i) (omega arith) e)

    pub seeks_within : (s : ℕ) → i + s ≤ k + n → x ≤ count_from p i s → nth_from p i s x ≡ nth_from p k n m
    seeks_within s below enough = sym (so.same ∙ nth_take p i (k + n - i) x s (omega arith) so.some enough)

    pub seeks_end : k + n ≤ i → k + n ≡ nth_from p k n m
    seeks_end over =
        let none : k + n - i ≡ 0 = omega arith in
        let few : count_from p i (k + n - i) < x = rw none (omega (arith, count_none p i, so.some)) in
        sym (so.same ∙ nth_end p i (k + n - i) x few ∙ omega (arith, so.high))
