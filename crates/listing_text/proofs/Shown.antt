-- Laws of names as the listing shows them.
use Prim.Native.Nat.{ℕ, zero, suc, ◌+◌, ◌-◌, ◌<◌, ◌≤◌}
use native.Mathlib.Omega.{arith}
use native.Mathlib.Nat.{zero-add}
use mathlib.Core.Path.{◌≡◌, refl, sym, ap, ◌∙◌, fun_ext}
use mathlib.Core.Logic.{⊎_elim}
use mathlib.Core.Bool.{true, false}
use mathlib.Core.List.{List, [], ◌∷◌, ◌++◌, map, append-nil, append_assoc, map-append}
use lib.ListN.{length}
use lib.Dec.{eqb}
use Rattle.model.specs.Bytes.{Bytes, part}
use Rattle.model.specs.Scan.{walk, indices_from, all_from, range}
use Rattle.model.specs.Listing.{shown_byte, trimmed, dotted, shown_name}
use Rattle.model.proofs.Tests.{less?}
use Rattle.model.proofs.Scan.{first_is, first_none, all_of, all_not, indices_step}
use Rattle.listing_text.specs.Wrote.{trimmed_length, shown}

range_suc : (i n : ℕ) → range i (suc n) ≡ i ∷ range (i + 1) n
unfolding indices_from walk
range_suc i n = refl

range_zero : (i : ℕ) → range i zero ≡ []
unfolding indices_from walk
range_zero i = refl

module _ (f : ℕ → ℕ) where
  image_length : (i n : ℕ) → length (map f (range i n)) ≡ n
  image_length i zero = rw (range_zero i)
  image_length i (suc n) = rw (range_suc i n) (ap suc (image_length (i + 1) n))

pub shown_length : (k : ℕ) (b : Bytes) → length (shown k b) ≡ k
unfolding shown
shown_length k b = image_length (λ i. shown_byte (b i)) 0 k

-- One byte more.
pub shown_more : (n : ℕ) (b : Bytes) → shown (n + 1) b ≡ shown n b ++ (shown_byte (b n) ∷ [])
unfolding shown
shown_more n b = ap (map (λ i. shown_byte (b i))) (indices_step (λ k. true) 0 n) ∙ map-append (λ i. shown_byte (b i)) (range 0 n) ((0 + n) ∷ [])
    ∙ ap (λ (i : ℕ). shown n b ++ (shown_byte (b i) ∷ [])) (zero-add n)

pub shown_none : (b : Bytes) → shown 0 b ≡ []
unfolding shown
shown_none b = ap (map (λ i. shown_byte (b i))) (range_zero 0)

-- Only spaces from k on, and none just before.
module _ (n : ℕ) (b : Bytes) (k : ℕ) (fits : k ≤ n) (spaces : (j : ℕ) → k ≤ j → j < n → eqb (b j) 32 ≡ true) where
  none : (k ≡ 0 → ⊥) → eqb (b (k - 1)) 32 ≡ false → (m : ℕ) → m < k → all_from (λ j. eqb (b j) 32) m (n - m) ≡ false
  none pos last m h = all_not (λ j. eqb (b j) 32) m (n - m) (k - 1) (omega arith) (omega arith) last

  all_spaces : all_from (λ j. eqb (b j) 32) k (n - k) ≡ true
  all_spaces = all_of (λ j. eqb (b j) 32) k (n - k) (λ j lo hi. spaces j lo (omega arith))

  pub trimmed_at : (k ≡ 0 → ⊥) → eqb (b (k - 1)) 32 ≡ false → trimmed_length n b ≡ k
  unfolding trimmed_length
  trimmed_at pos last =
      ⊎_elim
      (λ l. first_is (λ m. all_from (λ j. eqb (b j) 32) m (n - m)) 0 n k (omega arith) (omega arith) (λ m lo hi. none pos last m hi) all_spaces)
      (λ l.
      let e : 0 + n ≡ k = omega arith in
      first_none (λ m. all_from (λ j. eqb (b j) 32) m (n - m)) 0 n (λ m lo hi. none pos last m (omega arith)) ∙ e)
      (less? k n)

  pub trimmed_away : k ≡ 0 → trimmed_length n b ≡ 0
  unfolding trimmed_length
  trimmed_away e =
      ⊎_elim
      (λ l. first_is (λ m. all_from (λ j. eqb (b j) 32) m (n - m)) 0 n 0 (omega arith) (omega arith) (λ m lo hi. absurd (omega arith)) (rw e at all_spaces))
      (λ l.
      let z : n ≡ 0 = omega arith in
      rw z (first_none (λ m. all_from (λ j. eqb (b j) 32) m (0 - m)) 0 0 (λ m lo hi. absurd (omega arith))))
      (less? 0 n)

-- A name without and with an extension.
dotted_some : (xs : List ℕ) → (length xs ≡ 0 → ⊥) → dotted xs ≡ 46 ∷ xs
unfolding dotted
dotted_some [] h = absurd (h refl)
dotted_some (x ∷ xs) h = refl

dotted_none : (xs : List ℕ) → length xs ≡ 0 → dotted xs ≡ []
unfolding dotted
dotted_none [] h = refl
dotted_none (x ∷ xs) h = absurd (omega arith)

trimmed_is : (n : ℕ) (b : Bytes) → trimmed n b ≡ shown (trimmed_length n b) b
unfolding trimmed shown trimmed_length
trimmed_is n b = refl

-- A name, by how many bytes of its stem and of its extension are shown.
module _ (b : Bytes) (f : ℕ) {n e : ℕ} (stem : n ≡ trimmed_length 8 (part b f)) (extension : e ≡ trimmed_length 3 (part b (f + 8))) where
  second : part (part b f) 8 ≡ part b (f + 8)
  second = fun_ext (λ k. ap b (omega arith))

  pub name_short : e ≡ 0 → shown_name (part b f) ≡ shown n (part b f)
  unfolding shown_name
  name_short z =
      let x : List ℕ = shown (trimmed_length 3 (part b (f + 8))) (part b (f + 8)) in
      let d : dotted x ≡ [] = dotted_none x (shown_length (trimmed_length 3 (part b (f + 8))) (part b (f + 8)) ∙ sym extension ∙ z) in
      rw (second, trimmed_is 8 (part b f), trimmed_is 3 (part b (f + 8)), d, ← stem) (append-nil (shown n (part b f)))

  pub name_long : (e ≡ 0 → ⊥) → shown_name (part b f) ≡ (shown n (part b f) ++ (46 ∷ [])) ++ shown e (part b (f + 8))
  unfolding shown_name
  name_long some =
      let x : List ℕ = shown e (part b (f + 8)) in
      let d : dotted x ≡ 46 ∷ x = dotted_some x (λ z. some (sym (shown_length e (part b (f + 8))) ∙ z)) in
      rw (second, trimmed_is 8 (part b f), trimmed_is 3 (part b (f + 8)), ← stem, ← extension, d)
      (sym (append_assoc (shown n (part b f)) (46 ∷ []) x))
