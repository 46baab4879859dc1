-- Lists that are filled from the front, and lists of which a part was lent.
use mathlib.Core.Path.{◌≡◌, refl, sym, ap, ◌∙◌, fun_ext}
use mathlib.Core.Logic.{⊎_elim}
use mathlib.Core.List.{List, [], ◌∷◌, ◌++◌}
use Prim.Native.Nat.{ℕ, zero, suc, ◌+◌, ◌<◌, ◌≤◌}
use native.Mathlib.Omega.{arith}
use lib.ListN.{length, get_or, set, replicate, take, drop, get_or-append}
use lib.Seq.{get_or-set_same, get_or-set_other, length-take-le, get_or-append-add, get_or-take, get_or-drop}
use Rattle.model.specs.Bytes.{bytes_of, zeros}
use Rattle.model.proofs.Tests.{same?}

-- an array of zeros has no other byte
pub zero_at : (n i : ℕ) → ◌≡◌ {A = ℕ} (get_or (replicate n 0) i 0) 0
zero_at zero i = refl
zero_at (suc n) zero = refl
zero_at (suc n) (suc i) = zero_at n i

pub all_zero : (n : ℕ) → bytes_of (replicate n 0) ≡ zeros
all_zero n = fun_ext (λ i. zero_at n i)

-- a store at j, after stores below j
pub copied_more : (f : ℕ → ℕ) (l : List ℕ) (j : ℕ) → j < length l → ((m : ℕ) → m < j → get_or l m 0 ≡ f m) → (m : ℕ) → m < j + 1 → get_or (set l j (f j)) m 0 ≡ f m
copied_more f l j h inv m lt =
    ⊎_elim
    (λ e. rw e (get_or-set_same l j (f j) 0 h))
    (λ ne. get_or-set_other l j m (f j) 0 ne ∙ inv m (omega arith))
    (same? m j)

module _ (xs ys : List ℕ) (a k : ℕ) (fits : a + k ≤ length xs) (whole : length ys ≡ k) where
  -- xs after its k elements from a were lent and came back as ys
  abbrev pub back : List ℕ
  back = take a xs ++ (ys ++ drop k (drop a xs))

  past : (r : List ℕ) (n : ℕ) → get_or (take a xs ++ r) (a + n) 0 ≡ get_or r n 0
  past r n = ap (λ (z : ℕ). get_or (take a xs ++ r) (z + n) 0) (sym (length-take-le a xs (omega arith))) ∙ get_or-append-add (take a xs) r n 0

  pub back_below : (i : ℕ) → i < a → get_or back i 0 ≡ get_or xs i 0
  back_below i h =
      let s : i < length (take a xs) = rw (length-take-le a xs (omega arith)) h in
      get_or-append (take a xs) (ys ++ drop k (drop a xs)) 0 i s ∙ get_or-take a xs i 0 h

  pub back_in : (n : ℕ) → n < k → get_or back (a + n) 0 ≡ get_or ys n 0
  back_in n h = past (ys ++ drop k (drop a xs)) n ∙ get_or-append ys (drop k (drop a xs)) 0 n (omega arith)

  pub back_above : (n : ℕ) → get_or back (a + (k + n)) 0 ≡ get_or xs (a + (k + n)) 0
  back_above n =
      past (ys ++ drop k (drop a xs)) (k + n)
      ∙ ap (λ (z : ℕ). get_or (ys ++ drop k (drop a xs)) (z + n) 0) (sym whole)
      ∙ get_or-append-add ys (drop k (drop a xs)) n 0
      ∙ get_or-drop k (drop a xs) n 0
      ∙ get_or-drop a xs (k + n) 0

pub drop_all : (n : ℕ) (ks : List ℕ) → length ks ≤ n → drop n ks ≡ []
drop_all zero [] h = refl
drop_all zero (k ∷ ks) h = absurd (omega arith)
drop_all (suc n) [] h = refl
drop_all (suc n) (k ∷ ks) h = drop_all n ks (omega arith)
