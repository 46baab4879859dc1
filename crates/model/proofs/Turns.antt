-- Lists of stores as the turns of a loop: one list for each number, one after the other.
use Prim.Native.Nat.{ℕ, zero, suc, ◌+◌, ◌-◌, ◌<◌}
use native.Mathlib.Nat.{zero-add}
use native.Mathlib.Numerals.{add-one}
use native.Mathlib.Omega.{arith}
use mathlib.Core.Path.{◌≡◌, refl, sym, ap, ◌∙◌}
use mathlib.Core.Bool.{Bool, true, false}
use mathlib.Core.List.{List, [], ◌∷◌, ◌++◌, map, map-append, reverse, reverse-cons}
use Rattle.model.specs.Bytes.{pick}
use Rattle.model.specs.Scan.{indices, indices_from, range, walk}
use Rattle.model.specs.Sector.{Store}
use Rattle.model.specs.Promises.{up_to}
use Rattle.model.proofs.Scan.{indices_none, indices_step}
use Rattle.model.proofs.All.{All, all_append}
use Rattle.model.proofs.Cards.{Away}
use Rattle.model.proofs.Runs.{upto_away}

-- Turns that agree below n.
pub upto_same : (st ut : ℕ → List Store) (n : ℕ) → ((k : ℕ) → k < n → st k ≡ ut k) → up_to st n ≡ up_to ut n
unfolding up_to
upto_same st ut zero h = refl
upto_same st ut (suc n) h = rw (upto_same st ut n (λ k l. h k (omega arith)), h n (omega arith))

-- What holds of the stores of each turn holds of all.
pub upto_all : (P : Store → Type 0) (st : ℕ → List Store) (n : ℕ) → ((k : ℕ) → k < n → All P (st k)) → All P (up_to st n)
unfolding up_to
upto_all P st zero h = tt
upto_all P st (suc n) h = all_append P (up_to st n) (st n) (upto_all P st n (λ k l. h k (omega arith))) (h n (omega arith))

-- A store for each number that a test holds of, rising: the turn of a number is its store, or nothing.
module _ (f : ℕ → Store) (p : ℕ → Bool) where
  abbrev pub turn : ℕ → List Store
  turn k = pick (p k) (f k ∷ []) []

  picked : (b : Bool) (k : ℕ) → map f (pick b (k ∷ []) []) ≡ pick b (f k ∷ []) []
  picked true k = refl
  picked false k = refl

  pub map_indices : (n : ℕ) → map f (indices p n) ≡ up_to turn n
  unfolding up_to
  map_indices zero = rw (indices_none p 0)
  map_indices (suc n) =
      rw (← add-one n, indices_step p 0 n, map-append, zero-add n, map_indices n) (ap (λ (ss : List Store). up_to turn n ++ ss) (picked (p n) n))

  -- Its stores are at the sectors of the f k.
  turn_away : (k s : ℕ) (b : Bool) → (s ≡ (f k).sector → ⊥) → Away (pick b (f k ∷ []) []) s
  turn_away k s true out = (out, tt)
  turn_away k s false out = tt

  pub map_away : (n s : ℕ) → ((k : ℕ) → k < n → s ≡ (f k).sector → ⊥) → Away (map f (indices p n)) s
  map_away n s out = rw (map_indices n) (upto_away turn n s (λ k l. turn_away k s (p k) (out k l)))

-- Stores that agree below n, for the numbers that a test holds of.
pub map_same : (f g : ℕ → Store) (p : ℕ → Bool) (n : ℕ) → ((k : ℕ) → k < n → f k ≡ g k) → map f (indices p n) ≡ map g (indices p n)
map_same f g p n h =
    map_indices f p n ∙ upto_same (turn f p) (turn g p) n (λ k l. ap (λ (s : Store). pick (p k) (s ∷ []) []) (h k l)) ∙ sym (map_indices g p n)

-- A store for each of the n numbers from i on, falling.
pub map_falling : (f : ℕ → Store) (i n : ℕ) → map f (reverse (range i n)) ≡ up_to (λ k. f (i + (n - 1 - k)) ∷ []) n
unfolding up_to indices_from walk
map_falling f i zero = refl
map_falling f i (suc n) =
    let e : i + (suc n - 1 - n) ≡ i = omega arith in
    rw (reverse-cons i (range (i + 1) n), map-append, map_falling f (i + 1) n, e)
    (ap (λ (ss : List Store). ss ++ f i ∷ [])
    (upto_same (λ k. f (i + 1 + (n - 1 - k)) ∷ []) (λ k. f (i + (suc n - 1 - k)) ∷ []) n
    (λ k l. let e : i + 1 + (n - 1 - k) ≡ i + (suc n - 1 - k) = omega arith in rw e)))
