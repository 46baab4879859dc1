-- Laws of lists of numbers: those that a scan gives, distinct ones, and how many distinct ones there can be.
use Prim.Native.Nat.{ℕ, zero, suc, ◌+◌, ◌≤◌, ◌<◌}
use native.Mathlib.Omega.{arith}
use mathlib.Core.Path.{◌≡◌, refl, sym, ap, subst}
use mathlib.Core.Logic.{◌⊎◌, inl, inr, ⊎_elim}
use mathlib.Core.List.{List, [], ◌∷◌, ◌++◌, map, Memᴰ}
use mathlib.Core.Bool.{Bool, true, false}
use lib.Dec.{eqb}
use lib.ListN.{length, get_or, take}
use borrow.Author.Tests.{ne_eqb, eq-eqb}
use Rattle.model.specs.Bytes.{pick}
use Rattle.model.specs.Scan.{indices_from, walk, any, count_from}
use Rattle.model.proofs.Tests.{by_pick, same?, clash}
use Rattle.model.proofs.Scan.{count_same, count_le}
use Rattle.model.proofs.All.{All, all_take, all_append}

-- ---- members

abbrev pub Has : ℕ → List ℕ → Type 0
Has n [] = ⊥
Has n (k ∷ ks) = (n ≡ k) ⊎ Has n ks

pub all_mem : {A : Type 0} (P : A → Type 0) (xs : List A) → ((x : A) → Memᴰ x xs → P x) → All P xs
all_mem P [] h = tt
all_mem P (x ∷ xs) h = (h x (Memᴰ.head refl), all_mem P xs (λ y m. h y (Memᴰ.tail m)))

pub mem_all : {A : Type 0} (P : A → Type 0) (xs : List A) → All P xs → (x : A) → Memᴰ x xs → P x
mem_all {A = A} P [] h x x4 = elim x4 [ ]
mem_all P (y ∷ xs) h x (Memᴰ.head e) = subst P (sym e) h.0
mem_all P (y ∷ xs) h x (Memᴰ.tail m) = mem_all P xs h.1 x m

pub mem_get_or : (ks : List ℕ) (i : ℕ) → i < length ks → Memᴰ (get_or ks i 0) ks
mem_get_or [] i less = absurd (omega arith)
mem_get_or (k ∷ ks) zero less = Memᴰ.head refl
mem_get_or (k ∷ ks) (suc i) less = Memᴰ.tail (mem_get_or ks i (omega arith))

pub all_get_or : (P : ℕ → Type 0) (ks : List ℕ) → All P ks → (i : ℕ) → i < length ks → P (get_or ks i 0)
all_get_or P [] a i less = absurd (omega arith)
all_get_or P (k ∷ ks) a zero less = a.0
all_get_or P (k ∷ ks) a (suc i) less = all_get_or P ks a.1 i (omega arith)

-- An element below a bound, or the default 0.
pub get_or_below : (m : ℕ) (ks : List ℕ) (i : ℕ) → 0 < m → All (λ k. k < m) ks → get_or ks i 0 < m
get_or_below m [] i pos a = pos
get_or_below m (k ∷ ks) zero pos a = a.0
get_or_below m (k ∷ ks) (suc i) pos a = get_or_below m ks i pos a.1

-- ---- the numbers that a scan gives

pub indices_all : (P : ℕ → Type 0) (p : ℕ → Bool) (i n : ℕ) → ((j : ℕ) → i ≤ j → j < i + n → p j ≡ true → P j) → All P (indices_from p i n)
unfolding indices_from walk
indices_all P p i zero h = tt
indices_all P p i (suc n) h =
    let rest : All P (indices_from p (i + 1) n) = indices_all P p (i + 1) n (λ j lo hi e. h j (omega arith) (omega arith) e) in
    by_pick (All P) (p i) (i ∷ indices_from p (i + 1) n) (indices_from p (i + 1) n) (λ e. (h i (omega arith) (omega arith) e, rest)) (λ _. rest)

pub indices_has : (p : ℕ → Bool) (i n j : ℕ) → i ≤ j → j < i + n → p j ≡ true → Has j (indices_from p i n)
unfolding indices_from walk
indices_has p i zero j lo hi e = absurd (omega arith)
indices_has p i (suc n) j lo hi e =
    by_pick (Has j) (p i) (i ∷ indices_from p (i + 1) n) (indices_from p (i + 1) n)
    (λ _. ⊎_elim (λ q. inl q) (λ ne. inr (indices_has p (i + 1) n j (omega arith) (omega arith) e)) (same? j i))
    (λ f. indices_has p (i + 1) n j (later f (same? j i)) (omega arith) e)
  where
    later : p i ≡ false → (j ≡ i) ⊎ (j ≡ i → ⊥) → i + 1 ≤ j
    later f (inl q) = clash e (rw q f)
    later f (inr ne) = omega arith

pub indices_empty : (p : ℕ → Bool) (i n : ℕ) → ((j : ℕ) → i ≤ j → j < i + n → p j ≡ false) → indices_from p i n ≡ []
unfolding indices_from walk
indices_empty p i zero h = refl
indices_empty p i (suc n) h = rw (h i (omega arith) (omega arith)) (indices_empty p (i + 1) n (λ j lo hi. h j (omega arith) (omega arith)))

pub indices_length : (p : ℕ → Bool) (i n : ℕ) → length (indices_from p i n) ≤ n
unfolding indices_from walk
indices_length p i zero = omega arith
indices_length p i (suc n) =
    let r : length (indices_from p (i + 1) n) ≤ n = indices_length p (i + 1) n in
    by_pick (λ ks. length ks ≤ suc n) (p i) (i ∷ indices_from p (i + 1) n) (indices_from p (i + 1) n) (λ _. omega arith) (λ _. omega arith)

-- those below n
module _ (p : ℕ → Bool) (n : ℕ) where
  pub indices_all0 : (P : ℕ → Type 0) → ((j : ℕ) → j < n → p j ≡ true → P j) → All P (indices_from p 0 n)
  indices_all0 P h = indices_all P p 0 n (λ j lo hi e. h j (omega arith) e)

  pub indices_has0 : (j : ℕ) → j < n → p j ≡ true → Has j (indices_from p 0 n)
  indices_has0 j less e = indices_has p 0 n j (omega arith) (omega arith) e

  pub indices_empty0 : ((j : ℕ) → j < n → p j ≡ false) → indices_from p 0 n ≡ []
  indices_empty0 h = indices_empty p 0 n (λ j lo hi. h j (omega arith))

-- ---- numbers each of which stands in a relation to all after it; distinct ones, rising ones

abbrev pub Pairwise : (ℕ → ℕ → Type 0) → List ℕ → Type 0
Pairwise R [] = Unit {0}
Pairwise R (k ∷ ks) = All (R k) ks × Pairwise R ks

abbrev pub Distinct : List ℕ → Type 0
Distinct ks = Pairwise (λ k j. k ≡ j → ⊥) ks

abbrev pub Rising : List ℕ → Type 0
Rising ks = Pairwise ◌<◌ ks

pub pairwise_take : (R : ℕ → ℕ → Type 0) (n : ℕ) (ks : List ℕ) → Pairwise R ks → Pairwise R (take n ks)
pairwise_take R zero ks d = tt
pairwise_take R (suc n) [] d = tt
pairwise_take R (suc n) (k ∷ ks) d = (all_take (R k) n ks d.0, pairwise_take R n ks d.1)

pub distinct_take : (n : ℕ) (ks : List ℕ) → Distinct ks → Distinct (take n ks)
distinct_take n ks d = pairwise_take (λ k j. k ≡ j → ⊥) n ks d

pub distinct_append : (ks js : List ℕ) → Distinct ks → Distinct js → All (λ k. All (λ j. k ≡ j → ⊥) js) ks → Distinct (ks ++ js)
distinct_append [] js d e h = e
distinct_append (k ∷ ks) js d e h = (all_append (λ j. k ≡ j → ⊥) ks js d.0 h.0, distinct_append ks js d.1 e h.1)

pub pairwise_indices : (R : ℕ → ℕ → Type 0) → ((i j : ℕ) → i < j → R i j) → (p : ℕ → Bool) (i n : ℕ) → Pairwise R (indices_from p i n)
unfolding indices_from walk
pairwise_indices R up p i zero = tt
pairwise_indices R up p i (suc n) =
    let rest : Pairwise R (indices_from p (i + 1) n) = pairwise_indices R up p (i + 1) n in
    by_pick (Pairwise R) (p i) (i ∷ indices_from p (i + 1) n) (indices_from p (i + 1) n)
    (λ _. (indices_all (R i) p (i + 1) n (λ j lo hi e. up i j (omega arith)), rest)) (λ _. rest)

pub distinct_indices : (p : ℕ → Bool) (i n : ℕ) → Distinct (indices_from p i n)
distinct_indices p i n = pairwise_indices (λ k j. k ≡ j → ⊥) (λ k j less e. omega arith) p i n

pub distinct_get_or : (ks : List ℕ) → Distinct ks → (i j : ℕ) → i < length ks → j < length ks → get_or ks i 0 ≡ get_or ks j 0 → i ≡ j
distinct_get_or [] d i j a b e = absurd (omega arith)
distinct_get_or (k ∷ ks) d zero zero a b e = refl
distinct_get_or (k ∷ ks) d zero (suc j) a b e = absurd (all_get_or (λ m. k ≡ m → ⊥) ks d.0 j (omega arith) e)
distinct_get_or (k ∷ ks) d (suc i) zero a b e = absurd (all_get_or (λ m. k ≡ m → ⊥) ks d.0 i (omega arith) (sym e))
distinct_get_or (k ∷ ks) d (suc i) (suc j) a b e = ap suc (distinct_get_or ks d.1 i j (omega arith) (omega arith) e)

-- ---- distinct numbers of a range are no more than it has

-- Whether a list has a number.
abbrev pub has : List ℕ → ℕ → Bool
has ks j = any (map (eqb j) ks)

-- Two tests that differ at a alone.
count_suc : (p q : ℕ → Bool) (a : ℕ) → p a ≡ true → q a ≡ false → ((j : ℕ) → (j ≡ a → ⊥) → p j ≡ q j) → (i n : ℕ) → i ≤ a → a < i + n
    → count_from p i n ≡ suc (count_from q i n)
unfolding count_from walk
count_suc p q a pa qa same i zero low high = absurd (omega arith)
count_suc p q a pa qa same i (suc n) low high = go (same? a i) (count_suc p q a pa qa same (i + 1) n)
  where
    step : (b : Bool) (m : ℕ) → pick b (suc (suc m)) (suc m) ≡ suc (pick b (suc m) m)
    step true m = refl
    step false m = refl

    go : (a ≡ i) ⊎ (a ≡ i → ⊥) → (i + 1 ≤ a → a < i + 1 + n → count_from p (i + 1) n ≡ suc (count_from q (i + 1) n))
        → pick (p i) (suc (count_from p (i + 1) n)) (count_from p (i + 1) n) ≡ suc (pick (q i) (suc (count_from q (i + 1) n)) (count_from q (i + 1) n))
    go (inl e) rec = rw (rw e at pa, rw e at qa) (ap suc (count_same p q (i + 1) n (λ j lo hi. same j (λ r. omega arith))))
    go (inr e) rec = rw (same i (λ r. e (sym r)), rec (omega arith) (omega arith)) (step (q i) (count_from q (i + 1) n))

has_not : (k : ℕ) (ks : List ℕ) → All (λ j. k ≡ j → ⊥) ks → has ks k ≡ false
unfolding any
has_not k [] a = refl
has_not k (j ∷ ks) a = rw (ne_eqb k j a.0) (has_not k ks a.1)

counted : (i n : ℕ) (ks : List ℕ) → Distinct ks → All (λ k. (i ≤ k) × (k < i + n)) ks → length ks ≤ count_from (has ks) i n
unfolding any
counted i n [] d a = omega arith
counted i n (k ∷ ks) d a =
    let rest : length ks ≤ count_from (has ks) i n = counted i n ks d.1 a.1 in
    let more : count_from (has (k ∷ ks)) i n ≡ suc (count_from (has ks) i n) =
    count_suc (has (k ∷ ks)) (has ks) k (rw (eq-eqb k k refl)) (has_not k ks d.0) (λ j ne. rw (ne_eqb j k ne)) i n a.0.0 a.0.1 in
    omega arith

pub pigeon : (i n : ℕ) (ks : List ℕ) → Distinct ks → All (λ k. (i ≤ k) × (k < i + n)) ks → length ks ≤ n
pigeon i n ks d a = let r : length ks ≤ count_from (has ks) i n = counted i n ks d a in let s : count_from (has ks) i n ≤ n = count_le (has ks) i n in
    omega arith
