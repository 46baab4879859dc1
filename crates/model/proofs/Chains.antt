-- Laws of chains: their clusters are in range, in use and distinct, and where the sectors of a file lie.
use Prim.Native.Nat.{ℕ, zero, suc, ◌+◌, ◌-◌, ◌*◌, ◌/◌, ◌%◌, ◌≤◌, ◌<◌}
use native.Mathlib.Nat.{div-eq_of_lt, div-mul-le_self, le-div_iff_mul-le, div-lt_iff_lt-mul, mul-le-mul_right, mod-lt, div-add-mod'}
use native.Mathlib.Omega.{arith}
use mathlib.Core.Path.{◌≡◌, refl, sym, ap, ◌∙◌}
use mathlib.Core.Logic.{◌⊎◌, inl, inr, ⊎_elim}
use mathlib.Core.List.{List, ◌∷◌, ◌++◌}
use mathlib.Core.Bool.{true, false}
use lib.Dec.{eqb}
use lib.ListN.{length, get_or, get_or-append}
use borrow.Author.Tests.{ne_eqb, eqb-true}
use Rattle.model.specs.Bytes.{le}
use Rattle.model.specs.Fat.{is_reserved, is_end}
use Rattle.model.specs.Chain.{chain, ends_after, keeps_chain, needed, cluster_bytes, cluster_sector, file_sector}
use Rattle.model.specs.declared.Layout.{Layout}
use Rattle.model.proofs.Tests.{between_true, told, less?}
use Rattle.model.proofs.All.{All}
use Rattle.model.proofs.Indices.{Distinct, all_get_or, distinct_get_or}
use Rattle.model.proofs.Walks.{inside, ends_inside, ends_rest, ends_last, distinct_chain}

-- ---- the clusters of a chain

-- A cluster in range that is neither free nor marked as log.
pub record Used (l : Layout) (e : ℕ → ℕ) (k : ℕ) : Type 0 where
  pub low : 2 ≤ k
  pub high : k < 2 + l.clusters
  pub unmarked : is_reserved (e k) ≡ false
  pub busy : e k ≡ 0 → ⊥

-- Entries that agree along a chain.
pub chain_same : (e f : ℕ → ℕ) (n k : ℕ) → All (λ j. f j ≡ e j) (chain e n k) → chain f n k ≡ chain e n k
unfolding chain
chain_same e f zero k a = refl
chain_same e f (suc n) k a = ap (λ (t : List ℕ). k ∷ t) (ap (chain f n) a.0 ∙ chain_same e f n (e k) a.1)

module _ (l : Layout) (few : l.clusters ≤ 65524) (e : ℕ → ℕ) where
  ends_used : (n k : ℕ) → ends_after l e n k ≡ true → All (Used l e) (chain e n k)
  unfolding chain is_end
  ends_used zero k h = tt
  ends_used (suc zero) k h =
      let r = inside l k (ends_inside l e 1 k h) in
      let v = between_true 0xFFF8 0xFFFF (e k) (ends_last l e k h) in
      (record { low = r.0; high = omega arith; unmarked = ne_eqb (e k) 0xFFF6 (λ q. omega arith); busy = λ q. omega arith }, tt)
  ends_used (suc (suc n)) k h =
      let r = inside l k (ends_inside l e (suc (suc n)) k h) in
      let rest : ends_after l e (suc n) (e k) ≡ true = ends_rest l e n k h in
      let v = inside l (e k) (ends_inside l e (suc n) (e k) rest) in
      (record { low = r.0; high = omega arith; unmarked = ne_eqb (e k) 0xFFF6 (λ q. omega arith); busy = λ q. omega arith }, ends_used (suc n) (e k) rest)

  module _ (one : 1 ≤ l.factor) (k size : ℕ) (h : keeps_chain l e k size ≡ true) where
    -- A file that keeps the chain rule has no cluster, or a chain that ends where it should.
    chain_cases : (needed l size ≡ 0) ⊎ (ends_after l e (needed l size) k ≡ true)
    unfolding keeps_chain needed cluster_bytes
    chain_cases = go (told (eqb size 0))
      where
        go : (eqb size 0 ≡ true) ⊎ (eqb size 0 ≡ false) → (needed l size ≡ 0) ⊎ (ends_after l e (needed l size) k ≡ true)
        go (inl q) =
            let z : size ≡ 0 = eqb-true size 0 q in
            let s : size + (512 * l.factor - 1) ≡ 512 * l.factor - 1 = omega arith in
            let less : 512 * l.factor - 1 < 512 * l.factor = omega arith in
            inl (ap (λ m. m / (512 * l.factor)) s ∙ div-eq_of_lt less)
        go (inr q) = inr (rw q at h)

    pub chain_used : All (Used l e) (chain e (needed l size) k)
    unfolding chain
    chain_used = ⊎_elim (λ n. rw n tt) (λ q. ends_used (needed l size) k q) chain_cases

    pub chain_distinct : Distinct (chain e (needed l size) k)
    unfolding chain
    chain_distinct = ⊎_elim (λ n. rw n tt) (λ q. distinct_chain l few e (needed l size) k q) chain_cases

-- ---- the sectors of a file

-- Sector q of a file of n bytes, where 512 q is below n, is in one of its clusters.
pub in_cluster : (l : Layout) → 1 ≤ l.factor → (q n : ℕ) → 512 * q < n → q / l.factor < needed l n
unfolding needed cluster_bytes
in_cluster l one q n less =
    let m : q / l.factor * l.factor ≤ q = div-mul-le_self q l.factor in
    let pos : 0 < 512 * l.factor = omega arith in
    (le-div_iff_mul-le pos).1 (scaled (q / l.factor) l.factor q n one m less)
  where
    scaled : (m per q n : ℕ) → 1 ≤ per → m * per ≤ q → 512 * q < n → suc m * (512 * per) ≤ n + (512 * per - 1)
    scaled m per q n one le less = omega arith

-- No more bytes than the clusters that they need.
pub needed_holds : (l : Layout) → 1 ≤ l.factor → (n m : ℕ) → needed l n ≤ m → n ≤ m * (512 * l.factor)
unfolding needed cluster_bytes
needed_holds l one n m le =
    let pos : 0 < 512 * l.factor = omega arith in
    let less : (n + (512 * l.factor - 1)) / (512 * l.factor) < suc m = omega arith in
    let top : n + (512 * l.factor - 1) < suc m * (512 * l.factor) = (div-lt_iff_lt-mul pos).0 less in
    scaled m l.factor n one top
  where
    scaled : (m per n : ℕ) → 1 ≤ per → n + (512 * per - 1) < suc m * (512 * per) → n ≤ m * (512 * per)
    scaled m per n one top = omega arith

-- Sector q of one cluster is below sector i of a later one.
pub apart_low : (k r per q i : ℕ) → k < r → q < per → k * per + q < r * per + i
apart_low k r per q i less small = let m : suc k * per ≤ r * per = mul-le-mul_right per less in omega arith

-- A sector tells its cluster.
sector_cluster : (l : Layout) (k m q r : ℕ) → 2 ≤ k → 2 ≤ m → q < l.factor → r < l.factor → cluster_sector l k + q ≡ cluster_sector l m + r
    → (k ≡ m) × (q ≡ r)
unfolding cluster_sector
sector_cluster l k m q r a b x y e = go (less? k m) (less? m k)
  where
    go : (k < m) ⊎ (m ≤ k) → (m < k) ⊎ (k ≤ m) → (k ≡ m) × (q ≡ r)
    go (inl h) g = let z = apart_low (k - 2) (m - 2) l.factor q r (omega arith) x in absurd (omega arith)
    go (inr h) (inl g) = let z = apart_low (m - 2) (k - 2) l.factor r q (omega arith) y in absurd (omega arith)
    go (inr h) (inr g) = let s : k ≡ m = omega arith in
        (s, (let t : (k - 2) * l.factor ≡ (m - 2) * l.factor = ap (λ k. (k - 2) * l.factor) s in omega arith))

-- Two sectors of files, along clusters from 2 on, that are the same sector.
pub meet : (l : Layout) → 1 ≤ l.factor → (ks ms : List ℕ) (q r : ℕ) → All (λ k. 2 ≤ k) ks → All (λ k. 2 ≤ k) ms
    → q / l.factor < length ks → r / l.factor < length ms → file_sector l ks q ≡ file_sector l ms r
    → (get_or ks (q / l.factor) 0 ≡ get_or ms (r / l.factor) 0) × (q % l.factor ≡ r % l.factor)
unfolding file_sector
meet l one ks ms q r a b x y e =
    sector_cluster l (get_or ks (q / l.factor) 0) (get_or ms (r / l.factor) 0) (q % l.factor) (r % l.factor)
    (all_get_or (λ k. 2 ≤ k) ks a (q / l.factor) x) (all_get_or (λ k. 2 ≤ k) ms b (r / l.factor) y) (mod-lt q (omega arith)) (mod-lt r (omega arith)) e

-- Along distinct clusters the sector tells the place.
pub one_place : (l : Layout) → 1 ≤ l.factor → (ks : List ℕ) (q r : ℕ) → All (λ k. 2 ≤ k) ks → Distinct ks
    → q / l.factor < length ks → r / l.factor < length ks → file_sector l ks q ≡ file_sector l ks r → q ≡ r
one_place l one ks q r a d x y e =
    let m = meet l one ks ks q r a a x y e in
    let i : q / l.factor ≡ r / l.factor = distinct_get_or ks d (q / l.factor) (r / l.factor) x y m.0 in
    sym (div-add-mod' q l.factor) ∙ (λ t. i t * l.factor + m.1 t) ∙ div-add-mod' r l.factor

-- The sectors of a file are also those of the file with more clusters.
pub longer : (l : Layout) (ks js : List ℕ) (q : ℕ) → q / l.factor < length ks → file_sector l (ks ++ js) q ≡ file_sector l ks q
unfolding file_sector
longer l ks js q less = ap (λ k. cluster_sector l k + q % l.factor) (get_or-append ks js 0 (q / l.factor) less)
