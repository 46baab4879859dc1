-- Laws of the clusters that an append writes along, and of the cursor on them.
use Prim.Native.Nat.{ℕ, zero, suc, ◌+◌, ◌-◌, ◌*◌, ◌/◌, ◌<◌, ◌≤◌}
use native.Mathlib.Omega.{arith}
use mathlib.Core.Path.{◌≡◌, refl, sym, ap, ◌∙◌}
use mathlib.Core.Logic.{⊎_elim}
use mathlib.Core.List.{List, ◌∷◌}
use mathlib.Core.Bool.{Bool, true, false}
use lib.ListN.{length, get_or, take, drop, length-append, length-take, length-drop, get_or-append}
use lib.Seq.{drop-cons, get_or-append-add, get_or-take}
use borrow.Author.Tests.{lt-ltb, le-ltb, eqb-true}
use Rattle.model.specs.Bytes.{pick}
use Rattle.model.specs.Scan.{walk, indices_from, first_from}
use Rattle.model.specs.Sector.{Card}
use Rattle.model.specs.Fat.{Fat, entry, is_free, is_reserved, fat1_of, free_clusters}
use Rattle.model.specs.Chain.{needed, keeps_chain}
use Rattle.model.specs.Log.{marked}
use Rattle.model.specs.Promises.{Shape}
use Rattle.model.specs.declared.Layout.{Layout}
use Rattle.model.specs.declared.File.{File}
use Rattle.model.proofs.Tests.{less?}
use Rattle.model.proofs.Scan.{first_same}
use Rattle.model.proofs.All.{All, all_append, all_take, all_map}
use Rattle.model.proofs.Indices.{indices_all, indices_length, Distinct, distinct_take, distinct_append, distinct_indices, pigeon}
use Rattle.model.proofs.Fats.{free, entry_same}
use Rattle.model.proofs.Chains.{Used, chain_used, chain_distinct, needed_holds}
use Rattle.model.proofs.Walks.{chain_length}
use Rattle.operations.specs.Plan.{clusters_of, last_cluster, added}
use Rattle.operations.proofs.Added.{added_sum}
use Rattle.file_read.specs.Files.{Proper}
use Rattle.file_append.specs.declared.Cursor.{Cursor}
use Rattle.fat_read.specs.Located.{holds}
use Rattle.file_append.specs.Extents.{extended, Room, first_new, moved}

-- ---- the clusters

module _ (l : Layout) (t : Fat) (f : File) (n : ℕ) where
  pub old_length : length (clusters_of l t f) ≡ needed l f.size
  unfolding clusters_of
  old_length = chain_length (entry t) (needed l f.size) f.first

  pub extended_length : 1 ≤ l.factor → added l f n ≤ length (free_clusters l t) → length (extended l t f n) ≡ needed l (f.size + n)
  extended_length one room =
      let s = added_sum l one f n in
      simp (length-append, length-take) (omega (arith, old_length))

  module _ (sh : Shape l) (h : keeps_chain l (entry t) f.first f.size ≡ true) where
    old_used : All (Used l (entry t)) (clusters_of l t f)
    unfolding clusters_of
    old_used = chain_used l sh.few (entry t) sh.factor_low f.first f.size h

    old_distinct : Distinct (clusters_of l t f)
    unfolding clusters_of
    old_distinct = chain_distinct l sh.few (entry t) sh.factor_low f.first f.size h

    -- They are clusters of the card,
    pub extended_in : All (λ k. (2 ≤ k) × (k < 2 + l.clusters)) (extended l t f n)
    unfolding free_clusters
    extended_in = all_append (λ k. (2 ≤ k) × (k < 2 + l.clusters)) (clusters_of l t f) (take (added l f n) (free_clusters l t))
        (all_map (Used l (entry t)) (λ k. (2 ≤ k) × (k < 2 + l.clusters)) (λ k u. (u.low, u.high)) (clusters_of l t f) old_used)
        (all_take (λ k. (2 ≤ k) × (k < 2 + l.clusters)) (added l f n) (free_clusters l t)
        (indices_all (λ k. (2 ≤ k) × (k < 2 + l.clusters)) (λ k. is_free (entry t k)) 2 l.clusters (λ k lo hi e. (lo, hi))))

    -- none of them marked as log,
    pub extended_unmarked : All (λ k. marked t k ≡ false) (extended l t f n)
    unfolding free_clusters
    extended_unmarked = all_append (λ k. marked t k ≡ false) (clusters_of l t f) (take (added l f n) (free_clusters l t))
        (all_map (Used l (entry t)) (λ k. marked t k ≡ false) (λ k u. u.unmarked) (clusters_of l t f) old_used)
        (all_take (λ k. marked t k ≡ false) (added l f n) (free_clusters l t)
        (indices_all (λ k. marked t k ≡ false) (λ k. is_free (entry t k)) 2 l.clusters (λ k lo hi e. ap (λ v. is_reserved v) (eqb-true (entry t k) 0 e))))

    -- and all different: those of the file are in use, the others free.
    pub extended_distinct : Distinct (extended l t f n)
    unfolding free_clusters
    extended_distinct = distinct_append (clusters_of l t f) (take (added l f n) (free_clusters l t)) old_distinct
        (distinct_take (added l f n) (free_clusters l t) (distinct_indices (λ k. is_free (entry t k)) 2 l.clusters))
        (all_map (Used l (entry t)) (λ k. All (λ j. k ≡ j → ⊥) (take (added l f n) (free_clusters l t)))
        (λ k u. all_take (λ j. k ≡ j → ⊥) (added l f n) (free_clusters l t)
        (indices_all (λ j. k ≡ j → ⊥) (λ j. is_free (entry t j)) 2 l.clusters (λ j lo hi e same. u.busy (ap (entry t) same ∙ eqb-true (entry t j) 0 e))))
        (clusters_of l t f) old_used)

    -- A card holds less than 2 ^ 32 bytes of a file.
    pub append_fits : added l f n ≤ length (free_clusters l t) → f.size + n < 4294967296
    unfolding free_clusters
    append_fits room =
        let a : length (clusters_of l t f) ≤ l.clusters =
        pigeon 2 l.clusters (clusters_of l t f) old_distinct
        (all_map (Used l (entry t)) (λ k. (2 ≤ k) × (k < 2 + l.clusters)) (λ k u. (u.low, u.high)) (clusters_of l t f) old_used) in
        let b : length (free_clusters l t) ≤ l.clusters = indices_length (λ k. is_free (entry t k)) 2 l.clusters in
        let s = added_sum l sh.factor_low f n in
        let few : l.clusters ≤ 65524 = sh.few in
        let m : f.size + n ≤ 131048 * (512 * l.factor) = needed_holds l sh.factor_low (f.size + n) 131048 (omega (arith, old_length)) in
        let high : l.factor ≤ 64 = sh.factor_high in
        omega arith

pub has_room : (l : Layout) (c : Card) (f : File) (n : ℕ) → Shape l → Proper l c f
    → added l f n ≤ length (free_clusters l (fat1_of l c)) → Room l c f n
has_room l c f n sh h room = record { chain = h; enough = room; small = append_fits l (fat1_of l c) f n sh h room }

-- ---- the cursor

-- The first of the numbers that a scan gives, and the others.
pub indices_next : (p : ℕ → Bool) (i n : ℕ) → 0 < length (indices_from p i n)
    → (first_from p i n < i + n) × (indices_from p i n ≡ first_from p i n ∷ indices_from p (first_from p i n + 1) (i + n - (first_from p i n + 1)))
unfolding indices_from first_from walk
indices_next p i zero h = absurd (omega arith)
indices_next p i (suc n) h = go (p i) h (indices_next p (i + 1) n)
  where
    go : (b : Bool) → 0 < length (pick b (i ∷ indices_from p (i + 1) n) (indices_from p (i + 1) n))
        → (0 < length (indices_from p (i + 1) n) → (first_from p (i + 1) n < i + 1 + n)
        × (indices_from p (i + 1) n ≡ first_from p (i + 1) n ∷ indices_from p (first_from p (i + 1) n + 1) (i + 1 + n - (first_from p (i + 1) n + 1))))
        → (pick b i (first_from p (i + 1) n) < i + suc n)
        × (pick b (i ∷ indices_from p (i + 1) n) (indices_from p (i + 1) n)
        ≡ pick b i (first_from p (i + 1) n) ∷ indices_from p (pick b i (first_from p (i + 1) n) + 1) (i + suc n - (pick b i (first_from p (i + 1) n) + 1)))
    go true h rec = let z : i + suc n - (i + 1) ≡ n = omega arith in (omega arith, rw z)
    go false h rec = let r = rec h in let z : i + 1 + n ≡ i + suc n = omega arith in (rw z at r.0, rw z at r.1)

taken_first : (n k : ℕ) (ks js : List ℕ) → 0 < n → ks ≡ k ∷ js → get_or (take n ks) 0 0 ≡ k
taken_first zero k ks js pos e = absurd (omega arith)
taken_first (suc n) k ks js pos e = ap (λ (zs : List ℕ). get_or (take (suc n) zs) 0 0) e

-- The first new cluster is the lowest free one.
pub first_is_free : (l : Layout) (c : Card) (n r : ℕ) → 0 < n → n ≤ length (free_clusters l (fat1_of l c))
    → r ≡ first_from (holds 0 (fat1_of l c)) 2 (l.clusters + 2 - 2) → r ≡ first_new l c n
unfolding free_clusters
first_is_free l c n r pos enough e =
    let z : l.clusters + 2 - 2 ≡ l.clusters = omega arith in
    let i = indices_next (holds 0 (fat1_of l c)) 2 l.clusters (omega arith) in
    e ∙ ap (first_from (holds 0 (fat1_of l c)) 2) z ∙ sym (taken_first n _ (free_clusters l (fat1_of l c)) _ pos i.1)

-- A cursor that has passed all clusters of the file and some free ones.
pub record Stands (l : Layout) (t : Fat) (f : File) (n : ℕ) (p : Cursor) : Type 0 where
  pub low : needed l f.size ≤ p.passed
  pub high : p.from ≤ l.clusters + 2
  pub at : 0 < p.passed → p.cluster ≡ get_or (extended l t f n) (p.passed - 1) 0
  pub rest : drop (p.passed - needed l f.size) (free_clusters l t) ≡ indices_from (free t) p.from (l.clusters + 2 - p.from)

module _ (l : Layout) (t : Fat) (f : File) (n : ℕ) where
  -- At the last cluster of the file.
  pub stands_first : (last k : ℕ) → last ≡ last_cluster (clusters_of l t f) → k ≡ needed l f.size
      → Stands l t f n (record { cluster = last; passed = k; from = 2 })
  unfolding free_clusters
  stands_first last k is e =
      let z : k - needed l f.size ≡ 0 = omega arith in
      let y : l.clusters + 2 - 2 ≡ l.clusters = omega arith in
      record {
        low = omega arith;
        high = omega arith;
        at = λ pos. is ∙ ap (λ m. get_or (clusters_of l t f) (m - 1) 0) (old_length l t f n ∙ sym e)
            ∙ sym (get_or-append (clusters_of l t f) (take (added l f n) (free_clusters l t)) 0 (k - 1) (omega (arith, old_length l t f n)));
        rest = rw (z, y);
      }

  -- Cluster number x, one after the file's own.
  new_at : (j : ℕ) → j < added l f n → get_or (extended l t f n) (needed l f.size + j) 0 ≡ get_or (free_clusters l t) j 0
  new_at j less =
      ap (λ m. get_or (extended l t f n) (m + j) 0) (sym (old_length l t f n))
      ∙ get_or-append-add (clusters_of l t f) (take (added l f n) (free_clusters l t)) j 0
      ∙ get_or-take (added l f n) (free_clusters l t) j 0 less

  -- A cursor moved to cluster number x is there.
  pub record There (x : ℕ) (p : Cursor) : Type 0 where
    pub stands : Stands l t f n p
    pub count : p.passed ≡ x + 1
    pub is : p.cluster ≡ get_or (extended l t f n) x 0

  module _ (one : 1 ≤ l.factor) (room : added l f n ≤ length (free_clusters l t)) (p : Cursor) (s : Stands l t f n p) (x : ℕ)
      (less : x < needed l (f.size + n)) where
    stays : p.passed ≡ x + 1 → There x p
    stays e = let z : p.passed - 1 ≡ x = omega arith in record { stands = s; count = e; is = s.at (omega arith) ∙ ap (λ m. get_or (extended l t f n) m 0) z }

    goes : p.passed ≡ x → (k : ℕ) → k ≡ first_from (free t) p.from (l.clusters + 2 - p.from)
        → There x (record { cluster = k; passed = p.passed + 1; from = k + 1 })
    goes e k is =
        let j : ℕ = p.passed - needed l f.size in
        let low : needed l f.size ≤ p.passed = s.low in
        let high : p.from ≤ l.clusters + 2 = s.high in
        let few : j < added l f n = omega (arith, added_sum l one f n) in
        let some : j < length (free_clusters l t) = omega arith in
        let c : drop j (free_clusters l t) ≡ get_or (free_clusters l t) j 0 ∷ drop (suc j) (free_clusters l t) = drop-cons (free_clusters l t) j 0 some in
        let pos : 0 < length (indices_from (free t) p.from (l.clusters + 2 - p.from)) = omega
        (arith, ap length s.rest, length-drop j (free_clusters l t)) in
        let d = rw (← is) at (indices_next (free t) p.from (l.clusters + 2 - p.from) pos) in
        let both : get_or (free_clusters l t) j 0 ∷ drop (suc j) (free_clusters l t) ≡ k ∷ indices_from (free t) (k + 1)
        (p.from + (l.clusters + 2 - p.from) - (k + 1)) = sym c ∙ s.rest ∙ d.1 in
        let here : get_or (free_clusters l t) j 0 ≡ k = cc both in
        let after : drop (suc j) (free_clusters l t) ≡ indices_from (free t) (k + 1) (p.from + (l.clusters + 2 - p.from) - (k + 1)) = cc both in
        let end : p.from + (l.clusters + 2 - p.from) ≡ l.clusters + 2 = omega arith in
        let next : p.passed + 1 - needed l f.size ≡ suc j = omega arith in
        let place : needed l f.size + j ≡ x = omega arith in
        let at : k ≡ get_or (extended l t f n) x 0 = sym here ∙ sym (new_at j few) ∙ ap (λ m. get_or (extended l t f n) m 0) place in
        let back : x ≡ p.passed + 1 - 1 = omega arith in
        record {
          stands = record {
            low = omega arith;
            high = omega (arith, d.0);
            at = λ q. at ∙ ap (λ m. get_or (extended l t f n) m 0) back;
            rest = rw next (after ∙ ap (λ m. indices_from (free t) (k + 1) (m - (k + 1))) end);
          };
          count = omega arith;
          is = at;
        }

    pub arrives : x ≤ p.passed → p.passed ≤ x + 1 → There x (moved l t p x)
    unfolding moved
    arrives a b = ⊎_elim
        (λ h. rw (lt-ltb x p.passed h) (stays (omega arith)))
        (λ h. rw (le-ltb x p.passed h) (goes (omega arith) (first_from (free t) p.from (l.clusters + 2 - p.from)) refl))
        (less? x p.passed)

module _ (l : Layout) (t : Fat) (p : Cursor) (x : ℕ) where
  pub moved_not : x < p.passed → p ≡ moved l t p x
  unfolding moved
  moved_not h = rw (lt-ltb x p.passed h)

  pub moved_on : (k : ℕ) → p.passed ≤ x → k ≡ first_from (free t) p.from (l.clusters + 2 - p.from)
      → record { cluster = k; passed = p.passed + 1; from = k + 1 } ≡ moved l t p x
  unfolding moved
  moved_on k h is = rw (le-ltb x p.passed h, ← is)

-- Cards with the same sectors before the data have the same free clusters.
pub moved_same : (l : Layout) (c d : Card) → Shape l → ((s : ℕ) → s < l.start → c s ≡ d s) → (p : Cursor) (x : ℕ) → p.from ≤ l.clusters + 2
    → moved l (fat1_of l c) p x ≡ moved l (fat1_of l d) p x
unfolding moved
moved_same l c d sh same p x high =
    let e : first_from (free (fat1_of l c)) p.from (l.clusters + 2 - p.from) ≡ first_from (free (fat1_of l d)) p.from (l.clusters + 2 - p.from) =
    first_same (free (fat1_of l c)) (free (fat1_of l d)) p.from (l.clusters + 2 - p.from)
    (λ k lo hi. ap (λ v. is_free v) (entry_same (fat1_of l d) (fat1_of l c) k
    (same (l.fat1 + k / 256) (omega (arith, sh.enough, sh.fat2_at, sh.root_at, sh.start_at))))) in
    rw e
