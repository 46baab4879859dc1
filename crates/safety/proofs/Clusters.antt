-- The clusters that operations link and release: where they lie, and what the changed FAT says of marks and of free clusters.
use Prim.Native.Nat.{ℕ, ◌+◌, ◌-◌, ◌*◌, ◌/◌, ◌%◌, ◌≤◌, ◌<◌}
use native.Mathlib.Nat.{mul-le-mul_right, mod-lt}
use native.Mathlib.Omega.{arith}
use mathlib.Core.Path.{◌≡◌, refl, sym, ap, ◌∙◌}
use mathlib.Core.Logic.{◌⊎◌, inl, inr}
use mathlib.Core.List.{List, [], ◌∷◌, ◌++◌}
use mathlib.Core.Bool.{Bool, true, false, ◌&&◌, ◌||◌, not, and-true}
use lib.Dec.{eqb}
use lib.ListN.{get_or, length}
use borrow.Author.Tests.{eqb-true, ne_eqb}
use Rattle.model.specs.Scan.{any}
use Rattle.model.specs.Sector.{Card}
use Rattle.model.specs.Fat.{Fat, entry, is_reserved, free_clusters, is_free, release, link}
use Rattle.model.specs.Chain.{cluster_sector, file_sector}
use Rattle.model.specs.Log.{marked, run, area, run_ok}
use Rattle.model.specs.Promises.{Shape}
use Rattle.model.specs.declared.Layout.{Layout}
use Rattle.model.specs.declared.Run.{Run}
use Rattle.operations.specs.Plan.{last_of, extend, shorten, exchange}
use Rattle.model.proofs.Tests.{clash, told, less?, every_at}
use Rattle.model.proofs.Scan.{all_at}
use Rattle.model.proofs.All.{All, all_map, all_drop, all_append}
use Rattle.model.proofs.Indices.{indices_all, has, get_or_below, all_get_or}
use Rattle.model.proofs.Fats.{free, release_free, release_marks, link_marks, link_free}
use Rattle.model.proofs.Chains.{Used, apart_low}
use Rattle.model.proofs.Volumes.{layout_of, first_fat, run_low}
use Rattle.safety.proofs.Start.{Start, shape_of, Clear, run_fine}
use Rattle.safety.proofs.Linked.{Off}

-- A cluster in range that is not the log's.
pub record Plain (l : Layout) (f : Fat) (k : ℕ) : Type 0 where
  pub low : 2 ≤ k
  pub high : k < 2 + l.clusters
  pub unmarked : marked f k ≡ false

-- A free one.
pub record Fresh (l : Layout) (f : Fat) (k : ℕ) : Type 0 where
  pub low : 2 ≤ k
  pub high : k < 2 + l.clusters
  pub none : entry f k ≡ 0

module _ (l : Layout) (f : Fat) where
  pub used_plain : (ks : List ℕ) → All (Used l (entry f)) ks → All (Plain l f) ks
  used_plain = all_map (Used l (entry f)) (Plain l f) (λ k u. record { low = u.low; high = u.high; unmarked = u.unmarked })

  pub fresh_plain : (ks : List ℕ) → All (Fresh l f) ks → All (Plain l f) ks
  fresh_plain = all_map (Fresh l f) (Plain l f) (λ k u. record { low = u.low; high = u.high; unmarked = ap (λ v. is_reserved v) u.none })

  -- A cluster in use is none of free ones, and a free one none of those in use.
  pub used_off : (ks : List ℕ) → All (Fresh l f) ks → (k : ℕ) → Used l (entry f) k → Off ks k
  used_off ks a k u = all_map (Fresh l f) (λ j. k ≡ j → ⊥) (λ j w e. u.busy (ap (entry f) e ∙ w.none)) ks a

  pub fresh_off : (ks : List ℕ) → All (Used l (entry f)) ks → (k : ℕ) → Fresh l f k → Off ks k
  fresh_off ks a k w = all_map (Used l (entry f)) (λ j. k ≡ j → ⊥) (λ j u e. u.busy (ap (entry f) (sym e) ∙ w.none)) ks a

  -- The free clusters are free.
  pub free_fresh : All (Fresh l f) (free_clusters l f)
  unfolding free_clusters
  free_fresh = indices_all (Fresh l f) (λ k. is_free (entry f k)) 2 l.clusters (λ j lo hi e. record { low = lo; high = hi; none = eqb-true (entry f j) 0 e })

-- ---- the FAT after an operation

-- Free clusters then: those before, less those taken, plus those released.
abbrev pub FreeThen : Fat → List ℕ → List ℕ → ℕ → Bool
FreeThen f taken released j = has released j || (free f j && not (has taken j))

pub none_free : (f : Fat) (j : ℕ) → free f j ≡ FreeThen f [] [] j
unfolding any
none_free f j = sym (and-true (free f j))

pub released_free : (ks : List ℕ) (f : Fat) (j : ℕ) → free (release ks f) j ≡ FreeThen f [] ks j
unfolding any
released_free ks f j = release_free ks f j ∙ ap (λ b. has ks j || b) (sym (and-true (free f j)))

module _ (l : Layout) (few : l.clusters ≤ 65524) (f : Fat) where
  abbrev P : ℕ → Type 0
  P k = Plain l f k

  linkable : (ks : List ℕ) → All P ks → All (λ k. (k < 0xFFF6) × (marked f k ≡ false)) ks
  linkable = all_map P (λ k. (k < 0xFFF6) × (marked f k ≡ false)) (λ k u. (omega (arith, u.high), u.unmarked))

  ranged : (ks : List ℕ) → All P ks → All (λ k. (2 ≤ k) × (k < 65536)) ks
  ranged = all_map P (λ k. (2 ≤ k) × (k < 65536)) (λ k u. (u.low, omega (arith, u.high)))

  pub plain_fits : (ks : List ℕ) → All P ks → (i : ℕ) → get_or ks i 0 < 65536
  plain_fits ks a i = get_or_below 65536 ks i (omega arith) (all_map P (λ k. k < 65536) (λ k u. omega (arith, u.high)) ks a)

  pub released_marks : (ks : List ℕ) → All P ks → (j : ℕ) → marked (release ks f) j ≡ marked f j
  released_marks ks a = release_marks ks f (all_map P (λ k. marked f k ≡ false) (λ k u. u.unmarked) ks a)

  -- Clusters that are in use are not free; linked anew, they take no free one.
  has_busy : (ks : List ℕ) → All (λ k. entry f k ≡ 0 → ⊥) ks → (j : ℕ) → has ks j ≡ true → free f j ≡ false
  unfolding any
  has_busy [] a j h = clash h refl
  has_busy (k ∷ ks) a j h = go (told (eqb j k)) (has_busy ks a.1 j)
    where
      go : (eqb j k ≡ true) ⊎ (eqb j k ≡ false) → (has ks j ≡ true → free f j ≡ false) → free f j ≡ false
      go (inl e) rec = let s : j ≡ k = eqb-true j k e in ne_eqb (entry f j) 0 (λ q. a.0 (ap (entry f) (sym s) ∙ q))
      go (inr e) rec = rec (rw e at h)

  has_append : (ks js : List ℕ) (j : ℕ) → has (ks ++ js) j ≡ (has ks j || has js j)
  unfolding any
  has_append [] js j = refl
  has_append (k ∷ ks) js j = ap (λ b. eqb j k || b) (has_append ks js j) ∙ assoc (eqb j k) (has ks j) (has js j)
    where
      assoc : (a b c : Bool) → (a || (b || c)) ≡ (a || b || c)
      assoc true b c = refl
      assoc false b c = refl

  -- Some clusters linked, others released.
  pub exchange_marks : (old new : List ℕ) → All P old → All P new → (j : ℕ) → marked (exchange old new f) j ≡ marked f j
  unfolding exchange
  exchange_marks old new a b j =
      let linked : (k : ℕ) → marked (link new f) k ≡ marked f k = link_marks new f (linkable new b) in
      release_marks old (link new f) (all_map P (λ k. marked (link new f) k ≡ false) (λ k u. linked k ∙ u.unmarked) old a) j ∙ linked j

  pub exchange_free : (old new : List ℕ) → All P new → (j : ℕ) → free (exchange old new f) j ≡ FreeThen f new old j
  unfolding exchange
  exchange_free old new b j = release_free old (link new f) j ∙ ap (λ b. has old j || b) (link_free new f (ranged new b) j)

  module _ (old : List ℕ) (plain : All P old) (busy : All (λ k. entry f k ≡ 0 → ⊥) old) where
    last_plain : All P (last_of old)
    last_plain = all_drop P (length old - 1) old plain

    last_busy : All (λ k. entry f k ≡ 0 → ⊥) (last_of old)
    last_busy = all_drop (λ k. entry f k ≡ 0 → ⊥) (length old - 1) old busy

    -- New clusters linked after the old last.
    pub extend_marks : (new : List ℕ) → All P new → (j : ℕ) → marked (extend old new f) j ≡ marked f j
    unfolding extend
    extend_marks [] a j = refl
    extend_marks (k ∷ ks) a j = link_marks (last_of old ++ (k ∷ ks)) f (linkable (last_of old ++ (k ∷ ks)) (all_append P (last_of old) (k ∷ ks) last_plain a)) j

    pub extend_free : (new : List ℕ) → All P new → (j : ℕ) → free (extend old new f) j ≡ FreeThen f new [] j
    unfolding extend any
    extend_free [] a j = sym (and-true (free f j))
    extend_free (k ∷ ks) a j =
        link_free (last_of old ++ (k ∷ ks)) f (ranged (last_of old ++ (k ∷ ks)) (all_append P (last_of old) (k ∷ ks) last_plain a)) j
        ∙ ap (λ b. free f j && not b) (has_append (last_of old) (k ∷ ks) j)
        ∙ drop_busy (has (last_of old) j) (has (k ∷ ks) j) (free f j) (has_busy (last_of old) last_busy j)
      where
        drop_busy : (a b x : Bool) → (a ≡ true → x ≡ false) → (x && not (a || b)) ≡ (x && not b)
        drop_busy true b x h = rw (h refl)
        drop_busy false b x h = refl

    -- Clusters released after the last one kept.
    pub shorten_marks : (freed : List ℕ) → All P freed → (j : ℕ) → marked (shorten old freed f) j ≡ marked f j
    unfolding shorten exchange
    shorten_marks [] a j = refl
    shorten_marks (k ∷ ks) a j = exchange_marks (k ∷ ks) (last_of old) a last_plain j

    pub shorten_free : (freed : List ℕ) (j : ℕ) → free (shorten old freed f) j ≡ FreeThen f [] freed j
    unfolding shorten exchange any
    shorten_free [] j = sym (and-true (free f j))
    shorten_free (k ∷ ks) j =
        exchange_free (k ∷ ks) (last_of old) last_plain j
        ∙ ap (λ b. has (k ∷ ks) j || b) (no_busy (has (last_of old) j) (free f j) (has_busy (last_of old) last_busy j))
      where
        no_busy : (a x : Bool) → (a ≡ true → x ≡ false) → (x && not a) ≡ (x && true)
        no_busy true x h = rw (h refl)
        no_busy false x h = refl

-- ---- where clusters lie

module _ {size : ℕ} {c : Card} (st : Start size c) where
  abbrev l : Layout
  l = layout_of c

  abbrev r : Run
  r = run l (first_fat c)

  sh : Shape l
  sh = shape_of st

  -- Sector q of a plain cluster is a data sector outside the log.
  cluster_clear : (k : ℕ) → Plain l (first_fat c) k → (q : ℕ) → q < l.factor → Clear c (cluster_sector l k + q)
  unfolding area cluster_sector run_ok
  cluster_clear k p q small = record {
    in_data = omega arith;
    no_log = λ i less e. go i less e (less? k r.start) (less? k (r.start + r.size));
    inside = omega (arith, sh, apart_low (k - 2) l.clusters l.factor q 0 (omega (arith, p.high, p.low)) small);
  }
    where
      apart_high : (k r s per q i : ℕ) → r + s ≤ k → i < s * per → r * per + i < k * per + q
      apart_high k r s per q i less small = let m : (r + s) * per ≤ k * per = mul-le-mul_right per less in omega arith

      go : (i : ℕ) → i < r.size * l.factor → l.start + (r.start - 2) * l.factor + i ≡ l.start + (k - 2) * l.factor + q
          → (k < r.start) ⊎ (r.start ≤ k) → (k < r.start + r.size) ⊎ (r.start + r.size ≤ k) → ⊥
      go i less e (inl a) b = omega (arith, apart_low (k - 2) (r.start - 2) l.factor q i (omega (arith, p.low)) small)
      go i less e (inr a) (inr b) = omega (arith, apart_high (k - 2) (r.start - 2) r.size l.factor q i (omega (arith, run_low l (first_fat c))) less)
      go i less e (inr a) (inl b) = clash (all_at (marked (first_fat c)) r.start r.size (every_at _ (run_fine st) 2) k a b) p.unmarked

  -- A sector of a file along plain clusters.
  pub sector_clear : (ks : List ℕ) → All (Plain l (first_fat c)) ks → (q : ℕ) → q / l.factor < length ks → Clear c (file_sector l ks q)
  unfolding file_sector
  sector_clear ks a q less =
      cluster_clear (get_or ks (q / l.factor) 0) (all_get_or (Plain l (first_fat c)) ks a (q / l.factor) less) (q % l.factor) (mod-lt q (omega (arith, sh)))
