-- Clusters that data is written along: those that hold bytes already, then free ones. They are distinct and enough, the data goes to
-- them, and spares every file of a sound card.
use Prim.Native.Nat.{ℕ, ◌+◌, ◌-◌, ◌*◌, ◌/◌, ◌%◌, ◌≤◌, ◌<◌}
use native.Mathlib.Nat.{mul-le-mul_right}
use native.Mathlib.Omega.{arith}
use mathlib.Core.Path.{◌≡◌, sym, ap, ◌∙◌}
use mathlib.Core.Logic.{◌⊎◌, inl, inr, ⊎_elim}
use mathlib.Core.List.{List, [], ◌++◌}
use mathlib.Core.Bool.{true}
use lib.ListN.{length, take, length-append, length-map, get_or}
use lib.Seq.{length-take-le}
use Rattle.model.specs.Bytes.{Bytes, Span}
use Rattle.model.specs.Sector.{clip, Card, Store}
use Rattle.model.specs.Fat.{entry, free_clusters, Fat, is_free}
use Rattle.model.specs.Chain.{needed, file_sector}
use Rattle.model.specs.Root.{first_cluster, slot_at, file_size, file_at, is_file}
use Rattle.model.specs.Promises.{Shape}
use Rattle.model.specs.declared.Layout.{Layout}
use Rattle.model.proofs.Needed.{needed_none}
use Rattle.model.proofs.Walks.{chain_length}
use Rattle.operations.specs.Plan.{appended, data_stores, append_sector, clusters_of}
use Rattle.operations.proofs.Appends.{appended_old}
use Rattle.operations.proofs.DataStores.{data_all}
use Rattle.safety.specs.Sound.{Sound, chain_of, proper}
use Rattle.model.proofs.Tests.{same?}
use Rattle.model.proofs.All.{All, all_take, all_append, all_map}
use Rattle.model.proofs.Indices.{Distinct, distinct_take, distinct_indices, distinct_append, pigeon, indices_length, all_get_or}
use Rattle.model.proofs.Cards.{clip_clip, clip_at}
use Rattle.model.proofs.Chains.{chain_distinct, Used, needed_holds, in_cluster, one_place, longer, meet}
use Rattle.model.proofs.Names.{Live}
use Rattle.model.proofs.Volumes.{layout_of, first_fat}
use Rattle.safety.proofs.Start.{Start, shape_of, Clear}
use Rattle.safety.proofs.Clusters.{Fresh, free_fresh, used_off, Plain, used_plain, fresh_plain, sector_clear}
use Rattle.safety.proofs.Files.{SparesFiles, file_within, file_used, file_clear, chains_apart}
use Rattle.safety.proofs.Linked.{Off}
use Rattle.safety.proofs.Operations.{KeepsChain, the_chain, old_used}

-- Clusters that data is written after: used, distinct, as many as `old` bytes need.
pub record Base (c : Card) (ks : List ℕ) (old : ℕ) : Type 0 where
  pub used : All (Used (layout_of c) (entry (first_fat c))) ks
  pub distinct : Distinct ks
  pub long : length ks ≡ needed (layout_of c) old

-- Those that data d is written along: after such clusters new ones, free and distinct, as many as all bytes then need.
pub record Extent (c : Card) (ks new : List ℕ) (old : ℕ) (d : Span) : Type 0 where
  pub base : Base c ks old
  pub fresh : All (Fresh (layout_of c) (first_fat c)) new
  pub distinct : Distinct new
  pub long : length ks + length new ≡ needed (layout_of c) (old + d.size)

module _ {size : ℕ} {c : Card} (st : Start size c) where
  abbrev l : Layout
  l = layout_of c

  abbrev fat : Fat
  fat = first_fat c

  sh : Shape l
  sh = shape_of st

  -- No clusters, and those of a file that keeps the chain rule.
  pub no_base : Base c [] 0
  no_base = record { used = tt; distinct = tt; long = sym (needed_none l sh.factor_low) }

  pub file_base : (s : ℕ) (live : Live l c s) (whole : KeepsChain c s)
      → Base c (the_chain st s live whole) (file_size (slot_at l c s))
  file_base s live whole =
      let first : ℕ = first_cluster (slot_at l c s) in
      let n : ℕ = file_size (slot_at l c s) in
      record {
        used = old_used st s live whole;
        distinct = chain_distinct l sh.few (entry fat) sh.factor_low first n whole;
        long = chain_length (entry fat) (needed l n) first;
      }

  -- The lowest free clusters after them.
  pub extent_of : {ks : List ℕ} {old : ℕ} → Base c ks old → (d : Span) (m : ℕ) → m ≤ length (free_clusters l fat) → needed l old + m ≡ needed l (old + d.size)
      → Extent c ks (take m (free_clusters l fat)) old d
  unfolding free_clusters
  extent_of {ks} {old} base d m room more = record {
    base = base;
    fresh = all_take (Fresh l fat) m (free_clusters l fat) (free_fresh l fat);
    distinct = distinct_take m (free_clusters l fat) (distinct_indices (λ k. is_free (entry fat k)) 2 l.clusters);
    long = rw (length-take-le m (free_clusters l fat) room, base.long) more;
  }

  -- ---- clusters

  module _ {ks new : List ℕ} {old : ℕ} {d : Span} (x : Extent c ks new old d) where
    abbrev total : ℕ
    total = old + d.size

    abbrev both : List ℕ
    both = ks ++ new

    pub new_plain : All (Plain l fat) new
    new_plain = fresh_plain l fat new x.fresh

    pub all_plain : All (Plain l fat) both
    all_plain = all_append (Plain l fat) ks new (used_plain l fat ks x.base.used) new_plain

    all_low : All (λ k. 2 ≤ k) both
    all_low = all_map (Plain l fat) (λ k. 2 ≤ k) (λ k u. u.low) both all_plain

    -- A cluster in use is none of the new ones.
    pub new_off : (k : ℕ) → Used l (entry fat) k → Off new k
    new_off = used_off l fat new x.fresh

    pub all_distinct : Distinct both
    all_distinct = distinct_append ks new x.base.distinct x.distinct (all_map (Used l (entry fat)) (Off new) new_off ks x.base.used)

    pub all_long : length both ≡ needed l total
    all_long = length-append ks new ∙ x.long

    few_clusters : length both ≤ l.clusters
    few_clusters = pigeon 2 l.clusters both all_distinct
        (all_map (Plain l fat) (λ k. (2 ≤ k) × (k < 2 + l.clusters)) (λ k u. (u.low, u.high)) both all_plain)

    -- So the new size fits its four bytes.
    pub total_fits : total < 4294967296
    total_fits =
        let n : total ≤ l.clusters * (512 * l.factor) = needed_holds l sh.factor_low total l.clusters (omega (arith, all_long, few_clusters)) in
        let m : l.clusters * (512 * l.factor) ≤ 65524 * (512 * l.factor) = mul-le-mul_right (512 * l.factor) sh.few in
        omega (arith, sh)

    -- ---- data stores

    abbrev pub place : ℕ → ℕ
    place q = file_sector l both q

    abbrev pub ds : List Store
    ds = data_stores l c both old d

    pub within : (q : ℕ) → 512 * q < total → q / l.factor < length both
    within q less = rw all_long (in_cluster l sh.factor_low q total less)

    pub place_tells : (q r : ℕ) → 512 * q < total → 512 * r < total → place q ≡ place r → q ≡ r
    place_tells q r a b e = one_place l sh.factor_low both q r all_low all_distinct (within q a) (within r b) e

    pub outside : All (λ s. Clear c s.sector) ds
    unfolding append_sector
    outside = data_all l c both old d (λ s. Clear c s.sector) (λ q less. sector_clear st both all_plain q (within q less))

    pub few_data : length ds ≤ 8388608
    unfolding data_stores
    few_data = rw length-map (omega (arith, total_fits, indices_length (λ k. true) (old / 512) ((total + 511) / 512 - old / 512)))

    -- ---- the files of a sound card

    pub in_base : (i : ℕ) → i < old → i / 512 / l.factor < length ks
    in_base i less = rw x.base.long (in_cluster l sh.factor_low (i / 512) old (omega arith))

    own_place : (i q : ℕ) → i < old → 512 * q < total → file_sector l ks (i / 512) ≡ place q → 512 * q + i % 512 < old
    own_place i q less high e =
        let r : i / 512 ≡ q = place_tells (i / 512) q (omega arith) high (longer l ks new (i / 512) (in_base i less) ∙ e) in
        omega arith

    other_place : (ts : List ℕ) (p q : ℕ) → All (Used l (entry fat)) ts → All (Off ks) ts → p / l.factor < length ts → 512 * q < total
        → file_sector l ts p ≡ place q → ⊥
    other_place ts p q used off there high e =
        let n : ℕ = p / l.factor in
        let m = meet l sh.factor_low ts both p q (all_map (Used l (entry fat)) (λ k. 2 ≤ k) (λ k u. u.low) ts used) all_low there (within q high) e in
        let not-old : Off ks (get_or ts n 0) = all_get_or (Off ks) ts off n there in
        let not_new : Off new (get_or ts n 0) = new_off (get_or ts n 0) (all_get_or (Used l (entry fat)) ts used n there) in
        all_get_or (λ j. get_or ts n 0 ≡ j → ⊥) both (all_append (λ j. get_or ts n 0 ≡ j → ⊥) ks new not-old not_new) (q / l.factor) (within q high) m.0

    -- The clusters are those of the file in slot t, which keeps its bytes, or it has none of them.
    abbrev Apart : ℕ → Type 0
    Apart t = ((chain_of l c t ≡ ks) × (file_size (slot_at l c t) ≡ old)) ⊎ All (Off ks) (chain_of l c t)

    data_spared : Sound l c → ((t : ℕ) → t < l.entries → is_file (slot_at l c t) ≡ true → Apart t) → SparesFiles c ds
    unfolding append_sector
    data_spared sound apart t i in_root is less = record {
      clear = file_clear st t keeps i less;
      kept = data_all l c both old d (λ s. n ≡ s.sector → clip s.bytes (i % 512) ≡ c n (i % 512)) (λ q high at. go q high at (apart t in_root is));
    }
      where
        keeps : proper l c t ≡ true
        keeps = sound.chains t in_root is

        n : ℕ
        n = file_sector l (chain_of l c t) (i / 512)

        go : (q : ℕ) → 512 * q < total → n ≡ place q → Apart t → clip (clip (appended (c (place q)) old d q)) (i % 512) ≡ c n (i % 512)
        go q high at (inr off) = absurd (other_place (chain_of l c t) (i / 512) q (file_used st t keeps) off (file_within st t keeps i less) high at)
        go q high at (inl e) =
            let b : Bytes = appended (c (place q)) old d q in
            let own : file_sector l ks (i / 512) ≡ place q = ap (λ (js : List ℕ). file_sector l js (i / 512)) (sym e.0) ∙ at in
            (λ j. clip_clip b j (i % 512)) ∙ clip_at b (i % 512) (omega arith)
            ∙ appended_old (c (place q)) old d q (i % 512) (own_place i q (omega (arith, e.1)) high own) ∙ ap (λ m. c m (i % 512)) (sym at)

  -- An append to the file in slot s.
  pub append_spared : (s : ℕ) (live : Live l c s) (whole : KeepsChain c s)
      {new : List ℕ} {d : Span} (x : Extent c (the_chain st s live whole) new (file_size (slot_at l c s)) d) → is_file (slot_at l c s) ≡ true
      → Sound l c → SparesFiles c (ds x)
  unfolding chain_of clusters_of file_at
  append_spared s live whole x file sound = data_spared x sound (λ t in_root is. ⊎_elim
      (λ e. inl (ap (chain_of l c) e, ap (λ k. file_size (slot_at l c k)) e))
      (λ ne. inr (chains_apart l c sound t s in_root live.in_root is file ne)) (same? t s))

  -- Data in new clusters alone.
  pub replace_spared : {new : List ℕ} {d : Span} (x : Extent c [] new 0 d) → Sound l c → SparesFiles c (ds x)
  replace_spared x sound = data_spared x sound
      (λ t in_root is. inr (all_map (Used l (entry fat)) (Off []) (λ k u. tt) (chain_of l c t) (file_used st t (sound.chains t in_root is))))
