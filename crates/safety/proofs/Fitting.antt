-- What fits tells: beside append and replace; and that the cluster is the lowest up to which enough are free.
use Prim.Native.Nat.{ℕ, suc, ◌-◌, ◌≤◌, ◌<◌}
use native.Mathlib.Omega.{arith}
use mathlib.Core.Path.{◌≡◌, refl, sym, ap, ◌∙◌}
use mathlib.Core.Logic.{◌⊎◌, inl, inr, ⊎_elim}
use mathlib.Core.List.{List, [], ◌∷◌}
use mathlib.Core.Bool.{Bool, and-true}
use lib.Dec.{ltb}
use lib.ListN.{length, take}
use borrow.Author.Tests.{lt-ltb, le-ltb}
use Rattle.model.specs.Bytes.{Span}
use Rattle.model.specs.Scan.{any, count_from, nth_from}
use Rattle.model.specs.Sector.{Card, Window}
use Rattle.model.specs.Fat.{is_free, entry, fat1_of, free_clusters}
use Rattle.model.specs.Chain.{needed}
use Rattle.model.specs.Calendar.{stamp_of, last_second}
use Rattle.model.specs.Ground.{Answer, refused, granted, ◌when◌, ◌>>◌}
use Rattle.model.specs.Volume.{clean, clean_at}
use Rattle.model.specs.declared.File.{File}
use Rattle.model.specs.declared.Ground.{Ground}
use Rattle.model.specs.declared.Layout.{Layout}
use Rattle.model.specs.declared.Volume.{Volume}
use Rattle.model.specs.declared.Access.TheVariants as Access
use Rattle.model.specs.declared.Pending.TheVariants as Pending
use Rattle.model.proofs.Tests.{less?, same?}
use Rattle.model.proofs.Scan.{count_none, indices_same}
use Rattle.model.proofs.Searches.{indices_count}
use Rattle.model.proofs.Indices.{Rising, pairwise_take, pairwise_indices, all_get_or}
use Rattle.model.proofs.Nths.{Placed, nth_placed, placed_here, placed_below, nth_inside}
use Rattle.model.proofs.Grounds.{passed, then}
use Rattle.model.proofs.Volumes.{cleaned, fit_shape, volume_of, at_granted}
use Rattle.operations.specs.Program.{Program}
use Rattle.operations.specs.Plan.{added, last_cluster, new_clusters, fresh_clusters}
use Rattle.operations.specs.Calls.{Call, creates, appends, replaces, plan, append, append_on, append_to, replace, replace_on, replace_file, file_of, named_file}
use Rattle.operations.specs.Calls.{taken_by, released_by}
use Rattle.operations.specs.Outcome.{left, largest}
use Rattle.operations.specs.Fitting.{Fit, fit, fits_on, fits, yes, no}
use Rattle.operations.proofs.Added.{added_empty}
use Rattle.operations.proofs.Fits.{fits_clean, fit_few, fit_enough, fit_none, fit_found}
use Rattle.safety.specs.Demand3.{Genuine, finished}
use Rattle.safety.specs.Fitting.{highest, Tells, Empty, FitsAppend, FitsReplace, free_up_to, Lowest, FitsLowest, FittingSaved}
use Rattle.safety.proofs.Theorem.{after_calls}
use Rattle.safety.proofs.Readings.{found_in}
use Rattle.safety.proofs.Moved.{create_leaves}
use Rattle.safety.proofs.Saved.{started, volume_is, path_saved}

-- Of rising numbers the last is the highest.
highest_last : (ks : List ℕ) → Rising ks → highest ks ≡ last_cluster ks
unfolding highest
highest_last [] r = refl
highest_last (k ∷ []) r = omega arith
highest_last (k ∷ (j ∷ ks)) r =
    let e : length (k ∷ (j ∷ ks)) - 1 ≡ suc (length (j ∷ ks) - 1) = omega arith in
    let h : highest (j ∷ ks) ≡ last_cluster (j ∷ ks) = highest_last (j ∷ ks) r.1 in
    let less : k < last_cluster (j ∷ ks) = all_get_or (λ i. k < i) (j ∷ ks) r.0 (length (j ∷ ks) - 1) (omega arith) in
    rw e (omega arith)

-- A yes is not a no, nor is what is granted refused.
yes_no : {A : Type 0} {a : Answer Fit} {k : ℕ} → a ≡ granted no → a ≡ granted (yes k) → A
yes_no e f = let r : granted no ≡ granted (yes _) = sym e ∙ f in let z : ◌≡◌ {A = ℕ} 0 1 = cc in absurd (omega arith)

refused_granted : {A : Type 0} {a : Answer Program} {g : Ground} {p : Program} → a ≡ refused g → a ≡ granted p → A
refused_granted e f = let r : refused _ ≡ granted _ = sym e ∙ f in let z : ◌≡◌ {A = ℕ} 0 1 = cc in absurd (omega arith)

-- NOSPACE.
space : {A : Type 0} (few many : ℕ) (k : Answer A) → few < many → ((Ground.Nospace when ltb few many) >> k) ≡ refused Ground.Nospace
unfolding ◌when◌ ◌>>◌
space few many k less = rw (lt-ltb few many less)

module _ (w : Window) (v : Volume) (is : clean w ≡ granted v) where
  abbrev c : Card
  c = w.card

  abbrev l : Layout
  l = v.layout

  abbrev free : ℕ → Bool
  free j = is_free (entry (fat1_of l c) j)

  abbrev ks : List ℕ
  ks = free_clusters l (fat1_of l c)

  some_sectors : 1 ≤ l.factor
  some_sectors = let d = cleaned w.size c v is in rw d.1 (fit_shape w.size c d.0.fit).factor_low

  by_free : (bytes : ℕ) → fits w bytes ≡ granted (fit (needed l bytes) ks)
  unfolding fits_on
  by_free bytes = fits_clean w bytes v is

  -- A call that asks NOSPACE for the clusters of so many bytes, and takes the lowest free ones.
  module _ (bytes : ℕ) (k : Call) (short : length ks < needed l bytes → plan k w ≡ refused Ground.Nospace)
      (long : needed l bytes ≤ length ks → (p : Program) × (plan k w ≡ granted p)) (takes : taken_by v c k ≡ take (needed l bytes) ks) where
    tells : Tells w v bytes k
    unfolding free_clusters
    tells = go (less? (length ks) (needed l bytes))
      where
        given : fits w bytes ≡ granted (fit (needed l bytes) ks)
        given = by_free bytes

        top : needed l bytes ≤ length ks → fits w bytes ≡ granted (yes (highest (taken_by v c k)))
        top enough =
            given ∙ ap granted (fit_enough (needed l bytes) ks enough)
            ∙ ap (λ (j : ℕ). granted (yes j)) (sym (highest_last (take (needed l bytes) ks)
            (pairwise_take ◌<◌ (needed l bytes) ks (pairwise_indices ◌<◌ (λ i j less. less) free 2 l.clusters))) ∙ ap highest (sym takes))

        go : (length ks < needed l bytes) ⊎ (needed l bytes ≤ length ks) → Tells w v bytes k
        go (inl few) =
            let never = given ∙ ap granted (fit_few (needed l bytes) ks few) in
            record { says_no = λ _. never; says_yes = λ other. absurd (other (short few)); goes_on = λ j e. yes_no never e }
        go (inr enough) =
            record { says_no = λ e. refused_granted e (long enough).1; says_yes = λ _. top enough; goes_on = λ j e. long enough }

  module _ (n d : Span) (sec : ℕ) (timely : sec ≤ last_second) (f : File) (found : file_of Access.Write v c n ≡ granted f) where
    append_is : plan (appends n d sec) w ≡ append_to v c f d (stamp_of sec)
    unfolding plan append append_on
    append_is = then (clean_at w sec) _ v (at_granted w sec v is timely) ∙ then (file_of Access.Write v c n) _ f found

    replace_is : plan (replaces n d sec) w ≡ replace_file v c f d (stamp_of sec)
    unfolding plan replace replace_on
    replace_is = then (clean_at w sec) _ v (at_granted w sec v is timely) ∙ then (file_of Access.Write v c n) _ f found

    tells_append : f.size ≡ 0 → Tells w v d.size (appends n d sec)
    unfolding append_to taken_by new_clusters named_file
    tells_append empty =
        let e : added l f d.size ≡ needed l d.size = added_empty l some_sectors f d.size empty in
        tells d.size (appends n d sec)
        (λ few. append_is ∙ space (length ks) (added l f d.size) _ (omega arith))
        (λ enough. (_, append_is ∙ passed Ground.Nospace _ _ (le-ltb (length ks) (added l f d.size) (omega arith))))
        (ap (λ (g : File). take (added l g d.size) ks) (found_in w v is Access.Write n f found).mine ∙ ap (λ m. take m ks) e)

    tells_replace : Tells w v d.size (replaces n d sec)
    unfolding replace_file taken_by fresh_clusters
    tells_replace =
        tells d.size (replaces n d sec)
        (λ few. replace_is ∙ space (length ks) (needed l d.size) _ few)
        (λ enough. (_, replace_is ∙ passed Ground.Nospace _ _ (le-ltb (length ks) (needed l d.size) enough)))
        refl

  -- ---- the cluster that a yes gives

  none_lowest : Lowest l c 0 0
  none_lowest = record { within = omega arith; enough = omega arith; lowest = λ j less. absurd (omega arith) }

  nth_lowest : (n : ℕ) → 1 ≤ n → n ≤ count_from free 2 l.clusters → Lowest l c n (nth_from free 2 l.clusters n)
  unfolding free_up_to
  nth_lowest n some enough =
      let k : ℕ = nth_from free 2 l.clusters n in
      let at : Placed free 2 n k = nth_placed free 2 l.clusters n some enough in
      let low : 2 ≤ k = at.low in
      record {
        within = omega (arith, nth_inside free 2 l.clusters n some enough);
        enough = omega (arith, placed_here free 2 n k at (k - 1) (omega arith));
        lowest = λ j less. ⊎_elim (λ few. rw (few_none j few) (omega arith)) (λ more. placed_below free 2 n k at (j - 1) (omega arith)) (less? j 2);
      }
    where
      few_none : (j : ℕ) → j < 2 → count_from free 2 (j - 1) ≡ 0
      few_none j few = let z : j - 1 ≡ 0 = omega arith in rw z (count_none free 2)

  lowest_of : (bytes k : ℕ) → fits w bytes ≡ granted (yes k) → Lowest l c (needed l bytes) k
  unfolding free_clusters
  lowest_of bytes k e = go (less? (length ks) (needed l bytes)) (same? (needed l bytes) 0)
    where
      given : fits w bytes ≡ granted (fit (needed l bytes) ks)
      given = by_free bytes

      is_yes : (j : ℕ) → fit (needed l bytes) ks ≡ yes j → j ≡ k
      is_yes j f = let r : granted (yes j) ≡ granted (yes k) = sym (given ∙ ap granted f) ∙ e in cc

      go : (length ks < needed l bytes) ⊎ (needed l bytes ≤ length ks) → (needed l bytes ≡ 0) ⊎ (needed l bytes ≡ 0 → ⊥) → Lowest l c (needed l bytes) k
      go (inl few) some = yes_no (given ∙ ap granted (fit_few (needed l bytes) ks few)) e
      go (inr enough) (inl none) = rw (none, ← is_yes 0 (ap (λ n. fit n ks) none ∙ fit_none ks)) none_lowest
      go (inr enough) (inr some) =
          let n : ℕ = needed l bytes in
          let in_range : n ≤ count_from free 2 l.clusters = omega (arith, indices_count free 2 l.clusters) in
          let pos : 1 ≤ n = omega arith in
          rw (← is_yes _ (fit_found free 2 l.clusters n pos (nth_inside free 2 l.clusters n pos in_range))) (nth_lowest n pos in_range)

pub fits_lowest : FitsLowest
fits_lowest w v is bytes k e = lowest_of w v is bytes k e

pub fits_append : FitsAppend
fits_append w v is n d sec timely file = tells_append w v is n d sec timely file.0 file.1 file.2

pub fits_replace : FitsReplace
fits_replace w v is n d sec timely f found = tells_replace w v is n d sec timely f found

-- ---- a path that fits, saved under a new name

-- A create takes no cluster, and frees none.
create_free : (w : Window) (v : Volume) → Genuine w → clean w ≡ granted v → (n : Span) (sec : ℕ) (p : Program) → plan (creates n sec) w ≡ granted p
    → free_clusters v.layout (fat1_of v.layout (finished (creates n sec) w)) ≡ free_clusters v.layout (fat1_of v.layout w.card)
unfolding free_clusters released_by taken_by any
create_free w v real is n sec p made =
    let t : Card = finished (creates n sec) w in
    indices_same (λ j. is_free (entry (fat1_of v.layout t) j)) (λ j. is_free (entry (fat1_of v.layout w.card) j)) 2 v.layout.clusters
    (λ j lo hi. (after_calls (creates n sec) w v real is).free_clusters_then p made j hi ∙ and-true (is_free (entry (fat1_of v.layout w.card) j)))

-- Its file may be written, and is empty.
pub created_empty : (w : Window) (v : Volume) → Genuine w → clean w ≡ granted v → (n : Span) (sec : ℕ) (p : Program) → plan (creates n sec) w ≡ granted p
    → Empty v (finished (creates n sec) w) n
created_empty w v real is n sec p made =
    let same : v ≡ volume_of w.card Pending.Nothing = volume_is w v is in
    rw same (create_leaves (started w v real is) (is ∙ ap granted same) n sec p made)

pub fitting_saved : FittingSaved
fitting_saved w v real is n d cluster room sec t timely p made =
    let x : Window = left largest (creates n sec) w in
    let is' : clean x ≡ granted v = (after_calls (creates n sec) w v real is).clean_again in
    let same : fits x d.size ≡ fits w d.size =
    by_free x v is' d.size ∙ ap (λ ks. granted (fit (needed v.layout d.size) ks)) (create_free w v real is n sec p made)
    ∙ sym (by_free w v is d.size) in
    let more = (fits_append x v is' n d t timely (created_empty w v real is n sec p made)).goes_on cluster (same ∙ room) in
    path_saved w v real is n d sec t p more.0 made more.1
