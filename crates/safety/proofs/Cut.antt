-- What is read after a truncate.
use Prim.Native.Nat.{ℕ, ◌+◌, ◌-◌, ◌/◌, ◌%◌, ◌≤◌, ◌<◌}
use native.Mathlib.Omega.{arith}
use mathlib.Core.Path.{◌≡◌, refl, sym, ap, ◌∙◌, subst}
use mathlib.Core.Logic.{◌⊎◌, inl, inr, ⊎_elim}
use mathlib.Core.List.{List, []}
use lib.Dec.{eqb}
use lib.ListN.{length, get_or, take, drop, take-append-drop}
use lib.Seq.{length-take-le, get_or-take}
use borrow.Author.Tests.{eq-eqb, ne_eqb}
use Rattle.model.specs.Bytes.{Bytes, Span, pick}
use Rattle.model.specs.Sector.{Card, Window, after}
use Rattle.model.specs.Fat.{Fat, entry}
use Rattle.model.specs.Chain.{needed, file_sector}
use Rattle.model.specs.Root.{slot_at, file_size, first_cluster, file_at, entry_at}
use Rattle.model.specs.Calendar.{stamp_of}
use Rattle.model.specs.Ground.{granted}
use Rattle.model.specs.Volume.{clean}
use Rattle.model.specs.Promises.{Shape}
use Rattle.model.specs.declared.Layout.{Layout}
use Rattle.model.specs.declared.Pending.{Pending}
use Rattle.model.specs.declared.Volume.{Volume}
use Rattle.operations.specs.Program.{Program, ending}
use Rattle.operations.specs.Finish.{edits, operation_edits}
use Rattle.operations.specs.Plan.{clusters_of}
use Rattle.operations.specs.Calls.{plan, truncates, slot_of}
use Rattle.operations.specs.Outcome.{left, largest}
use Rattle.operations.specs.Reading.{file_byte}
use Rattle.safety.specs.Sound.{chain_of, proper}
use Rattle.safety.specs.Saved.{Holds}
use Rattle.model.proofs.Calendar.{stamp_small}
use Rattle.model.proofs.Tests.{same?}
use Rattle.model.proofs.All.{All, all_map, all_take}
use Rattle.model.proofs.Cards.{after_nil}
use Rattle.model.proofs.Chains.{Used, in_cluster, longer}
use Rattle.model.proofs.Names.{Live}
use Rattle.model.proofs.Volumes.{window, layout_of, first_fat, volume_of}
use Rattle.safety.proofs.Start.{Start, shape_of}
use Rattle.safety.proofs.Operations.{KeepsChain, size_fits, old_used}
use Rattle.safety.proofs.Files.{file_clear}
use Rattle.safety.proofs.Theorem.{along}
use Rattle.safety.proofs.Linked.{Linked, Ranged, keeps_linked, chain_head, shorten_linked}
use Rattle.safety.proofs.Ended.{Ended, ended}
use Rattle.model.proofs.Needed.{needed_none, needed_mono}
use Rattle.safety.proofs.Chained.{HasChain, ranged, empty_then, linked_then}
use Rattle.safety.proofs.Readings.{Read, holds_read}
use Rattle.safety.proofs.Slots.{resized, resized_size, resized_first, Resizes, resizes}
use Rattle.safety.proofs.Supplied.{truncates_as, cut_fat, truncate_supplies, ks}
use Rattle.safety.proofs.Granted.{NamedFile, Truncated, truncate_granted}
use Rattle.safety.proofs.Moved.{finish_with}
use Rattle.safety.proofs.Means.{resized_holds}
use Rattle.safety.proofs.Extents.{Base, file_base}

-- Some bytes need a cluster.
pub needed_some : (l : Layout) → 1 ≤ l.factor → (n : ℕ) → (n ≡ 0 → ⊥) → 0 < needed l n
needed_some l one n ne = let h : 0 / l.factor < needed l n = in_cluster l one 0 n (omega arith) in omega arith

-- The clusters of a file that keeps the chain rule.
module _ {size : ℕ} {c : Card} (st : Start size c) (s : ℕ) (live : Live (layout_of c) c s) (keeps : KeepsChain c s) where
  abbrev l : Layout
  l = layout_of c

  abbrev fat : Fat
  fat = first_fat c

  abbrev b : Bytes
  b = slot_at l c s

  abbrev own : List ℕ
  own = ks st s live keeps

  sh : Shape l
  sh = shape_of st

  base : Base c own (file_size b)
  base = file_base st s live keeps

  pub own_high : All (λ k. k < 2 + l.clusters) own
  own_high = all_map (Used l (entry fat)) (λ k. k < 2 + l.clusters) (λ k u. u.high) own (old_used st s live keeps)

  pub own_ranged : All (Ranged l) own
  own_ranged = all_map (Used l (entry fat)) (Ranged l) (λ k u. ranged l sh.few k u.low u.high) own (old_used st s live keeps)

  pub own_linked : (file_size b ≡ 0 → ⊥) → Linked l (entry fat) own
  own_linked ne = keeps_linked l (entry fat) (first_cluster b) (file_size b) keeps ne

  pub own_first : (file_size b ≡ 0 → ⊥) → get_or own 0 0 ≡ first_cluster b
  own_first ne = chain_head l (entry fat) (needed l (file_size b)) (first_cluster b) (own_linked ne)

  -- ---- cut to n bytes

  module _ (n : ℕ) (less : n < file_size b) {stamp : ℕ} {t : Card}
      (end : Ended size c [] (cut_fat st s live keeps n) (truncates_as st s live keeps n stamp) t) where
    abbrev new : Bytes
    new = resized (eqb n 0) 0 n stamp b

    pub cut_edit : Resizes c (truncates_as st s live keeps n stamp) s new
    unfolding edits operation_edits entry_at
    cut_edit = resizes c (truncates_as st s live keeps n stamp) s (eqb n 0) 0 n stamp refl

    pub cut_size : file_size new ≡ n
    cut_size = resized_size (eqb n 0) 0 n stamp b (omega (arith, size_fits st s live))

    cut_first : first_cluster new ≡ pick (eqb n 0) 0 (first_cluster b)
    cut_first = resized_first (eqb n 0) 0 n stamp b (omega arith)

    abbrev few : ℕ
    few = needed l n

    few_own : few ≤ length own
    few_own = rw base.long (needed_mono l sh.factor_low n (file_size b) (omega arith))

    pub cut_chain : HasChain l t s (take few own)
    cut_chain = go (same? n 0)
      where
        go : (n ≡ 0) ⊎ (n ≡ 0 → ⊥) → HasChain l t s (take few own)
        go (inl z) =
            let none : take few own ≡ [] = ap (λ m. take m own) (ap (needed l) z ∙ needed_none l sh.factor_low) in
            subst (HasChain l t s) (sym none) (empty_then st end s live.in_root new cut_edit.slot
            (cut_first ∙ ap (λ a. pick a 0 (first_cluster b)) (eq-eqb n 0 z)) (cut_size ∙ z))
        go (inr ne) =
            let some : 0 < few = needed_some l sh.factor_low n ne in
            let old : file_size b ≡ 0 → ⊥ = λ e. omega arith in
            linked_then st end s live.in_root new cut_edit.slot (take few own)
            (shorten_linked l own few fat base.distinct own_ranged (own_linked old) some)
            (all_take (λ k. k < 2 + l.clusters) few own own_high)
            (get_or-take few own 0 0 some ∙ own_first old ∙ sym (cut_first ∙ ap (λ a. pick a 0 (first_cluster b)) (ne_eqb n 0 ne)))
            (length-take-le few own few_own ∙ ap (needed l) (sym cut_size)) (λ e. ne (sym cut_size ∙ e))

    pub cut_bytes : (i : ℕ) → i < n → file_byte l t (file_at l t s) i ≡ file_byte l c (file_at l c s) i
    unfolding chain_of clusters_of file_at proper
    cut_bytes i small =
        let q : ℕ = i / 512 in
        let there : q / l.factor < length (take few own) = rw (length-take-le few own few_own) (in_cluster l sh.factor_low q n (omega arith)) in
        let same : file_sector l (take few own) q ≡ file_sector l own q =
        sym (longer l (take few own) (drop few own) q there) ∙ ap (λ (js : List ℕ). file_sector l js q) (take-append-drop few own) in
        along l t s (take few own) i cut_chain.chain ∙ (λ j. t (same j) (i % 512))
        ∙ (λ j. (end.sectors (file_sector l own q) (file_clear st s keeps i (omega arith)) ∙ (λ j. after_nil c j (file_sector l own q))) j (i % 512))
        ∙ sym (along l c s own i refl)

module _ {size : ℕ} {c : Card} (st : Start size c) (is : clean (window size c) ≡ granted (volume_of c Pending.Nothing)) where
  abbrev v : Volume
  v = volume_of c Pending.Nothing

  abbrev w : Window
  w = window size c

  abbrev at : Span → ℕ
  at n = slot_of v c n

  -- No store, no change.
  pub unstored : (n : Span) (m : ℕ) (content : Bytes) → Holds w n m content → Holds (window size (after [] c)) n m content
  unfolding after
  unstored n m content h = h

  module _ (n : Span) (m : ℕ) (g : NamedFile st is n) (less : m < file_size (slot_at (layout_of c) c (at n))) {stamp : ℕ} {t : Card}
      (end : Ended size c [] (cut_fat st (at n) g.live g.keeps m) (truncates_as st (at n) g.live g.keeps m stamp) t) where
    cut_then : (size' : ℕ) (content : Bytes) → Holds w n size' content → Holds (window size t) n m content
    cut_then size' content h =
        let x : ℕ = at n in
        let r : Read w v is n size' content = holds_read w v is n size' content h in
        resized_holds st is end n (cut_edit st x g.live g.keeps m less end) g.found m content (cut_size st x g.live g.keeps m less end)
        (cut_chain st x g.live g.keeps m less end).keeps
        (λ i small. cut_bytes st x g.live g.keeps m less end i small ∙ r.same i (omega (arith, r.sized)))

  pub truncate_holds : (n : Span) (m sec : ℕ) (p : Program) → plan (truncates n m sec) w ≡ granted p → (size' : ℕ) (content : Bytes) → Holds w n size' content
      → Holds (left largest (truncates n m sec) w) n m content
  truncate_holds n m sec p h size' content holds =
      let g : Truncated st is n m sec p = truncate_granted st is n m sec p h in
      let f : NamedFile st is n = g.it in
      let old : ℕ = file_size (slot_at (layout_of c) c (at n)) in
      let le : m ≤ old = g.less in
      ⊎_elim
      (λ a. let sized : old ≡ size' = (holds_read w v is n size' content holds).sized in
      let none : old - m ≡ 0 = a.0 in
      finish_with st is (λ x. Holds x n m content) (truncates n m sec) p (ending []) h (sym a.1)
      (unstored n m content (subst (λ k. Holds w n k content) (let e : size' ≡ m = omega arith in e) holds)))
      (λ a. let some : old - m ≡ 0 → ⊥ = a.0 in
      finish_with st is (λ x. Holds x n m content) (truncates n m sec) p _ h a.1
      (cut_then n m f (omega arith) (ended st [] _ (truncates_as st (at n) f.live f.keeps m (stamp_of sec))
      (truncate_supplies st (at n) f.live f.keeps m (stamp_of sec) le (stamp_small sec g.timely))) size' content holds))
      g.same
