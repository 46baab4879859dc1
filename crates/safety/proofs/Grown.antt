-- What is read after an append.
use Prim.Native.Nat.{ℕ, ◌+◌, ◌-◌, ◌≤◌, ◌<◌}
use native.Mathlib.Omega.{arith}
use mathlib.Core.Path.{◌≡◌, refl, sym, ap, ◌∙◌}
use mathlib.Core.Logic.{◌⊎◌, inl, inr, ⊎_elim}
use mathlib.Core.List.{List, [], ◌++◌}
use lib.Dec.{eqb, ltb}
use lib.ListN.{length, get_or, get_or-append}
use borrow.Author.Tests.{ne_eqb, lt-ltb, le-ltb}
use Rattle.model.specs.Bytes.{Bytes, Span, pick}
use Rattle.model.specs.Sector.{Card, Window}
use Rattle.model.specs.Fat.{Fat, entry}
use Rattle.model.specs.Chain.{needed, chain}
use Rattle.model.specs.Root.{slot_at, file_size, first_cluster, file_at, entry_at}
use Rattle.model.specs.Calendar.{stamp_of}
use Rattle.model.specs.Ground.{granted}
use Rattle.model.specs.Volume.{clean}
use Rattle.model.specs.Promises.{Shape}
use Rattle.model.specs.declared.Layout.{Layout}
use Rattle.model.specs.declared.Pending.{Pending}
use Rattle.model.specs.declared.Volume.{Volume}
use Rattle.operations.specs.Program.{Program, ending}
use Rattle.operations.specs.Finish.{edits, operation_edits}
use Rattle.operations.specs.Plan.{clusters_of, last_cluster}
use Rattle.operations.specs.Calls.{plan, appends, slot_of}
use Rattle.operations.specs.Outcome.{left, largest}
use Rattle.operations.specs.Reading.{file_byte}
use Rattle.safety.specs.Sound.{chain_of}
use Rattle.safety.specs.Saved.{Holds}
use Rattle.model.proofs.Calendar.{stamp_small}
use Rattle.model.proofs.Tests.{same?, less?}
use Rattle.model.proofs.Indices.{all_get_or}
use Rattle.model.proofs.Chains.{Used}
use Rattle.model.proofs.Names.{Live}
use Rattle.model.proofs.Volumes.{window, layout_of, first_fat, volume_of}
use Rattle.safety.proofs.Start.{Start, shape_of}
use Rattle.safety.proofs.Clusters.{plain_fits}
use Rattle.safety.proofs.Operations.{KeepsChain}
use Rattle.safety.proofs.Theorem.{along}
use Rattle.safety.proofs.Linked.{Linked, extend_linked}
use Rattle.safety.proofs.Ended.{Ended, ended}
use Rattle.model.proofs.Needed.{needed_none}
use Rattle.safety.proofs.Chained.{HasChain, linked_then}
use Rattle.safety.proofs.Readings.{Read, holds_of, holds_read}
use Rattle.safety.proofs.Slots.{resized, resized_size, resized_first, Resizes, resizes}
use Rattle.safety.proofs.Supplied.{updates_as, longer_fat, append_supplies, ks}
use Rattle.safety.proofs.Granted.{NamedFile, Growth, Appended, append_granted}
use Rattle.safety.proofs.Moved.{finish_with}
use Rattle.safety.proofs.Cut.{needed_some, own_linked, own_first, unstored}
use Rattle.safety.proofs.Means.{resized_holds}
use Rattle.safety.proofs.Extents.{Extent, new_plain, all_distinct, all_long, total_fits, ds}
use Rattle.safety.proofs.Written.{all_high, all_ranged, old_bytes, new_bytes}

module _ {size : ℕ} {c : Card} (st : Start size c) (s : ℕ) (live : Live (layout_of c) c s) (keeps : KeepsChain c s)
    {new : List ℕ} {d : Span} (x : Extent c (ks st s live keeps) new (file_size (slot_at (layout_of c) c s)) d) (some : d.size ≡ 0 → ⊥) where
  abbrev l : Layout
  l = layout_of c

  abbrev fat : Fat
  fat = first_fat c

  abbrev b : Bytes
  b = slot_at l c s

  abbrev old : ℕ
  old = file_size b

  abbrev own : List ℕ
  own = ks st s live keeps

  abbrev both : List ℕ
  both = own ++ new

  abbrev total : ℕ
  total = old + d.size

  sh : Shape l
  sh = shape_of st

  -- ---- the chain

  own_none : old ≡ 0 → own ≡ []
  unfolding chain
  own_none z = ap (λ m. chain (entry fat) m (first_cluster b)) (ap (needed l) z ∙ needed_none l sh.factor_low)

  -- The first cluster then: the first of the new ones, if there was none.
  head_then : pick (eqb (last_cluster own) 0) (get_or new 0 0) (first_cluster b) ≡ get_or both 0 0
  head_then = go (same? old 0)
    where
      go : (old ≡ 0) ⊎ (old ≡ 0 → ⊥) → pick (eqb (last_cluster own) 0) (get_or new 0 0) (first_cluster b) ≡ get_or both 0 0
      go (inl z) = rw (own_none z)
      go (inr ne) =
          let pos : 0 < length own = rw x.base.long (needed_some l sh.factor_low old ne) in
          let low : 2 ≤ last_cluster own = (all_get_or (Used l (entry fat)) own x.base.used (length own - 1) (omega arith)).low in
          ap (λ t. pick t (get_or new 0 0) (first_cluster b)) (ne_eqb (last_cluster own) 0 (λ e. omega arith))
          ∙ sym (own_first st s live keeps ne) ∙ sym (get_or-append own new 0 0 pos)

  both_linked : Linked l (entry (longer_fat st s live keeps x)) both
  both_linked = extend_linked l own new fat (all_distinct st x) (all_ranged st x)
      (λ pos. own_linked st s live keeps (λ z. let none : length own ≡ 0 = ap length (own_none z) in omega arith))
      (rw (all_long st x) (needed_some l sh.factor_low total (λ e. some (omega arith))))

  -- ---- the card at the end

  module _ {stamp : ℕ} {t : Card} (end : Ended size c (ds st x) (longer_fat st s live keeps x) (updates_as st s live keeps x stamp) t) where
    abbrev grown : Bytes
    grown = resized (eqb (last_cluster own) 0) (get_or new 0 0) total stamp b

    pub grown_edit : Resizes c (updates_as st s live keeps x stamp) s grown
    unfolding edits operation_edits entry_at
    grown_edit = resizes c (updates_as st s live keeps x stamp) s (eqb (last_cluster own) 0) (get_or new 0 0) total stamp refl

    pub grown_size : file_size grown ≡ total
    grown_size = resized_size (eqb (last_cluster own) 0) (get_or new 0 0) total stamp b (total_fits st x)

    pub grown_chain : HasChain l t s both
    grown_chain = linked_then st end s live.in_root grown grown_edit.slot both both_linked (all_high st x)
        (sym (resized_first (eqb (last_cluster own) 0) (get_or new 0 0) total stamp b (plain_fits l sh.few fat new (new_plain st x) 0) ∙ head_then))
        (all_long st x ∙ ap (needed l) (sym grown_size)) (λ e. some (let z : total ≡ 0 = sym grown_size ∙ e in omega arith))

    pub same_bytes : (i : ℕ) → i < old → file_byte l t (file_at l t s) i ≡ file_byte l c (file_at l c s) i
    unfolding chain_of clusters_of file_at
    same_bytes i less = old_bytes st x end grown_chain i less ∙ sym (along l c s own i refl)

module _ {size : ℕ} {c : Card} (st : Start size c) (is : clean (window size c) ≡ granted (volume_of c Pending.Nothing)) where
  abbrev v : Volume
  v = volume_of c Pending.Nothing

  abbrev w : Window
  w = window size c

  abbrev at : Span → ℕ
  at n = slot_of v c n

  -- The old bytes, then the new.
  abbrev pub then_new : ℕ → Bytes → Span → Bytes
  then_new size content d i = pick (ltb i size) (content i) (d.byte (i - size))

  module _ (n d : Span) (g : NamedFile st is n) (x : Growth st is n d g) (some : d.size ≡ 0 → ⊥) {stamp : ℕ} {t : Card}
      (end : Ended size c (ds st x) (longer_fat st (at n) g.live g.keeps x) (updates_as st (at n) g.live g.keeps x stamp) t) where
    grown_then : (size' : ℕ) (content : Bytes) → Holds w n size' content → Holds (window size t) n (size' + d.size) (then_new size' content d)
    grown_then size' content h =
        let s : ℕ = at n in
        let r : Read w v is n size' content = holds_read w v is n size' content h in
        let sized : file_size (slot_at (layout_of c) c s) ≡ size' = r.sized in
        let has = grown_chain st s g.live g.keeps x some end in
        resized_holds st is end n (grown_edit st s g.live g.keeps x some end) g.found (size' + d.size) (then_new size' content d)
        (grown_size st s g.live g.keeps x some end ∙ ap (λ m. m + d.size) sized) has.keeps
        (λ i less. ⊎_elim
        (λ low. same_bytes st s g.live g.keeps x some end i (omega arith) ∙ r.same i low
        ∙ sym (ap (λ t. pick t (content i) (d.byte (i - size'))) (lt-ltb i size' low)))
        (λ high. new_bytes st x end has i (omega arith) (omega arith) ∙ ap (λ m. d.byte (i - m)) sized
        ∙ sym (ap (λ t. pick t (content i) (d.byte (i - size'))) (le-ltb i size' high)))
        (less? i size'))

  -- Nothing appended.
  none_then : (n d : Span) (size' : ℕ) (content : Bytes) → d.size ≡ 0 → Holds w n size' content → Holds w n (size' + d.size) (then_new size' content d)
  none_then n d size' content z h =
      let r : Read w v is n size' content = holds_read w v is n size' content h in
      holds_of w v is n (at n) r.found (size' + d.size) (then_new size' content d) (r.sized ∙ (let e : size' ≡ size' + d.size = omega arith in e))
      (λ i less. r.same i (omega arith) ∙ sym (ap (λ t. pick t (content i) (d.byte (i - size'))) (lt-ltb i size' (omega arith))))

  pub append_holds : (n d : Span) (sec : ℕ) (p : Program) → plan (appends n d sec) w ≡ granted p → (size' : ℕ) (content : Bytes) → Holds w n size' content
      → Holds (left largest (appends n d sec) w) n (size' + d.size) (then_new size' content d)
  append_holds n d sec p h size' content holds =
      let g : Appended st is n d sec p = append_granted st is n d sec p h in
      let f : NamedFile st is n = g.it in
      let x : Growth st is n d f = g.extent in
      ⊎_elim
      (λ a. finish_with st is (λ x. Holds x n (size' + d.size) (then_new size' content d)) (appends n d sec) p (ending []) h (sym a.1)
      (unstored st is n (size' + d.size) (then_new size' content d) (none_then n d size' content a.0 holds)))
      (λ a. finish_with st is (λ x. Holds x n (size' + d.size) (then_new size' content d)) (appends n d sec) p _ h a.1
      (grown_then n d f x a.0 (ended st _ _ (updates_as st (at n) f.live f.keeps x (stamp_of sec)) (append_supplies st (at n) f.live f.keeps x
      (stamp_of sec) (stamp_small sec g.timely)))
      size' content holds))
      g.same
