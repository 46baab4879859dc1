-- What is read after a replace.
use Prim.Native.Nat.{ℕ, ◌-◌, ◌<◌}
use native.Mathlib.Nat.{zero-add}
use native.Mathlib.Omega.{arith}
use mathlib.Core.Path.{◌≡◌, refl, sym, ap, ◌∙◌, subst}
use mathlib.Core.Logic.{◌⊎◌, inl, inr}
use mathlib.Core.List.{List, []}
use mathlib.Core.Bool.{true}
use lib.ListN.{length, get_or}
use Rattle.model.specs.Bytes.{Bytes, Span}
use Rattle.model.specs.Sector.{Card, Window}
use Rattle.model.specs.Fat.{Fat}
use Rattle.model.specs.Chain.{needed}
use Rattle.model.specs.Root.{slot_at, file_size, first_cluster, file_at, entry_at}
use Rattle.model.specs.Calendar.{stamp_of}
use Rattle.model.specs.Ground.{granted}
use Rattle.model.specs.Volume.{clean}
use Rattle.model.specs.Promises.{Shape}
use Rattle.model.specs.declared.Layout.{Layout}
use Rattle.model.specs.declared.Pending.{Pending}
use Rattle.model.specs.declared.Volume.{Volume}
use Rattle.operations.specs.Program.{Program}
use Rattle.operations.specs.Finish.{edits, operation_edits}
use Rattle.operations.specs.Calls.{plan, replaces, slot_of}
use Rattle.operations.specs.Outcome.{left, largest}
use Rattle.operations.specs.Reading.{file_byte}
use Rattle.safety.specs.Saved.{Holds}
use Rattle.model.proofs.Calendar.{stamp_small}
use Rattle.model.proofs.Tests.{same?}
use Rattle.model.proofs.All.{All, all_map}
use Rattle.model.proofs.Lists.{drop_all}
use Rattle.model.proofs.Names.{Live}
use Rattle.model.proofs.Needed.{needed_none}
use Rattle.model.proofs.Volumes.{window, layout_of, first_fat, volume_of}
use Rattle.safety.proofs.Start.{Start, shape_of}
use Rattle.safety.proofs.Clusters.{Fresh, plain_fits, fresh_off}
use Rattle.safety.proofs.Operations.{KeepsChain, old_used}
use Rattle.safety.proofs.Linked.{Off, exchange_linked}
use Rattle.safety.proofs.Ended.{Ended, ended}
use Rattle.safety.proofs.Chained.{HasChain, empty_then, linked_then}
use Rattle.safety.proofs.Slots.{resized, resized_size, resized_first, Resizes, resizes}
use Rattle.safety.proofs.Extents.{Extent, new_plain, total_fits, ds}
use Rattle.safety.proofs.Supplied.{replaces_as, exchanged_fat, replace_supplies, ks}
use Rattle.safety.proofs.Granted.{NamedFile, Renewal, Replaced, replace_granted}
use Rattle.safety.proofs.Moved.{finish_with}
use Rattle.safety.proofs.Means.{resized_holds}
use Rattle.safety.proofs.Cut.{needed_some}
use Rattle.safety.proofs.Written.{all_high, all_ranged, new_bytes}

module _ {size : ℕ} {c : Card} (st : Start size c) (s : ℕ) (live : Live (layout_of c) c s) (keeps : KeepsChain c s)
    {new : List ℕ} {d : Span} (x : Extent c [] new 0 d) {stamp : ℕ} {t : Card}
    (end : Ended size c (ds st x) (exchanged_fat st s live keeps x) (replaces_as st s live keeps x stamp) t) where
  abbrev l : Layout
  l = layout_of c

  abbrev fat : Fat
  fat = first_fat c

  abbrev b : Bytes
  b = slot_at l c s

  abbrev old : List ℕ
  old = ks st s live keeps

  abbrev from : ℕ
  from = get_or new 0 0

  abbrev slot : Bytes
  slot = resized true from d.size stamp b

  sh : Shape l
  sh = shape_of st

  pub replaced_edit : Resizes c (replaces_as st s live keeps x stamp) s slot
  unfolding edits operation_edits entry_at
  replaced_edit = resizes c (replaces_as st s live keeps x stamp) s true from d.size stamp refl

  pub replaced_size : file_size slot ≡ d.size
  replaced_size = resized_size true from d.size stamp b (omega (arith, total_fits st x))

  replaced_first : first_cluster slot ≡ from
  replaced_first = resized_first true from d.size stamp b (plain_fits l sh.few fat new (new_plain st x) 0)

  new_long : length new ≡ needed l d.size
  new_long = simp zero-add at x.long

  pub replaced_chain : HasChain l t s new
  replaced_chain = go (same? d.size 0)
    where
      go : (d.size ≡ 0) ⊎ (d.size ≡ 0 → ⊥) → HasChain l t s new
      go (inl z) =
          let empty : new ≡ [] = drop_all 0 new (rw (new_long, z, needed_none l sh.factor_low) (omega arith)) in
          subst (HasChain l t s) (sym empty) (empty_then st end s live.in_root slot replaced_edit.slot
          (replaced_first ∙ ap (λ (ks : List ℕ). get_or ks 0 0) empty) (replaced_size ∙ z))
      go (inr ne) =
          let off : All (Off old) new = all_map (Fresh l fat) (Off old) (fresh_off l fat old (old_used st s live keeps)) new x.fresh in
          let some : 0 < length new = rw new_long (needed_some l sh.factor_low d.size ne) in
          linked_then st end s live.in_root slot replaced_edit.slot new (exchange_linked l old new fat x.distinct (all_ranged st x) off some)
          (all_high st x) (sym replaced_first) (new_long ∙ ap (needed l) (sym replaced_size)) (λ e. ne (sym replaced_size ∙ e))

  pub replaced_bytes : (i : ℕ) → i < d.size → file_byte l t (file_at l t s) i ≡ d.byte i
  replaced_bytes i less = let e : i - 0 ≡ i = omega arith in new_bytes st x end replaced_chain i (omega arith) (omega arith) ∙ ap d.byte e

module _ {size : ℕ} {c : Card} (st : Start size c) (is : clean (window size c) ≡ granted (volume_of c Pending.Nothing)) where
  abbrev v : Volume
  v = volume_of c Pending.Nothing

  abbrev w : Window
  w = window size c

  pub replace_holds : (n d : Span) (sec : ℕ) (p : Program) → plan (replaces n d sec) w ≡ granted p
      → Holds (left largest (replaces n d sec) w) n d.size d.byte
  replace_holds n d sec p h =
      let g : Replaced st is n d sec p = replace_granted st is n d sec p h in
      let f : NamedFile st is n = g.it in
      let x : Renewal st is d = g.extent in
      let s : ℕ = slot_of v c n in
      let end = ended st _ _ (replaces_as st s f.live f.keeps x (stamp_of sec)) (replace_supplies st s f.live f.keeps x (stamp_of sec)
      (stamp_small sec g.timely)) in
      finish_with st is (λ x. Holds x n d.size d.byte) (replaces n d sec) p _ h g.same
      (resized_holds st is end n (replaced_edit st s f.live f.keeps x end) f.found d.size d.byte
      (replaced_size st s f.live f.keeps x end) (replaced_chain st s f.live f.keeps x end).keeps
      (replaced_bytes st s f.live f.keeps x end))
