-- A call that is not refused stores nothing, or is an operation: which one, once for all that is shown of every call.
use Prim.Native.Nat.{ℕ, ◌+◌, ◌<◌}
use native.Mathlib.Omega.{arith}
use mathlib.Core.Path.{◌≡◌, refl, sym, ap, ◌∙◌}
use mathlib.Core.Logic.{inl, inr}
use mathlib.Core.List.{List, [], ◌∷◌, ◌++◌}
use lib.Dec.{ltb}
use borrow.Author.Tests.{ltb-true}
use Rattle.model.specs.Bytes.{Span, zeros}
use Rattle.model.specs.Sector.{Card, Store}
use Rattle.model.specs.Fat.{Fat}
use Rattle.model.specs.Root.{slot_at, entry_at, free_slot}
use Rattle.model.specs.Long.{name_slots, long_count}
use Rattle.model.specs.Calendar.{stamp_of}
use Rattle.model.specs.Ground.{granted}
use Rattle.model.specs.Volume.{clean}
use Rattle.model.specs.Record.{Change}
use Rattle.model.specs.Pending.{named_slots}
use Rattle.model.specs.declared.Pending.{Pending}
use Rattle.model.specs.declared.Volume.{Volume}
use Rattle.operations.specs.Program.{Program, ending}
use Rattle.operations.specs.Plan.{operate, text_of, no_text}
use Rattle.operations.specs.Calls.{Call, creates, creates_long, appends, truncates, deletes, renames, replaces, recovers, plan, slot_of, run_end, old_slots}
use Rattle.operations.specs.Calls.{new_slots, changed_by}
use Rattle.safety.specs.Saved.{OfBytes}
use Rattle.model.proofs.Calendar.{stamp_small}
use Rattle.model.proofs.Tests.{by_pick}
use Rattle.model.proofs.All.{All}
use Rattle.model.proofs.Volumes.{window, layout_of, first_fat, volume_of}
use Rattle.safety.proofs.Start.{Start}
use Rattle.safety.proofs.Before.{start_rests}
use Rattle.safety.proofs.Operate.{Supplies}
use Rattle.model.proofs.Numbers.{Small}
use Rattle.safety.proofs.Bytewise.{SmallStore, SmallCard, data_small, release_small, shorten_small, extend_small, exchange_small}
use Rattle.safety.proofs.Supplied.{create_supplies, rename_supplies, delete_supplies, truncate_supplies, append_supplies, replace_supplies}
use Rattle.safety.proofs.Granted.{Created, create_granted, long_granted, Renamed, rename_granted, Deleted, delete_granted, NamedFile, Truncated}
use Rattle.safety.proofs.Granted.{truncate_granted, Appended, append_granted, Replaced, replace_granted, Unless}

-- On the clean card c call k, whose program is p, stores nothing; or it makes change o with data stores ds and the new FAT f: what it must bring
-- is there, it writes bytes where it is given bytes, and it names the slots that the call changes.
pub data Operated (c : Card) (k : Call) (p : Program) : Type 0 where
  idles : ending [] ≡ p → Operated c k p
  operates : (ds : List Store) (f : Fat) (o : Change) → Supplies c ds f o → (OfBytes k → All SmallStore ds × Small o.text) → SmallCard f
      → named_slots o.operation ≡ changed_by (volume_of c Pending.Nothing) c k → operate (volume_of c Pending.Nothing) c ds f o ≡ p → Operated c k p

module _ {size : ℕ} {c : Card} (st : Start size c) (is : clean (window size c) ≡ granted (volume_of c Pending.Nothing)) where
  abbrev v : Volume
  v = volume_of c Pending.Nothing

  abbrev fat : Fat
  fat = first_fat c

  abbrev at : Span → ℕ
  at n = slot_of v c n

  old_small : SmallCard fat
  old_small s = st.small ((layout_of c).fat1 + s)

  unless : (k : Call) (n : ℕ) (q p : Program) → Unless st is n q p → (q ≡ p → Operated c k p) → Operated c k p
  unless k n q p (inl a) h = Operated.idles (sym a.1)
  unless k n q p (inr a) h = h a.1

  -- The characters of a create.
  text_small : (t : Span) → ((i : ℕ) → i < t.size → t.byte i < 256) → Small (text_of t)
  text_small t h i = by_pick (λ x. x < 256) (ltb i t.size) (t.byte i) 0 (λ e. h i (ltb-true i t.size e)) (λ _. omega arith)

  no_small : Small zeros
  no_small i = omega arith

  made : (k : Call) (n t : Span) (sec : ℕ) (p : Program) → Created st is n t sec p → new_slots (layout_of c) c t ≡ changed_by v c k → (OfBytes k → Small
      (text_of t))
      → Operated c k p
  unfolding named_slots new_slots
  made k n t sec p g slots small =
      Operated.operates [] fat _ (create_supplies st n t (stamp_of sec) g.ok g.fine g.room (stamp_small sec g.timely)) (λ b.
      (tt, small b)) old_small slots g.same

  pub operated : (k : Call) (p : Program) → plan k (window size c) ≡ granted p → Operated c k p
  unfolding changed_by old_slots new_slots named_slots name_slots entry_at
  operated (creates n sec) p h = made (creates n sec) n no_text sec p (create_granted st is n sec p h) refl (λ b. text_small no_text (λ i less. absurd
      (omega arith)))
  operated (creates_long n t sec) p h = made (creates_long n t sec) n t sec p (long_granted st is n t sec p h) refl (λ b. text_small t b)
  operated (renames n m) p h =
      let g : Renamed st is n m p = rename_granted st is n m p h in
      let at-end : free_slot (layout_of c) c ≡ run_end (layout_of c) c no_text = omega arith in
      Operated.operates [] fat _ (rename_supplies st (at n) g.live m g.new_ok g.room) (λ b. (tt, no_small)) old_small
      (ap (λ s. name_slots (at n) (long_count (slot_at (layout_of c) c) (at n)) ++ (s ∷ [])) at-end) g.same
  operated (deletes n) p h =
      let g : Deleted st is n p = delete_granted st is n p h in
      Operated.operates [] _ _ (delete_supplies st (at n) g.it.live g.it.keeps) (λ b. (tt, no_small)) (release_small _ fat old_small)
      refl g.same
  operated (truncates n m sec) p h =
      let g : Truncated st is n m sec p = truncate_granted st is n m sec p h in
      let f : NamedFile st is n = g.it in
      unless (truncates n m sec) _ _ p g.same (Operated.operates [] _ _ (truncate_supplies st (at n) f.live f.keeps m (stamp_of sec) g.less
      (stamp_small sec g.timely)) (λ b. (tt, no_small))
      (shorten_small _ _ fat old_small) refl)
  operated (appends n d sec) p h =
      let g : Appended st is n d sec p = append_granted st is n d sec p h in
      let f : NamedFile st is n = g.it in
      unless (appends n d sec) _ _ p g.same (Operated.operates _ _ _ (append_supplies st (at n) f.live f.keeps g.extent (stamp_of sec)
      (stamp_small sec g.timely))
      (λ b. (data_small (layout_of c) c _ _ d st.small b, no_small)) (extend_small _ _ fat old_small) refl)
  operated (replaces n d sec) p h =
      let g : Replaced st is n d sec p = replace_granted st is n d sec p h in
      let f : NamedFile st is n = g.it in
      Operated.operates _ _ _ (replace_supplies st (at n) f.live f.keeps g.extent (stamp_of sec) (stamp_small sec g.timely))
      (λ b. (data_small (layout_of c) c _ _ d st.small b, no_small)) (exchange_small _ _ fat old_small) refl g.same
  operated recovers p h = let e : granted (ending []) ≡ granted p = sym (start_rests st) ∙ h in Operated.idles (cc)
