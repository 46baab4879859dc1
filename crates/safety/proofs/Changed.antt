-- The slots that calls change, and those of a name that a call takes away.
use Prim.Native.Nat.{ℕ, ◌/◌, ◌<◌}
use native.Mathlib.Omega.{arith}
use mathlib.Core.Path.{◌≡◌, refl, sym, ap, ◌∙◌, subst}
use mathlib.Core.Logic.{◌⊎◌, inl, inr, ⊎_elim}
use mathlib.Core.List.{List, []}
use mathlib.Core.Bool.{Bool, true, false}
use Rattle.model.specs.Bytes.{Span}
use Rattle.model.specs.Scan.{among}
use Rattle.model.specs.Sector.{Card, Window, Store, after}
use Rattle.model.specs.Fat.{Fat}
use Rattle.model.specs.Root.{Directory, slot_at}
use Rattle.model.specs.Long.{long_count}
use Rattle.model.specs.Ground.{Answer, refused, granted}
use Rattle.model.specs.Volume.{clean}
use Rattle.model.specs.Record.{Change}
use Rattle.model.specs.Pending.{named_slots}
use Rattle.model.specs.declared.Layout.{Layout}
use Rattle.model.specs.declared.Pending.{Pending}
use Rattle.model.specs.declared.Volume.{Volume}
use Rattle.operations.specs.Program.{Program, ending}
use Rattle.operations.specs.Finish.{mark_deleted, effect}
use Rattle.operations.specs.Calls.{Call, deletes, renames, recovers, plan, slot_of, old_slots, changed_by}
use Rattle.operations.specs.Outcome.{left, made, largest}
use Rattle.safety.specs.Demand3.{finished, recoveries, settles_as, group_stored, SameTables}
use Rattle.safety.specs.Changed.{Slotwise, SlotsStay, Removes, OldMarked, AllOrNone}
use Rattle.model.proofs.Tests.{clash}
use Rattle.model.proofs.Long.{OfName, of_name?, not_of_name}
use Rattle.model.proofs.Volumes.{window, layout_of, volume_of}
use Rattle.operations.proofs.Seats.{unnamed}
use Rattle.operations.proofs.Roots.{slot_same}
use Rattle.safety.proofs.Start.{Start, shape_of}
use Rattle.safety.proofs.Theorem.{demand3}
use Rattle.safety.proofs.Ended.{Ended, ended}
use Rattle.safety.proofs.Granted.{Renamed, rename_granted, Deleted, delete_granted}
use Rattle.safety.proofs.Operated.{Operated, operated}
use Rattle.safety.proofs.Moved.{finish_with, left_slots, rename_end, gone_slots, delete_end}
use Rattle.safety.proofs.Saved.{started, volume_is}

module _ {size : ℕ} {c : Card} (st : Start size c) (is : clean (window size c) ≡ granted (volume_of c Pending.Nothing)) where
  abbrev l : Layout
  l = layout_of c

  abbrev v : Volume
  v = volume_of c Pending.Nothing

  abbrev w : Window
  w = window size c

  abbrev d : Directory
  d = slot_at l c

  abbrev at : Span → ℕ
  at n = slot_of v c n

  -- Every slot of y but those of a list is as it was.
  abbrev Stay : List ℕ → Card → Type 0
  Stay ks y = (s : ℕ) → s < l.entries → among ks s ≡ false → (j : ℕ) → j < 32 → slot_at l y s j ≡ d s j

  abbrev Stays : Call → Window → Type 0
  Stays k x = Stay (changed_by v c k) x.card

  none_stays : (k : Call) → Stays k (window size (after [] c))
  unfolding after
  none_stays k s less off j small = refl

  -- A finished operation changes the slots that it names.
  ended_stays : {ds : List Store} {f : Fat} {o : Change} {t : Card} → Ended size c ds f o t → (ks : List ℕ) → named_slots o.operation ≡ ks → Stay ks t
  ended_stays {ds} {f} {o} {t} end ks same s less off j small =
      end.slots s less j small ∙ (λ i. unnamed o d s (ap (λ ks. among ks s) same ∙ off) i j)

  operated_stays : (k : Call) (p : Program) → plan k w ≡ granted p → Operated c k p → Stays k (left largest k w)
  operated_stays k p h (Operated.idles e) = finish_with st is (Stays k) k p (ending []) h e (none_stays k)
  operated_stays k p h (Operated.operates ds f o given own fat slots same) =
      finish_with st is (Stays k) k p _ h same (ended_stays (ended st ds f o given) _ slots)

  call_stays : (k : Call) (a : Answer Program) → plan k w ≡ a → Stays k (left largest k w)
  unfolding left made
  call_stays k (refused g) h = rw h (none_stays k)
  call_stays k (granted p) h = operated_stays k p h (operated st is k p h)

  -- ---- a name that is taken away

  in_old : (n : Span) (s : ℕ) → among (old_slots v c n) s ≡ true → OfName (at n) (long_count d (at n)) s
  unfolding old_slots
  in_old n s h = ⊎_elim (λ q. q) (λ off. clash h (not_of_name (at n) (long_count d (at n)) s off)) (of_name? (at n) (long_count d (at n)) s)

  abbrev Marked : Span → Window → Type 0
  Marked n x = Slotwise (λ b. mark_deleted b) l c x.card (old_slots v c n)

  -- A change that marks the slots of the name.
  ended_marked : {ds : List Store} {f : Fat} {o : Change} {t : Card} (n : Span) → at n < l.entries
      → ((k : ℕ) → OfName (at n) (long_count d (at n)) k → effect o d k ≡ mark_deleted (d k)) → Ended size c ds f o t → Marked n (window size t)
  ended_marked n low made end s h j small =
      let q = in_old n s h in
      end.slots s (omega (arith, q.0)) j small ∙ (λ i. made s q i j)

  removes_marked : (k : Call) (n : Span) → Removes k n → (p : Program) → plan k w ≡ granted p → Marked n (left largest k w)
  removes_marked k n (inl e) p h = subst (λ k. Marked n (left largest k w)) (sym e) (go (ap (λ k. plan k w) (sym e) ∙ h))
    where
      go : plan (deletes n) w ≡ granted p → Marked n (left largest (deletes n) w)
      go h =
          let g : Deleted st is n p = delete_granted st is n p h in
          finish_with st is (Marked n) (deletes n) p _ h g.same
          (ended_marked n g.it.live.in_root (gone_slots st is n p g (delete_end st is n p g)) (delete_end st is n p g))
  removes_marked k n (inr r) p h = subst (λ k. Marked n (left largest k w)) (sym r.1) (go r.0 (ap (λ k. plan k w) (sym r.1) ∙ h))
    where
      go : (m : Span) → plan (renames n m) w ≡ granted p → Marked n (left largest (renames n m) w)
      go m h =
          let g : Renamed st is n m p = rename_granted st is n m p h in
          finish_with st is (Marked n) (renames n m) p _ h g.same
          (ended_marked n g.live.in_root (left_slots st is n m p g (rename_end st is n m p g)) (rename_end st is n m p g))

  old_low : (k : Call) (n : Span) → Removes k n → (p : Program) → plan k w ≡ granted p → at n < l.entries
  old_low k n (inl e) p h = (delete_granted st is n p (ap (λ k. plan k w) (sym e) ∙ h)).it.live.in_root
  old_low k n (inr r) p h = (rename_granted st is n r.0 p (ap (λ k. plan k w) (sym r.1) ∙ h)).live.in_root

  -- Cards with the same root directory have the same slots.
  same_slots : (n : Span) → at n < l.entries → (y z : Card) → SameTables l y z → (s : ℕ) → among (old_slots v c n) s ≡ true → slot_at l y s ≡ slot_at l z s
  same_slots n low y z same s h =
      let q = in_old n s h in
      slot_same l y z s (same.root (s / 16) (omega (arith, q.0, (shape_of st).whole_sectors)))

pub slots_stay : SlotsStay
slots_stay k w v real is =
    let same : v ≡ volume_of w.card Pending.Nothing = volume_is w v is in
    rw same (call_stays (started w v real is) (is ∙ ap granted same) k (plan k w) refl)

pub old_marked : OldMarked
old_marked k w v real is n r p h =
    let same : v ≡ volume_of w.card Pending.Nothing = volume_is w v is in
    rw same (removes_marked (started w v real is) (is ∙ ap granted same) k n r p h)

pub all_or_none : AllOrNone
all_or_none k w v real is n r p h limit limits once m ends = go (group_stored limit k w) ((demand3 k w v real is limit limits once).tables m ends)
  where
    same : v ≡ volume_of w.card Pending.Nothing
    same = volume_is w v is

    y : Card
    y = (left once recovers (recoveries limits (left limit k w))).card

    st : Start w.size w.card
    st = started w v real is

    now : clean w ≡ granted (volume_of w.card Pending.Nothing)
    now = is ∙ ap granted same

    alike : (z : Card) → SameTables v.layout y z → (s : ℕ) → among (old_slots v w.card n) s ≡ true → slot_at v.layout y s ≡ slot_at v.layout z s
    alike = rw same (same_slots st now n (old_low st now k n r p h) y)

    go : (stored : Bool) → SameTables v.layout y (settles_as stored k w)
        → Slotwise (λ b. mark_deleted b) v.layout w.card y (old_slots v w.card n) ⊎ Slotwise (λ b. b) v.layout w.card y (old_slots v w.card n)
    go true t = inl (λ s q j small. (λ i. alike (finished k w) t s q i j) ∙ old_marked k w v real is n r p h s q j small)
    go false t = inr (λ s q j small. (λ i. alike w.card t s q i j))
