-- The dates of the file that a call names, after the call and after a cut.
use Prim.Native.Nat.{ℕ, ◌+◌, ◌-◌, ◌^◌, ◌≤◌, ◌<◌}
use native.Mathlib.Omega.{arith}
use mathlib.Core.Path.{◌≡◌, refl, sym, ap, ◌∙◌, subst}
use mathlib.Core.Logic.{⊎_elim}
use mathlib.Core.List.{List, []}
use mathlib.Core.Bool.{Bool, true}
use lib.Dec.{eqb}
use lib.ListN.{get_or}
use Rattle.model.specs.Bytes.{Bytes, Span, le, byte_of, overlay, patch, zeros}
use Rattle.model.specs.Sector.{Card, Store, Window, after}
use Rattle.model.specs.Fat.{Fat}
use Rattle.model.specs.Root.{slot_at, bears, file_size, file_at, free_slot}
use Rattle.model.specs.Calendar.{stamp_of, stamp_time, stamp_date, last_second}
use Rattle.model.specs.Record.{Change}
use Rattle.model.specs.Ground.{granted}
use Rattle.model.specs.Volume.{clean}
use Rattle.model.specs.declared.Layout.{Layout}
use Rattle.model.specs.declared.Name.{Name}
use Rattle.model.specs.declared.Pending.{Pending}
use Rattle.model.specs.declared.Volume.{Volume}
use Rattle.operations.specs.Program.{Program, ending}
use Rattle.operations.specs.Finish.{set_stamp, set_name, new_entry}
use Rattle.operations.specs.Plan.{no_text, last_cluster, new_clusters, fresh_clusters}
use Rattle.operations.specs.Calls.{Call, creates, creates_long, appends, truncates, deletes, renames, replaces, recovers, plan, slot_of, name_of, run_end}
use Rattle.operations.specs.Outcome.{left, largest}
use Rattle.safety.specs.Demand3.{finished, recoveries, settles_as, SameTables}
use Rattle.safety.specs.Dates.{Changed, Born, Updated, Undated, entry_of, Has, Dates, DatesSet, DatesRecovered}
use Rattle.model.proofs.Overlays.{overlay_above}
use Rattle.model.proofs.Numbers.{read_back, le_local, le_over_below, le_over_above}
use Rattle.model.proofs.Calendar.{stamp_small, stamp_time_of, stamp_date_of}
use Rattle.model.proofs.Volumes.{window, layout_of, first_fat, volume_of}
use Rattle.safety.proofs.Start.{Start, shape_of, slots_same}
use Rattle.safety.proofs.Ended.{Ended, ended}
use Rattle.safety.proofs.Slots.{resized, resized_below, Resizes, means_same}
use Rattle.safety.proofs.Supplied.{creates_as, truncates_as, truncate_supplies, updates_as, append_supplies, replaces_as, replace_supplies, ks}
use Rattle.safety.proofs.Granted.{Created, Renamed, NamedFile, Truncated, Growth, Appended, Renewal, Replaced, create_granted, long_granted}
use Rattle.safety.proofs.Granted.{rename_granted, truncate_granted, append_granted, replace_granted}
use Rattle.safety.proofs.Moved.{finish_with, create_end, create_found, new_in, new_slot, rename_end, named_slot, rename_at}
use Rattle.safety.proofs.Means.{resized_means}
use Rattle.safety.proofs.Cut.{cut_edit}
use Rattle.safety.proofs.Grown.{grown_edit}
use Rattle.safety.proofs.Replaced.{replaced_edit}
use Rattle.safety.proofs.Saved.{started, volume_is}
use Rattle.safety.proofs.Theorem.{demand3}

-- ---- the fields of a slot

-- A stamp is two words, which are read back.
module _ (stamp : ℕ) (small : stamp < 256 ^ 4) where
  low : stamp_time stamp < 256 ^ 2
  low = omega arith

  high : stamp_date stamp < 256 ^ 2
  high = omega arith

  module _ (b : Bytes) where
    abbrev date_24 : Bytes
    date_24 = patch 2 (stamp_date stamp) 24 (patch 2 (stamp_date stamp) 18 b)

    set_write_time : le 2 (set_stamp stamp b) 22 ≡ stamp_time stamp
    set_write_time = read_back 2 (stamp_time stamp) 22 date_24 low

    set_write_date : le 2 (set_stamp stamp b) 24 ≡ stamp_date stamp
    set_write_date = le_over_above 2 2 22 24 (byte_of (stamp_time stamp)) date_24 (omega arith)
        ∙ read_back 2 (stamp_date stamp) 24 (patch 2 (stamp_date stamp) 18 b) high

    set_access_date : le 2 (set_stamp stamp b) 18 ≡ stamp_date stamp
    set_access_date = le_over_below 2 2 22 18 (byte_of (stamp_time stamp)) date_24 (omega arith)
        ∙ le_over_below 2 2 24 18 (byte_of (stamp_date stamp)) (patch 2 (stamp_date stamp) 18 b) (omega arith)
        ∙ read_back 2 (stamp_date stamp) 18 b high

  -- A new entry's fields are those below its name and attributes.
  module _ (n : Name) where
    abbrev tail : Bytes
    tail = set_stamp stamp zeros

    abbrev filled : Bytes
    filled = patch 2 (stamp_time stamp) 14 (patch 2 (stamp_date stamp) 16 tail)

    past_name : (at : ℕ) → 12 ≤ at → le 2 (new_entry n stamp) at ≡ le 2 filled at
    unfolding new_entry
    past_name at more =
        le_over_above 2 8 0 at (byte_of n.stem) _ (omega arith) ∙ le_over_above 2 3 8 at (byte_of n.extension) _ (omega arith)
        ∙ le_over_above 2 1 11 at (byte_of 0x20) filled (omega arith)

    new_creation_time : le 2 (new_entry n stamp) 14 ≡ stamp_time stamp
    new_creation_time = past_name 14 (omega arith) ∙ read_back 2 (stamp_time stamp) 14 (patch 2 (stamp_date stamp) 16 tail) low

    new_creation_date : le 2 (new_entry n stamp) 16 ≡ stamp_date stamp
    new_creation_date = past_name 16 (omega arith)
        ∙ le_over_above 2 2 14 16 (byte_of (stamp_time stamp)) (patch 2 (stamp_date stamp) 16 tail) (omega arith)
        ∙ read_back 2 (stamp_date stamp) 16 tail high

    past_creation : (at : ℕ) → 18 ≤ at → le 2 (new_entry n stamp) at ≡ le 2 tail at
    past_creation at more =
        past_name at (omega arith) ∙ le_over_above 2 2 14 at (byte_of (stamp_time stamp)) _ (omega arith)
        ∙ le_over_above 2 2 16 at (byte_of (stamp_date stamp)) tail (omega arith)

    new_tenths : new_entry n stamp 13 ≡ 0
    unfolding new_entry overlay
    new_tenths = refl

-- Slots with the bytes of a resized one and of a new one.
module _ (sec : ℕ) (short : sec ≤ last_second) where
  abbrev st : ℕ
  st = stamp_of sec

  small : st < 256 ^ 4
  small = stamp_small sec short

  field_is : (b d : Bytes) → ((j : ℕ) → j < 32 → d j ≡ b j) → (at v x : ℕ) → at ≤ 30 → le 2 b at ≡ v → v ≡ x → le 2 d at ≡ x
  field_is b d same at v x inside is then = le_local 2 d b at (λ j lo hi. same j (omega arith)) ∙ is ∙ then

  stamped_changed : (b d : Bytes) → ((j : ℕ) → j < 32 → d j ≡ set_stamp st b j) → Changed d sec
  stamped_changed b d same = record {
    write_time = field_is (set_stamp st b) d same 22 _ _ (omega arith) (set_write_time st small b) (stamp_time_of sec short);
    write_date = field_is (set_stamp st b) d same 24 _ _ (omega arith) (set_write_date st small b) (stamp_date_of sec short);
    access_date = field_is (set_stamp st b) d same 18 _ _ (omega arith) (set_access_date st small b) (stamp_date_of sec short);
  }

  resized_updated : (t : Bool) (k size : ℕ) (b d : Bytes) → ((j : ℕ) → j < 32 → d j ≡ resized t k size st b j) → Updated b sec d
  resized_updated t k size b d same = record {
    changed = stamped_changed _ d same;
    creation = λ j low high. same j (omega arith) ∙ resized_below t k size st b j high;
  }

  new_born : (n : Name) (d : Bytes) → ((j : ℕ) → j < 32 → d j ≡ new_entry n st j) → Born d sec
  new_born n d same = record {
    changed = record {
      write_time = field_is (new_entry n st) d same 22 _ _ (omega arith) (past_creation st small n 22 (omega arith) ∙ set_write_time st small zeros)
          (stamp_time_of sec short);
      write_date = field_is (new_entry n st) d same 24 _ _ (omega arith) (past_creation st small n 24 (omega arith) ∙ set_write_date st small zeros)
          (stamp_date_of sec short);
      access_date = field_is (new_entry n st) d same 18 _ _ (omega arith) (past_creation st small n 18 (omega arith) ∙ set_access_date st small zeros)
          (stamp_date_of sec short);
    };
    tenths = same 13 (omega arith) ∙ new_tenths st small n;
    creation_time = field_is (new_entry n st) d same 14 _ _ (omega arith) (new_creation_time st small n) (stamp_time_of sec short);
    creation_date = field_is (new_entry n st) d same 16 _ _ (omega arith) (new_creation_date st small n) (stamp_date_of sec short);
  }

-- ---- each call

module _ {size : ℕ} {c : Card} (start : Start size c) (is : clean (window size c) ≡ granted (volume_of c Pending.Nothing)) where
  abbrev l : Layout
  l = layout_of c

  abbrev v : Volume
  v = volume_of c Pending.Nothing

  abbrev w : Window
  w = window size c

  abbrev at : Span → ℕ
  at n = slot_of v c n

  -- What holds of the slot that a name means.
  has_at : (y : Card) (n : Span) (s : ℕ) (P : Bytes → Type 0) → slot_of v y n ≡ s → s < l.entries → P (slot_at l y s) → Has v y n P
  has_at y n s P e less h =
      record { there = subst (λ (k : ℕ). k < l.entries) (sym e) less; so = subst (λ (k : ℕ). P (slot_at l y k)) (sym e) h }

  -- Nothing is stored.
  same_has : (n : Span) (P : Bytes → Type 0) → at n < l.entries → P (slot_at l c (at n)) → Has v (after [] c) n P
  unfolding after
  same_has n P less h = record { there = less; so = h }

  -- One slot is edited, to a resized one.
  module _ {ds : List Store} {f : Fat} {o : Change} {y : Card} (end : Ended size c ds f o y) (n : Span) (less : at n < l.entries)
      (t : Bool) (k m sec : ℕ) (short : sec ≤ last_second) (r : Resizes c o (at n) (resized t k m (stamp_of sec) (slot_at l c (at n)))) where
    updated : Has v y n (Updated (slot_at l c (at n)) sec)
    updated = has_at y n (at n) (Updated (slot_at l c (at n)) sec) (resized_means start is end n r) less
        (resized_updated sec short t k m (slot_at l c (at n)) (slot_at l y (at n))
        (λ j small. end.slots (at n) less j small ∙ (λ i. r.slot i j)))

  made_dates : (n t : Span) (sec : ℕ) (p : Program) (g : Created start is n t sec p) {u : Card}
      → Ended size c [] (first_fat c) (creates_as start n t (stamp_of sec)) u → Has v u n (λ d. Born d sec)
  made_dates n t sec p g {u} end =
      let new : ℕ = run_end l c t in
      let less : new < l.entries = new_in start is n t p g end in
      has_at u n new (λ d. Born d sec) (create_found start is n t p g end).at less
      (new_born sec g.timely (name_of n) (slot_at l u new) (λ j small. end.slots new less j small ∙ (λ i. new_slot start is n t p g end i j)))

  -- A rename's new slot has bytes 11 to 31 of the old.
  named_undated : (n : Name) (b d : Bytes) → ((j : ℕ) → j < 32 → d j ≡ set_name n b j) → Undated b d
  named_undated n b d same j low high =
      same j (omega arith) ∙ overlay_above (byte_of n.stem) 0 _ 8 j (omega arith) ∙ overlay_above (byte_of n.extension) 8 b 3 j (omega arith)

  dated : (k : Call) (p : Program) → plan k w ≡ granted p → Dates v c k (left largest k w).card
  dated (creates n sec) p h =
      let g : Created start is n no_text sec p = create_granted start is n sec p h in
      finish_with start is (λ x. Dates v c (creates n sec) x.card) (creates n sec) p _ h g.same
      (made_dates n no_text sec p g (create_end start is n no_text p g))
  dated (creates_long n t sec) p h =
      let g : Created start is n t sec p = long_granted start is n t sec p h in
      finish_with start is (λ x. Dates v c (creates_long n t sec) x.card) (creates_long n t sec) p _ h g.same
      (made_dates n t sec p g (create_end start is n t p g))
  dated (appends n b sec) p h =
      let g : Appended start is n b sec p = append_granted start is n b sec p h in
      let f : NamedFile start is n = g.it in
      let x : Growth start is n b f = g.extent in
      let less : at n < l.entries = f.live.in_root in
      let P : Bytes → Type 0 = λ d. (b.size ≡ 0 → Undated (entry_of v c n) d) × ((b.size ≡ 0 → ⊥) → Updated (entry_of v c n) sec d) in
      ⊎_elim
      (λ a. finish_with start is (λ x. Dates v c (appends n b sec) x.card) (appends n b sec) p (ending []) h (sym a.1)
      (same_has n P less ((λ _ j low high. refl), λ some. absurd (some a.0))))
      (λ a. let end = ended start _ _ (updates_as start (at n) f.live f.keeps x (stamp_of sec))
      (append_supplies start (at n) f.live f.keeps x (stamp_of sec) (stamp_small sec g.timely)) in
      let u = updated end n less (eqb (last_cluster (ks start (at n) f.live f.keeps)) 0) (get_or (new_clusters v c (file_at l c (at n)) b.size) 0 0)
      (file_size (slot_at l c (at n)) + b.size) sec g.timely (grown_edit start (at n) f.live f.keeps x a.0 end) in
      finish_with start is (λ x. Dates v c (appends n b sec) x.card) (appends n b sec) p _ h a.1
      (record { there = u.there; so = ((λ none. absurd (a.0 none)), λ _. u.so) }))
      g.same
  dated (truncates n m sec) p h =
      let g : Truncated start is n m sec p = truncate_granted start is n m sec p h in
      let f : NamedFile start is n = g.it in
      let old : ℕ = file_size (slot_at l c (at n)) in
      let le : m ≤ old = g.less in
      let less : at n < l.entries = f.live.in_root in
      let P : Bytes → Type 0 = λ d. (m ≡ old → Undated (entry_of v c n) d) × ((m ≡ old → ⊥) → Updated (entry_of v c n) sec d) in
      ⊎_elim
      (λ a. let none : old - m ≡ 0 = a.0 in
      finish_with start is (λ x. Dates v c (truncates n m sec) x.card) (truncates n m sec) p (ending []) h (sym a.1)
      (same_has n P less ((λ _ j low high. refl), λ other. absurd (other (omega arith)))))
      (λ a. let some : old - m ≡ 0 → ⊥ = a.0 in
      let end = ended start [] _ (truncates_as start (at n) f.live f.keeps m (stamp_of sec))
      (truncate_supplies start (at n) f.live f.keeps m (stamp_of sec) le (stamp_small sec g.timely)) in
      let u = updated end n less (eqb m 0) 0 m sec g.timely (cut_edit start (at n) f.live f.keeps m (omega arith) end) in
      finish_with start is (λ x. Dates v c (truncates n m sec) x.card) (truncates n m sec) p _ h a.1
      (record { there = u.there; so = ((λ same. absurd (some (omega arith))), λ _. u.so) }))
      g.same
  dated (replaces n b sec) p h =
      let g : Replaced start is n b sec p = replace_granted start is n b sec p h in
      let f : NamedFile start is n = g.it in
      let x : Renewal start is b = g.extent in
      let end = ended start _ _ (replaces_as start (at n) f.live f.keeps x (stamp_of sec))
      (replace_supplies start (at n) f.live f.keeps x (stamp_of sec) (stamp_small sec g.timely)) in
      finish_with start is (λ x. Dates v c (replaces n b sec) x.card) (replaces n b sec) p _ h g.same
      (updated end n f.live.in_root true (get_or (fresh_clusters v c b.size) 0 0) b.size sec g.timely (replaced_edit start (at n) f.live
      f.keeps x end))
  dated (renames n m) p h =
      let g : Renamed start is n m p = rename_granted start is n m p h in
      let end = rename_end start is n m p g in
      let z : ℕ = free_slot l c in
      finish_with start is (λ x. Dates v c (renames n m) x.card) (renames n m) p _ h g.same
      (has_at _ m z (Undated (entry_of v c n)) (rename_at start is n m p g end) g.room
      (named_undated (name_of m) (slot_at l c (at n)) _ (λ j small. end.slots z g.room j small ∙ (λ i. named_slot start is n m p g end i j))))
  dated (deletes n) p h = tt
  dated recovers p h = tt

pub dates_set : DatesSet
dates_set k w v real is p h =
    let same : v ≡ volume_of w.card Pending.Nothing = volume_is w v is in
    rw same (dated (started w v real is) (is ∙ ap granted same) k p h)

-- ---- after a cut

-- Cards with the same slots mean the same slot by a name, and have the same entry there.
kept_has : (v : Volume) (y z : Card) → ((k : ℕ) → k < v.layout.entries → slot_at v.layout y k ≡ slot_at v.layout z k)
    → (n : Span) (P : Bytes → Type 0) → Has v z n P → Has v y n P
kept_has v y z same n P h =
    let e : slot_of v y n ≡ slot_of v z n = means_same v z n y (λ k less. ap (bears (name_of n)) (same k less)) in
    record {
      there = subst (λ (k : ℕ). k < v.layout.entries) (sym e) h.there;
      so = subst P (sym (ap (slot_at v.layout y) e ∙ same (slot_of v z n) h.there)) h.so;
    }

kept_dates : (v : Volume) (c y z : Card) → ((k : ℕ) → k < v.layout.entries → slot_at v.layout y k ≡ slot_at v.layout z k)
    → (k : Call) → Dates v c k z → Dates v c k y
kept_dates v c y z same (creates n s) h = kept_has v y z same n _ h
kept_dates v c y z same (creates_long n t s) h = kept_has v y z same n _ h
kept_dates v c y z same (appends n b s) h = kept_has v y z same n _ h
kept_dates v c y z same (truncates n m s) h = kept_has v y z same n _ h
kept_dates v c y z same (replaces n b s) h = kept_has v y z same n _ h
kept_dates v c y z same (renames n m) h = kept_has v y z same m _ h
kept_dates v c y z same (deletes n) h = tt
kept_dates v c y z same recovers h = tt

pub dates_recovered : DatesRecovered
dates_recovered k w v real is p h limit limits once m stored ends =
    kept_dates v w.card y (finished k w)
    (slots_same v.layout (rw (volume_is w v is) (shape_of (started w v real is))) y (finished k w) tables.root) k (dates_set k w v real is p h)
  where
    y : Card
    y = (left once recovers (recoveries limits (left limit k w))).card

    tables : SameTables v.layout y (finished k w)
    tables = subst (λ b. SameTables v.layout y (settles_as b k w)) stored ((demand3 k w v real is limit limits once).tables m ends)
