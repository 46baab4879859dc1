-- What each operation supplies, and so the card that it leaves.
use Prim.Native.Nat.{ℕ, ◌+◌, ◌-◌, ◌*◌, ◌/◌, ◌^◌, ◌≤◌, ◌<◌}
use native.Mathlib.Omega.{arith}
use mathlib.Core.Path.{◌≡◌, refl, sym, ap, ◌∙◌}
use mathlib.Core.Logic.{◌⊎◌, inl, inr, ⊎_elim}
use mathlib.Core.List.{List, [], ◌∷◌}
use mathlib.Core.Bool.{true, false}
use lib.Dec.{eqb}
use lib.ListN.{get_or, take, drop, length}
use borrow.Author.Tests.{eqb-false, ne_eqb}
use Rattle.model.specs.Bytes.{Bytes, Span, overlay, byte_of}
use Rattle.model.specs.Scan.{among}
use Rattle.model.specs.Sector.{Card, Store}
use Rattle.model.specs.Fat.{Fat, entry, release}
use Rattle.model.specs.Chain.{needed}
use Rattle.model.specs.Root.{slot_at, name_ok, free_run, free_slot, name_in, entry_at, first_cluster, file_size, first_bytes, end_slot}
use Rattle.model.specs.Long.{name_slots, most_long, long_count, checksum, order_byte}
use Rattle.model.specs.LongName.{long_slots, spelled, name_entry}
use Rattle.model.specs.Pending.{count_ok, part_ok, fills, named_slots, end_past}
use Rattle.model.specs.Promises.{Shape}
use Rattle.model.specs.declared.Entry.{Entry}
use Rattle.model.specs.declared.Record.{Record}
use Rattle.model.specs.declared.Layout.{Layout}
use Rattle.model.specs.declared.Operation.{Operation}
use Rattle.model.specs.declared.Operation.TheVariants.{Create, Update, Rename, Delete, Truncate, Replace}
use Rattle.operations.specs.Finish.{edit, operation_edits, marks, edits, new_entry, name_slot}
use Rattle.operations.specs.Plan.{text_of, slots_for, shorten, extend, exchange, last_cluster}
use Rattle.operations.specs.Calls.{run_end}
use Rattle.model.proofs.Tests.{same?, less?, by_pick}
use Rattle.model.proofs.All.{All, all_append, all_image, all_take, all_drop}
use Rattle.model.proofs.Scan.{first_above0}
use Rattle.model.proofs.Order.{seen_up}
use Rattle.model.proofs.Names.{name_starts, name_fits, free_low, Live, live_not_free}
use Rattle.model.proofs.FreeRuns.{run_lowest}
use Rattle.model.proofs.Long.{OfName, all_slots, of_name, not_of_name, low_named, either_among}
use Rattle.model.proofs.Belong.{order_range, count_few, count_low, long_starts}
use Rattle.model.proofs.LongEntries.{entry_order}
use Rattle.model.proofs.Volumes.{layout_of, first_fat, SameMarks}
use Rattle.operations.proofs.Spelled.{TextFine, text_past, empty_text, text_even, text_some, text_few, span_length, span_ok, silent_ok}
use Rattle.safety.proofs.Start.{Start, shape_of, entries_few, Clear}
use Rattle.safety.proofs.Effect.{Begun, Lives, marks_live, resized_lives}
use Rattle.safety.proofs.Operate.{Supplies}
use Rattle.safety.proofs.Clusters.{Plain, released_marks, plain_fits, shorten_marks, extend_marks, exchange_marks}
use Rattle.model.proofs.Records.{EntryFits, RecordFits, ChangeFits, Silent, Spells, listed, entry_record, stamp_fits}
use Rattle.model.proofs.Recorded.{Seat, Starts, recorded, record_fine, none_counted, create_counted, delete_counted, rename_counted, pair_fine, stamp_fine}
use Rattle.model.proofs.Recorded.{stamp_starts}
use Rattle.model.proofs.Pendings.{starts_not_zero}
use Rattle.model.specs.Record.{Change, operation_records, records, record_of, stamp_record, plain, text_length, last_number}
use Rattle.safety.proofs.After.{last_slot, past_slot, LowSlots}
use Rattle.safety.proofs.Operations.{KeepsChain, entry_fits, slot_seat, slot_seated, slot_named, slot_lives, first_fits, size_fits}
use Rattle.safety.proofs.Operations.{the_chain, old_plain, old_busy}
use Rattle.safety.proofs.Extents.{Extent, ds, new_plain, total_fits, outside}

-- What the records of a group that follow the first must be, by its number: none, or a stamp that fits.
pub record Follows (number : ℕ) (rest : List Record) : Type 0 where
  pub few : length rest ≤ 1
  pub fields : All RecordFits rest
  pub live : All Starts rest
  pub parts : (n z : ℕ) (r : Record) → r.number ≡ number → (k : ℕ) → 1 ≤ k → k < length (r ∷ rest) → part_ok n z (listed (r ∷ rest)) k ≡ true

none_follows : (number : ℕ) → Follows number []
none_follows number = record { few = omega arith; fields = tt; live = tt; parts = λ n z r same k low high. absurd (omega arith) }

stamp_follows : (number stamp : ℕ) → eqb number 5 ≡ false → stamp < 256 ^ 4 → Follows number (stamp_record stamp ∷ [])
stamp_follows number stamp other small = record {
  few = omega arith;
  fields = (stamp_fits stamp small, tt);
  live = (stamp_starts stamp, tt);
  parts = λ n z r same. stamp_fine n z r stamp (ap (λ m. eqb m 5) same ∙ other);
}

module _ {size : ℕ} {c : Card} (st : Start size c) where
  abbrev l : Layout
  l = layout_of c

  abbrev fat : Fat
  fat = first_fat c

  sh : Shape l
  sh = shape_of st

  -- ---- create

  module _ (n t : Span) (stamp : ℕ) where
    abbrev run : ℕ
    run = free_run l c (slots_for t + 1)

    abbrev made : Entry
    made = record { slot = run_end l c t; name = name_in n.byte; attributes = 0x20 }

    abbrev pub creates_as : Change
    creates_as = record { operation = Create made (slots_for t) stamp; text = text_of t }

    module _ (ok : name_ok n ≡ true) (fine : TextFine t) (room : run < l.entries + 1 - (slots_for t + 1)) (small : stamp < 256 ^ 4) where
      stamped : Follows 1 (stamp_record stamp ∷ [])
      stamped = stamp_follows 1 stamp refl small

      few_slots : slots_for t ≤ 16
      few_slots = ⊎_elim (λ e. omega arith) (λ h. omega (arith, text_few t h)) fine

      -- Its text is that of a group, or there is none.
      create_text : Silent creates_as ⊎ Spells creates_as
      create_text = ⊎_elim
          (λ e. inl (empty_text t e, (let z : slots_for t ≡ 0 = omega arith in z)))
          (λ h. let many : text_length (text_of t) ≡ t.size / 2 = span_length t fine in inr (record {
            entry = made;
            count = slots_for t;
            stamp = stamp;
            is = refl;
            some = omega (arith, text_some t h);
            begins = starts_not_zero _ (name_starts n ok);
            few = omega (arith, text_few t h);
            after = λ i more. text_past t i (omega (arith, text_even t h));
          })) fine

      create_fits : ChangeFits creates_as
      unfolding records operation_records record_of
      create_fits = record {
        few = omega arith;
        fields = (
          entry_record made 1 (slots_for t) 0 0 0 (omega arith) (omega (arith, few_slots))
              (record { slot = omega (arith, entries_few st, room); name = name_fits n ok; attributes = omega arith })
              (omega arith) (omega arith) (omega arith),
          stamped.fields,
        );
        text = create_text;
      }

      -- A slot of the run, and one before it, does not begin 0 as RECORD reads it: the slot is not above the lowest that does.
      run_seated : Seat l.entries (past_slot c creates_as) (run_end l c t)
      unfolding end_past end_slot named_slots
      run_seated = (
        omega (arith, room),
        first_above0 _ l.entries (run_end l c t) (omega (arith, room)) (λ k less. ⊎_elim
            (λ low. let off : among (name_slots (run_end l c t) (slots_for t)) k ≡ false =
            not_of_name (run_end l c t) (slots_for t) k (λ w. omega (arith, w)) in
            rw off (ne_eqb (first_bytes l c k) 0 (run_lowest l c (slots_for t + 1) room st.clean.root k low)))
            (λ high. rw (of_name (run_end l c t) (slots_for t) k (omega arith, omega arith))) (less? k run)),
      )

      run_low : run ≤ last_slot c
      unfolding end_slot
      run_low = first_above0 (λ k. eqb (first_bytes l c k) 0) l.entries run (omega (arith, room))
          (λ k less. ne_eqb (first_bytes l c k) 0 (run_lowest l c (slots_for t + 1) room st.clean.root k less))

      -- Its slots begin otherwise than 0: with an order number, or as its name does.
      numbered : (i : ℕ) → 1 ≤ i → i ≤ 16 → name_entry (checksum (new_entry made.name stamp)) (text_of t) (text_length (text_of t)) i 0 ≡ 0 → ⊥
      unfolding name_entry
      numbered i low high e = ⊎_elim
          (λ r. omega (
            arith,
            entry_order (checksum (new_entry made.name stamp)) (order_byte (long_slots (text_length (text_of t))) i)
                (λ k. spelled (text_of t) (text_length (text_of t)) (13 * (i - 1) + k)),
            r,
          ))
          (λ r. omega (
            arith,
            entry_order (checksum (new_entry made.name stamp)) (order_byte (long_slots (text_length (text_of t))) i)
                (λ k. spelled (text_of t) (text_length (text_of t)) (13 * (i - 1) + k)),
            r,
          ))
          (order_range (long_slots (text_length (text_of t))) i)

      slot_begins : (k : ℕ) → OfName (run_end l c t) (slots_for t) k → name_slot made stamp (text_of t) k 0 ≡ 0 → ⊥
      unfolding name_slot new_entry overlay byte_of
      slot_begins k w = by_pick (λ (b : Bytes). b 0 ≡ 0 → ⊥) (eqb k (run_end l c t)) _ _
          (λ _. starts_not_zero _ (name_starts n ok))
          (λ off e. numbered (run_end l c t - k) (let ne = eqb-false k (run_end l c t) off in omega (arith, w)) (omega (arith, w, few_slots)) e)

      pub create_supplies : Supplies c [] fat creates_as
      unfolding records operation_records record_of edits operation_edits named_slots
      create_supplies = record {
        outside = tt;
        marks = λ k low high. refl;
        fits = create_fits;
        recorded = recorded l.entries (past_slot c creates_as) creates_as create_fits
            (record_fine l.entries (past_slot c creates_as) made 1 (slots_for t) 0 0 0 (omega arith) (omega arith)
            (create_counted made (slots_for t) 0 0 0 few_slots (omega arith)) (omega arith) run_seated)
            (stamped.parts l.entries (past_slot c creates_as) _ refl) (name_starts n ok, stamped.live) (span_ok t fine creates_as refl refl);
        lives = all_image (Begun (slot_at l c)) (λ k. edit k (λ b. name_slot made stamp (text_of t) k)) (name_slots (run_end l c t) (slots_for t))
            (all_slots (λ k. name_slot made stamp (text_of t) k 0 ≡ 0 → ⊥) (run_end l c t) (slots_for t) slot_begins);
        lined = ⊎_elim (λ some. inl some) (λ none. inr (single none)) (less? 0 (slots_for t));
      }
        where
          -- Without a text its one slot is the lowest free one.
          single : slots_for t ≤ 0 → LowSlots c creates_as
          single none k less on =
              let low = low_named (run_end l c t) (slots_for t) k on in
              let top : run ≤ last_slot c = run_low in
              omega arith

  module _ (s : ℕ) (live : Live l c s) where
    abbrev b : Bytes
    b = slot_at l c s

    abbrev e : Entry
    e = entry_at s b

    -- How many long entries belong to it, and that they fit a record; the free slot is none of theirs.
    abbrev pub count : ℕ
    count = long_count (slot_at l c) s

    few_long : count ≤ most_long
    few_long = count_few (slot_at l c) s

    pub free_apart : free_slot l c < l.entries → OfName s count (free_slot l c) → ⊥
    free_apart room w = ⊎_elim
        (λ q. live_not_free l c s live room (sym q))
        (λ ne. live_not_free l c (free_slot l c) (record { in_root = room; begins = long_starts (slot_at l c) s (free_slot l c) w ne }) room refl)
        (same? (free_slot l c) s)

    abbrev pub renames_as : Span → Change
    renames_as n = plain (Rename e count (first_cluster b) (file_size b) (free_slot l c) (name_in n.byte))

    pub rename_supplies : (n : Span) → name_ok n ≡ true → free_slot l c < l.entries → Supplies c [] fat (renames_as n)
    unfolding entry_at records operation_records record_of edits operation_edits named_slots overlay byte_of
    rename_supplies n ok room =
        let k : ℕ = first_cluster b in
        let m : ℕ = file_size b in
        let f : Entry = record { slot = free_slot l c; name = name_in n.byte; attributes = e.attributes } in
        let own : EntryFits e = entry_fits st s live in
        let other : EntryFits f = record { slot = omega (arith, entries_few st, room); name = name_fits n ok; attributes = own.attributes } in
        let first : k < 256 ^ 2 = first_fits st s live in
        let old : m < 256 ^ 4 = size_fits st s live in
        let fits : ChangeFits (renames_as n) = record {
          few = omega arith;
          fields = (
            entry_record e 5 count k 0 m (omega arith) (omega (arith, few_long)) own first (omega arith) old,
            (entry_record f 0 count k 0 m (omega arith) (omega (arith, few_long)) other first (omega arith) old, tt),
          );
          text = inl (refl, refl);
        } in
        let z : ℕ = past_slot c (renames_as n) in
        let up : last_slot c ≤ z = seen_up (renames_as n).operation l.entries (first_bytes l c) in
        record {
          outside = tt;
          marks = λ k low high. refl;
          fits = fits;
          recorded = recorded l.entries z (renames_as n) fits
              (record_fine l.entries z e 5 count k 0 m (omega arith) (omega arith)
              (rename_counted e count k 0 m few_long (count_low (slot_at l c) s)) (omega arith) (slot_seated st s live z up))
              (pair_fine l.entries z e f count k 0 m refl (room, omega (arith, free_low l c)) (not_of_name s count (free_slot l c) (free_apart room)))
              (slot_named st s live, (name_starts n ok, tt)) (silent_ok (renames_as n) refl refl);
          lives = all_append (Begun (slot_at l c)) (marks (name_slots s count)) _ (marks_live (slot_at l c) (name_slots s count))
              (starts_not_zero _ (name_starts n ok), tt);
          lined = inr (λ i less on. ⊎_elim
              (λ w. omega (arith, low_named s count i w, slot_seat st s live))
              (λ q. omega (arith, free_low l c)) (either_among (name_slots s count) (free_slot l c) i on));
        }

    -- An operation about the entry in this slot.
    entry_supplies : (o : Operation) (number n k from m : ℕ) (rest : List Record) → Follows number rest
        → records (plain o) ≡ record_of e number n k from m ∷ rest → 1 ≤ number → number ≤ last_number
        → n < 256 → count_ok (record_of e number n k from m) ≡ true → k < 256 ^ 2 → from < 65536 → m < 256 ^ 4
        → {ds : List Store} {f : Fat} → All (λ s. Clear c s.sector) ds → SameMarks l f fat → Lives (slot_at l c) (plain o)
        → named_slots o ≡ name_slots s n → fills o ≡ 0 → Supplies c ds f (plain o)
    unfolding entry_at record_of
    entry_supplies o number n k from m rest after told low high short counted first small sized outside marks lives named none =
        let fits : ChangeFits (plain o) = record {
          few = rw told (let one = after.few in omega arith);
          fields = rw told (entry_record e number n k from m (omega arith) short (entry_fits st s live) first (omega arith) sized, after.fields);
          text = inl (refl, none);
        } in
        let z : ℕ = past_slot c (plain o) in
        let up : last_slot c ≤ z = seen_up o l.entries (first_bytes l c) in
        record {
          outside = outside;
          marks = marks;
          fits = fits;
          recorded = recorded l.entries z (plain o) fits
              (rw told (record_fine l.entries z e number n k from m low high counted small (slot_seated st s live z up)))
              (λ i one less. rw told (after.parts l.entries z (record_of e number n k from m) refl i one (rw told at less)))
              (rw told (slot_named st s live, after.live))
              (silent_ok (plain o) refl none);
          lives = lives;
          lined = inr (λ i less on. omega (arith, low_named s n i (ap (λ ks. among ks i) (sym named) ∙ on), slot_seat st s live));
        }

    module _ (whole : KeepsChain c s) where
      abbrev pub ks : List ℕ
      ks = the_chain st s live whole

      abbrev pub deletes_as : Change
      deletes_as = plain (Delete e count (first_cluster b) (file_size b))

      pub delete_supplies : Supplies c [] (release ks fat) deletes_as
      unfolding entry_at records operation_records edits operation_edits named_slots
      delete_supplies = entry_supplies (Delete e count (first_cluster b) (file_size b)) 3 count (first_cluster b) 0 (file_size b) [] (none_follows 3) refl
          (omega arith) (omega arith) (omega (arith, few_long)) (delete_counted e count (first_cluster b) 0 (file_size b) few_long (count_low (slot_at l c) s))
          (first_fits st s live) (omega arith) (size_fits st s live) tt (λ k low high. released_marks l sh.few fat ks (old_plain st s live whole) k)
          (marks_live (slot_at l c) (name_slots s count)) refl refl

      abbrev pub cut_fat : ℕ → Fat
      cut_fat n = shorten (take (needed l n) ks) (drop (needed l n) ks) fat

      abbrev pub truncates_as : ℕ → ℕ → Change
      truncates_as n stamp = plain (Truncate e (first_cluster b) (get_or (drop (needed l n) ks) 0 0) n stamp)

      pub truncate_supplies : (n stamp : ℕ) → n ≤ file_size b → stamp < 256 ^ 4 → Supplies c [] (cut_fat n) (truncates_as n stamp)
      unfolding entry_at records operation_records edits operation_edits named_slots
      truncate_supplies n stamp less short =
          let m : ℕ = needed l n in
          let plain : All (Plain l fat) (take m ks) = all_take (Plain l fat) m ks (old_plain st s live whole) in
          let busy : All (λ k. entry fat k ≡ 0 → ⊥) (take m ks) = all_take (λ k. entry fat k ≡ 0 → ⊥) m ks (old_busy st s live whole) in
          let freed : All (Plain l fat) (drop m ks) = all_drop (Plain l fat) m ks (old_plain st s live whole) in
          let from : ℕ = get_or (drop m ks) 0 0 in
          entry_supplies (Truncate e (first_cluster b) from n stamp) 4 0 (first_cluster b) from n _ (stamp_follows 4 stamp refl short) refl
          (omega arith) (omega arith) (omega arith)
          (none_counted e 4 (first_cluster b) from n) (first_fits st s live) (plain_fits l sh.few fat (drop m ks) freed 0)
          (omega (arith, size_fits st s live)) tt
          (λ k low high. shorten_marks l sh.few fat (take m ks) plain busy (drop m ks) freed k)
          (resized_lives (eqb n 0) 0 n stamp b (slot_lives st s live), tt) refl refl

      module _ {new : List ℕ} {d : Span} (x : Extent c ks new (file_size b) d) where
        abbrev pub longer_fat : Fat
        longer_fat = extend ks new fat

        abbrev pub updates_as : ℕ → Change
        updates_as stamp = plain (Update e (last_cluster ks) (get_or new 0 0) (file_size b + d.size) stamp)

        pub append_supplies : (stamp : ℕ) → stamp < 256 ^ 4 → Supplies c (ds st x) longer_fat (updates_as stamp)
        unfolding entry_at records operation_records edits operation_edits named_slots
        append_supplies stamp short =
            let few : l.clusters ≤ 65524 = sh.few in
            let last : ℕ = last_cluster ks in
            let from : ℕ = get_or new 0 0 in
            let n : ℕ = file_size b + d.size in
            let old : All (Plain l fat) ks = old_plain st s live whole in
            entry_supplies (Update e last from n stamp) 2 0 last from n _ (stamp_follows 2 stamp refl short) refl (omega arith) (omega arith) (omega arith)
            (none_counted e 2 last from n)
            (plain_fits l few fat ks old (length ks - 1))
            (plain_fits l few fat new (new_plain st x) 0) (total_fits st x) (outside st x)
            (λ k low high. extend_marks l few fat ks old (old_busy st s live whole) new (new_plain st x) k)
            (resized_lives (eqb last 0) from n stamp b (slot_lives st s live), tt) refl refl

      module _ {new : List ℕ} {d : Span} (x : Extent c [] new 0 d) where
        abbrev pub exchanged_fat : Fat
        exchanged_fat = exchange ks new fat

        abbrev pub replaces_as : ℕ → Change
        replaces_as stamp = plain (Replace e (first_cluster b) (get_or new 0 0) d.size stamp)

        pub replace_supplies : (stamp : ℕ) → stamp < 256 ^ 4 → Supplies c (ds st x) exchanged_fat (replaces_as stamp)
        unfolding entry_at records operation_records edits operation_edits named_slots
        replace_supplies stamp short =
            let from : ℕ = get_or new 0 0 in
            entry_supplies (Replace e (first_cluster b) from d.size stamp) 6 0 (first_cluster b) from d.size _
            (stamp_follows 6 stamp refl short) refl (omega arith) (omega arith) (omega arith)
            (none_counted e 6 (first_cluster b) from d.size) (first_fits st s live) (plain_fits l sh.few fat new (new_plain st x) 0)
            (omega (arith, total_fits st x)) (outside st x)
            (λ k low high. exchange_marks l sh.few fat ks new (old_plain st s live whole) (new_plain st x) k)
            (resized_lives true from d.size stamp b (slot_lives st s live), tt) refl refl
