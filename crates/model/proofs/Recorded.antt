-- Laws of what RECORD asks of the records of a group, and that the slots that they tell are the root's.
use Prim.Native.Nat.{ℕ, zero, suc, ◌-◌, ◌≤◌, ◌<◌}
use native.Mathlib.Omega.{arith}
use mathlib.Core.Path.{◌≡◌, refl, sym, ap, ◌∙◌, subst}
use mathlib.Core.Logic.{◌⊎◌, inl, inr, ⊎_elim}
use mathlib.Core.List.{[], ◌∷◌, map}
use mathlib.Core.Bool.{Bool, true, false, not}
use lib.Dec.{eqb, ltb, leb}
use lib.ListN.{length}
use borrow.Author.Tests.{eq-eqb, ne_eqb, eqb-true, lt-ltb, ltb-true, le-leb, leb-true}
use Rattle.model.specs.Bytes.{pick, byte_of}
use Rattle.model.specs.Scan.{every, between, all, all_from, walk, among}
use Rattle.model.specs.Long.{name_slots, most_long}
use Rattle.model.specs.Record.{starts, record_of, stamp_record, operation_records, operation_of, records, group_size}
use Rattle.model.specs.Record.{last_number}
use Rattle.model.specs.Pending.{slot_ok, most_counted, count_ok, record_ok, part_ok, alike}
use Rattle.model.specs.Pending.{is_stamp, pair_ok, apart, records_ok, characters_ok}
use Rattle.model.specs.declared.Entry.{Entry}
use Rattle.model.specs.declared.Record.{Record}
use Rattle.model.specs.declared.Operation.{Operation}
use Rattle.model.specs.Record.{Change}
use Rattle.model.proofs.Tests.{told, each_every, every_at, ◌also◌, same?, and_both, and_left, and_right}
use Rattle.model.proofs.Tests.{between_is, by_pick}
use Rattle.model.proofs.Scan.{all_same, all_of, all_at}
use Rattle.model.proofs.All.{All}
use Rattle.model.proofs.Records.{ChangeFits, listed}
use Rattle.model.proofs.Records.{operation_back}

-- A record that is pending once it is written.
abbrev pub Starts : Record → Type 0
Starts r = starts (byte_of r.name.stem 0) ≡ true

-- What RECORD asks of a change's records, for n root entries and z the lowest slot beginning 0, that all are pending, and what it asks of
-- the characters.
abbrev pub Recorded : ℕ → ℕ → Change → Type 0
Recorded n z x = (records_ok n z (listed (records x)) ≡ true) × All Starts (records x) × (characters_ok x ≡ true)

-- A slot of n that is not above z.
abbrev pub Seat : ℕ → ℕ → ℕ → Type 0
Seat n z s = (s < n) × (s ≤ z)

pub slot_read : (n z s : ℕ) → Seat n z s → slot_ok n z s ≡ true
unfolding slot_ok
slot_read n z s h = rw (lt-ltb s n h.0, le-leb s z h.1)

slot_seat : (n z s : ℕ) → slot_ok n z s ≡ true → Seat n z s
unfolding slot_ok
slot_seat n z s h = (ltb-true s n (and_left (ltb s n) (leb s z) h), leb-true s z (and_right (ltb s n) (leb s z) h))

module _ (n z : ℕ) (rs : ℕ → Record) (h : records_ok n z rs ≡ true) where
  first_ok : record_ok n z (rs 0) ≡ true
  unfolding records_ok
  first_ok = every_at _ h 0

  later_ok : (k : ℕ) → 1 ≤ k → k < group_size rs → part_ok n z rs k ≡ true
  unfolding records_ok
  later_ok k low less = all_at (part_ok n z rs) 1 (group_size rs - 1) (every_at _ h 1) k low (omega arith)

  -- Of a rename the next ones are such as the first, of the others a stamp, whose slot is 0.
  pair_slot : (k : ℕ) → 1 ≤ k → k < group_size rs → eqb (rs 0).number 5 ≡ true → Seat n z (rs k).slot
  unfolding part_ok pair_ok
  pair_slot k low less on = slot_seat n z (rs k).slot (every_at _ (rw on at (later_ok k low less)) 1)

  stamp_slot : (k : ℕ) → 1 ≤ k → k < group_size rs → eqb (rs 0).number 5 ≡ false → (rs k).slot ≡ 0
  unfolding part_ok is_stamp
  stamp_slot k low less off = eqb-true (rs k).slot 0 (every_at _ (rw off at (later_ok k low less)) 5)

  -- The slot of each record.
  first_seat : Seat n z (rs 0).slot
  unfolding record_ok
  first_seat = slot_seat n z (rs 0).slot (every_at _ first_ok 5)

  pub seat_at : (k : ℕ) → k < group_size rs → Seat n z (rs k).slot
  seat_at k less = go (same? k 0)
    where
      go : (k ≡ 0) ⊎ (k ≡ 0 → ⊥) → Seat n z (rs k).slot
      go (inl e) = subst (λ (i : ℕ). Seat n z (rs i).slot) (sym e) first_seat
      go (inr ne) = ⊎_elim (pair_slot k (omega arith) less)
          (λ off. let none = stamp_slot k (omega arith) less off in let one = first_seat in (omega (arith, one.0), omega arith))
          (told (eqb (rs 0).number 5))

  -- The slots of the operation that records tell are theirs.
  abbrev Reads : Operation → Type 0
  Reads o = (k : ℕ) → k < length (operation_records o) → k < group_size rs → (listed (operation_records o) k).slot ≡ (rs k).slot

  one_read : (r : Record) → r.slot ≡ (rs 0).slot → (k : ℕ) → k < 1 → k < group_size rs → (listed (r ∷ []) k).slot ≡ (rs k).slot
  one_read r e zero less in_group = e
  one_read r e (suc k) less in_group = absurd (omega arith)

  two_read : (r d : Record) → r.slot ≡ (rs 0).slot → (1 < group_size rs → d.slot ≡ (rs 1).slot) → (k : ℕ) → k < 2 → k < group_size rs
      → (listed (r ∷ d ∷ []) k).slot ≡ (rs k).slot
  two_read r d e f zero less in_group = e
  two_read r d e f (suc zero) less in_group = f in_group
  two_read r d e f (suc (suc k)) less in_group = absurd (omega arith)

  -- Where the number is another than 5, the second is a stamp.
  stamped : (r d : Record) → r.slot ≡ (rs 0).slot → d.slot ≡ 0 → eqb (rs 0).number 5 ≡ false → (k : ℕ) → k < 2 → k < group_size rs
      → (listed (r ∷ d ∷ []) k).slot ≡ (rs k).slot
  stamped r d e f off = two_read r d e (λ more. f ∙ sym (stamp_slot 1 (omega arith) more off))

  other : (m : ℕ) → (m ≡ 5 → ⊥) → eqb (rs 0).number m ≡ true → eqb (rs 0).number 5 ≡ false
  other m ne on = ne_eqb (rs 0).number 5 (λ e. ne (sym (eqb-true (rs 0).number m on) ∙ e))

  told_reads : Reads (operation_of rs)
  unfolding operation_of operation_records record_of stamp_record
  told_reads =
      let n = (rs 0).number in
      by_pick Reads (eqb n 1) _ _ (λ on. stamped _ _ refl refl (other 1 (λ e. omega arith) on)) (λ _.
      by_pick Reads (eqb n 2) _ _ (λ on. stamped _ _ refl refl (other 2 (λ e. omega arith) on)) (λ _.
      by_pick Reads (eqb n 3) _ _ (λ _. one_read _ refl) (λ _.
      by_pick Reads (eqb n 4) _ _ (λ on. stamped _ _ refl refl (other 4 (λ e. omega arith) on)) (λ _.
      by_pick Reads (eqb n 5) _ _ (λ _. two_read _ _ refl (λ _. refl)) (λ off. stamped _ _ refl refl off)))))

  pub told_slot : (k : ℕ) → k < group_size rs → (listed (operation_records (operation_of rs)) k).slot ≡ (rs k).slot
  unfolding group_size
  told_slot k less = told_reads k less less

-- A change's own records tell of its operation.
pub told_size : (x : Change) → group_size (listed (records x)) ≡ length (records x)
unfolding group_size records
told_size x = ap (λ (o : Operation). length (operation_records o)) (operation_back x.operation (listed (operation_records x.operation)) (λ k less. refl))

-- What a change supplies: record 0, and each after it.
pub recorded : (n z : ℕ) (x : Change) → ChangeFits x → record_ok n z (listed (records x) 0) ≡ true
    → ((k : ℕ) → 1 ≤ k → k < length (records x) → part_ok n z (listed (records x)) k ≡ true) → All Starts (records x) → characters_ok x ≡ true
    → Recorded n z x
unfolding records_ok
recorded n z x fits one more live spelled =
    let size : group_size (listed (records x)) ≡ length (records x) = told_size x in (
      each_every _ (one also all_of (part_ok n z (listed (records x))) 1 (group_size (listed (records x)) - 1) (λ k low less. more k low (omega arith))
          also tt),
      live,
      spelled,
    )

pub record_fine : (n z : ℕ) (e : Entry) (number count k from size : ℕ) → 1 ≤ number → number ≤ last_number
    → count_ok (record_of e number count k from size) ≡ true → from < 65536 → Seat n z e.slot → record_ok n z (record_of e number count k from size) ≡ true
unfolding record_ok record_of
record_fine n z e number count k from size low high counted small seat =
    each_every _ (between_is 1 last_number number low high also refl also refl also counted also lt-ltb from 65536 small
    also slot_read n z e.slot seat also tt)

-- Its long-name count: 0 in any, and in a create, a delete or a rename as many as there may be.
count_fine : (e : Entry) (number count k from size : ℕ) → count ≤ most_counted number → count ≤ e.slot
    → count_ok (record_of e number count k from size) ≡ true
unfolding count_ok record_of
count_fine e number count k from size few low = and_both _ _ (le-leb count (most_counted number) few) (le-leb count e.slot low)

pub none_counted : (e : Entry) (number k from size : ℕ) → count_ok (record_of e number 0 k from size) ≡ true
none_counted e number k from size = count_fine e number 0 k from size (omega arith) (omega arith)

pub create_counted : (e : Entry) (count k from size : ℕ) → count ≤ 16 → count ≤ e.slot → count_ok (record_of e 1 count k from size) ≡ true
unfolding most_counted
create_counted e count k from size few low = count_fine e 1 count k from size few low

module _ (e : Entry) (count k from size : ℕ) (few : count ≤ most_long) (low : count ≤ e.slot) where
  pub delete_counted : count_ok (record_of e 3 count k from size) ≡ true
  unfolding most_counted
  delete_counted = count_fine e 3 count k from size few low

  pub rename_counted : count_ok (record_of e 5 count k from size) ≡ true
  unfolding most_counted
  rename_counted = count_fine e 5 count k from size few low

-- The numbers that RECORD takes of record 0: 1 to 6 and no others.
numbers : (e : Entry) → map (λ n. record_ok 1 0 (record_of (record { slot = 0; name = e.name; attributes = e.attributes }) n 0 0 0 0))
    (0 ∷ 1 ∷ 2 ∷ 3 ∷ 4 ∷ 5 ∷ 6 ∷ 7 ∷ 255 ∷ []) ≡ false ∷ true ∷ true ∷ true ∷ true ∷ true ∷ true ∷ false ∷ false ∷ []
unfolding record_ok count_ok most_counted record_of every between slot_ok
numbers e = refl

-- The second of two records: of a rename, with another name, number and slot,
pub pair_fine : (n z : ℕ) (e f : Entry) (count k from size : ℕ) → f.attributes ≡ e.attributes → Seat n z f.slot
    → among (name_slots e.slot count) f.slot ≡ false → (i : ℕ)
    → 1 ≤ i → i < 2 → part_ok n z (listed (record_of e 5 count k from size ∷ record_of f 0 count k from size ∷ [])) i ≡ true
unfolding part_ok pair_ok alike record_of all_from walk
pair_fine n z e f count k from size same seat off zero low less = absurd (omega arith)
pair_fine n z e f count k from size same seat off (suc zero) low less =
    each_every _ (each_every _ (eq-eqb e.attributes f.attributes (sym same) also eq-eqb count count refl also refl also refl
    also eq-eqb from from refl also eq-eqb k k refl also eq-eqb size size refl also tt) also slot_read n z f.slot seat also (rw off) also tt)
pair_fine n z e f count k from size same seat off (suc (suc i)) low less = absurd (omega arith)

-- of the others, a stamp.
pub stamp_fine : (n z : ℕ) (r : Record) (stamp : ℕ) → eqb r.number 5 ≡ false → (i : ℕ)
    → 1 ≤ i → i < 2 → part_ok n z (listed (r ∷ stamp_record stamp ∷ [])) i ≡ true
unfolding part_ok is_stamp stamp_record every
stamp_fine n z r stamp off zero low less = absurd (omega arith)
stamp_fine n z r stamp off (suc zero) low less = rw off
stamp_fine n z r stamp off (suc (suc i)) low less = absurd (omega arith)

-- It is pending once it is written.
pub stamp_starts : (stamp : ℕ) → Starts (stamp_record stamp)
unfolding stamp_record byte_of
stamp_starts stamp = refl

-- RECORD asks the same of records that are the same as far as their group goes.
module _ (n z m : ℕ) (rs qs : ℕ → Record) (same : (k : ℕ) → k < m → rs k ≡ qs k) where
  same_pair : (k : ℕ) → k < m → pair_ok n z rs k ≡ pair_ok n z qs k
  unfolding pair_ok
  same_pair k less =
      ap (λ (r : Record). every (alike r (rs k) ∷ slot_ok n z (rs k).slot ∷ all (apart rs (rs k).slot) k ∷ [])) (same (k - 1) (omega arith))
      ∙ ap (λ (r : Record). every (alike (qs (k - 1)) r ∷ slot_ok n z r.slot ∷ all (apart rs r.slot) k ∷ [])) (same k less)
      ∙ ap (λ (t : Bool). every (alike (qs (k - 1)) (qs k) ∷ slot_ok n z (qs k).slot ∷ t ∷ []))
      (all_same (apart rs (qs k).slot) (apart qs (qs k).slot) 0 k
      (λ i lo hi. ap (λ (r : Record). not (among (name_slots r.slot r.count) (qs k).slot)) (same i (omega arith))))

  same_part : (k : ℕ) → k < m → part_ok n z rs k ≡ part_ok n z qs k
  unfolding part_ok
  same_part k less =
      λ i. pick (eqb (same 0 (omega arith) i).number 5) (same_pair k less i) (is_stamp (same k less i))

  pub asked_same : 0 < m → group_size rs ≡ m → group_size qs ≡ m → records_ok n z rs ≡ records_ok n z qs
  unfolding records_ok
  asked_same some size other =
      ap (λ (r : Record). every (record_ok n z r ∷ all_from (part_ok n z rs) 1 (group_size rs - 1) ∷ [])) (same 0 some)
      ∙ ap (λ (k : ℕ). every (record_ok n z (qs 0) ∷ all_from (part_ok n z rs) 1 (k - 1) ∷ [])) (size ∙ sym other)
      ∙ ap (λ (t : Bool). every (record_ok n z (qs 0) ∷ t ∷ []))
      (all_same (part_ok n z rs) (part_ok n z qs) 1 (group_size qs - 1) (λ k lo hi. same_part k (omega (arith, other))))
