-- What is pending in a log, and ground RECORD.
use Rattle.std.specs.Prelude.{ℕ, ◌+◌, ◌-◌, ◌*◌, ◌/◌, ◌%◌, List, [], ◌∷◌, ◌++◌, Bool, true, false, ◌&&◌, ◌||◌, not, leb, ltb, eqb}
use Rattle.model.specs.Bytes.{Bytes, pick}
use Rattle.model.specs.Scan.{every, between, first, all, all_from, among}
use Rattle.model.specs.Sector.{Card}
use Rattle.model.specs.Root.{first_bytes, end_slot}
use Rattle.model.specs.Long.{name_slots, most_long}
use Rattle.model.specs.Log.{Log, log_of}
use Rattle.model.specs.LongName.{long_slots, all_allowed}
use Rattle.model.specs.Record.{last_number, record_at, operation_of, Change, change_of, text_length, group_size, starts, pends}
use Rattle.model.specs.declared.Record.{Record}
use Rattle.model.specs.declared.Operation.{Operation}
use Rattle.model.specs.declared.Operation.TheVariants.{Create, Update, Delete, Truncate, Rename, Replace}
use Rattle.model.specs.declared.Layout.{Layout}
use Rattle.model.specs.declared.Area.{Area}
use Rattle.model.specs.declared.Pending.{Pending}

-- Record k of a log table is pending: 16 records to a sector. The lowest that is, of n sectors; 16 * n where there is none.
abbrev pub pending_at : Log → ℕ → Bool
pending_at g k = pends (g (k / 16)) (k % 16)

unfoldable pub first_pending : ℕ → Log → ℕ
first_pending n g = first (pending_at g) (16 * n)

-- "slots below the root entries and not above the lowest slot beginning 0": n entries, and that slot z.
unfoldable pub slot_ok : ℕ → ℕ → ℕ → Bool
slot_ok n z s = ltb s n && leb s z

-- "RECORD now allows, in delete and rename, a count of at most 20 and not above the old slot"; of a create "if the count is at most 16 and
-- not above the main record's slot"; in the others "long-name count 0".
unfoldable pub most_counted : ℕ → ℕ
most_counted number = pick (eqb number 1) 16 (pick (eqb number 3 || eqb number 5) most_long 0)

unfoldable pub count_ok : Record → Bool
count_ok r = leb r.count (most_counted r.number) && leb r.count r.slot

-- "operation 1 to 5" and 6 ("RECORD takes operation 6"), "directory cluster, high word .. 0, DIR_Cluster below 65,536, slots .."
unfoldable pub record_ok : ℕ → ℕ → Record → Bool
record_ok n z r =
    every (
    between 1 last_number r.number ∷ eqb r.directory 0 ∷ eqb r.high 0 ∷ count_ok r
    ∷ ltb r.from 65536 ∷ slot_ok n z r.slot ∷ [])

-- "alike but for name, operation and slot"
unfoldable pub alike : Record → Record → Bool
alike r d =
    every (
    eqb r.attributes d.attributes ∷ eqb r.count d.count ∷ eqb r.directory d.directory
    ∷ eqb r.high d.high ∷ eqb r.from d.from ∷ eqb r.cluster d.cluster ∷ eqb r.size d.size ∷ [])

-- Slot s is none of those of record i: its slot, and as many before it as its count says.
abbrev pub apart : (ℕ → Record) → ℕ → ℕ → Bool
apart rs s i = not (among (name_slots (rs i).slot (rs i).count) s)

-- "RECORD requires the extra record in these groups": "operation 0, first byte 0x54, .. and zero elsewhere"; time and date, which are its
-- directory field, may be any.
unfoldable pub is_stamp : Record → Bool
is_stamp r =
    every (
    eqb r.name.stem 0x54 ∷ eqb r.name.extension 0 ∷ eqb r.attributes 0 ∷ eqb r.count 0 ∷ eqb r.number 0
    ∷ eqb r.slot 0 ∷ eqb r.high 0 ∷ eqb r.from 0 ∷ eqb r.cluster 0 ∷ eqb r.size 0 ∷ [])

-- Record k of a group, a "part of the record before": "for rename two different slots, both records .. alike", "with the new slot outside
-- those marked"; for the others a stamp.
unfoldable pub pair_ok : ℕ → ℕ → (ℕ → Record) → ℕ → Bool
pair_ok n z rs k =
    every (alike (rs (k - 1)) (rs k) ∷ slot_ok n z (rs k).slot ∷ all (apart rs (rs k).slot) k ∷ [])

unfoldable pub part_ok : ℕ → ℕ → (ℕ → Record) → ℕ → Bool
part_ok n z rs k = pick (eqb (rs 0).number 5) (pair_ok n z rs k) (is_stamp (rs k))

-- What is asked of the records of a group: of record 0, and of each after it.
unfoldable pub records_ok : ℕ → ℕ → (ℕ → Record) → Bool
records_ok n z rs = every (record_ok n z (rs 0) ∷ all_from (part_ok n z rs) 1 (group_size rs - 1) ∷ [])

-- How many long slots an operation fills.
abbrev pub fills : Operation → ℕ
fills (Create e count stamp) = count
fills (Update e last from size stamp) = 0
fills (Delete e count first size) = 0
fills (Truncate e first from size stamp) = 0
fills (Rename e count first size to renamed) = 0
fills (Replace e first from size stamp) = 0

-- "and the characters before the first zero are allowed ones, are as many as that count of long slots needs"
unfoldable pub characters_ok : Change → Bool
characters_ok x = let n = text_length x.text in eqb (long_slots n) (fills x.operation) && all_allowed x.text n

-- No byte but zero from i on.
unfoldable pub empty_from : ℕ → Bytes → Bool
empty_from i b = all_from (λ j. eqb (b j) 0) i (512 - i)

-- The records of a sector are a group as above, all of them begun as "pending" ones, and "the rest of the sector is zero": the characters
-- "have only zeros after them".
unfoldable pub group_ok : ℕ → ℕ → Bytes → Bool
group_ok n z b =
    let m = group_size (record_at b) in
    every (
    records_ok n z (record_at b) ∷ all (λ r. starts (b (32 * r))) m
    ∷ characters_ok (change_of b) ∷ empty_from (32 * m + 2 * text_length (change_of b).text) b ∷ [])

-- Only the m records from record i on are pending, in a log of n sectors: "one group".
unfoldable pub alone : ℕ → Log → ℕ → ℕ → Bool
alone n g i m = all (λ k. (leb i k && ltb k (i + m)) || not (pending_at g k)) (16 * n)

-- RECORD takes the group of which record i of the log is the first pending one. "A group is record 0 of a sector".
unfoldable pub accepted : ℕ → ℕ → ℕ → Log → ℕ → Bool
accepted entries z n g i =
    let b = g (i / 16) in
    every (eqb (i % 16) 0 ∷ group_ok entries z b ∷ alone n g i (group_size (record_at b)) ∷ [])

-- The slots that an operation names, long ones included.
unfoldable pub named_slots : Operation → List ℕ
named_slots (Create e count stamp) = name_slots e.slot count
named_slots (Update e last from size stamp) = name_slots e.slot 0
named_slots (Delete e count first size) = name_slots e.slot count
named_slots (Truncate e first from size stamp) = name_slots e.slot 0
named_slots (Rename e count first size to renamed) = name_slots e.slot count ++ (to ∷ [])
named_slots (Replace e first from size stamp) = name_slots e.slot 0

-- "to find the lowest slot beginning 0 it reads all slots that a group names, long ones included, as if they began 0xE5": that slot, of n
-- that begin with f.
unfoldable pub end_past : Operation → ℕ → Bytes → ℕ
end_past o n f = end_slot n (λ k. pick (among (named_slots o) k) 0xE5 (f k))

-- What the log table g of an area tells: nothing pending, the sector of a group, or records that RECORD refuses; z tells the lowest slot
-- beginning 0 by the group's sector.
unfoldable pub pending_in : ℕ → (Bytes → ℕ) → Area → Log → Pending
pending_in entries z a g =
    let i = first_pending a.sectors g in
    let held = pick (accepted entries (z (g (i / 16))) a.sectors g i) (Pending.Held (a.sector + i / 16)) Pending.Broken in
    pick (ltb i (16 * a.sectors)) held Pending.Nothing

-- The lowest slot beginning 0 of a card, as RECORD reads it for the group in a sector.
abbrev pub seen_end : Layout → Card → Bytes → ℕ
seen_end l c b = end_past (operation_of (record_at b)) l.entries (first_bytes l c)

unfoldable pub pending : Layout → Area → Card → Pending
pending l a c = pending_in l.entries (seen_end l c) a (log_of a c)

abbrev pub is_broken : Pending → Bool
is_broken Pending.Nothing = false
is_broken Pending.Broken = true
is_broken (Pending.Held s) = false

abbrev pub is_held : Pending → Bool
is_held Pending.Nothing = false
is_held Pending.Broken = false
is_held (Pending.Held s) = true
