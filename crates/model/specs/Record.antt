-- Log records: the group of an operation as records in a sector, and the operation that such a sector tells of.
use Rattle.std.specs.Prelude.{ℕ, ◌+◌, ◌-◌, ◌*◌, ◌/◌, ◌%◌, List, [], ◌∷◌, map, Bool, ◌&&◌, ◌||◌, not, leb, ltb, eqb, get_or, length}
use Rattle.model.specs.Bytes.{Bytes, pick, le, part, patch, zeros}
use Rattle.model.specs.Scan.{every, first}
use Rattle.model.specs.Sector.{Card, Store, store}
use Rattle.model.specs.Root.{name_in, attributes}
use Rattle.model.specs.LongName.{character}
use Rattle.model.specs.declared.Entry.{Entry}
use Rattle.model.specs.declared.Record.{Record}
use Rattle.model.specs.declared.Plan.{Plan}
use Rattle.model.specs.declared.Operation.{Operation}
use Rattle.model.specs.declared.Operation.TheVariants.{Create, Update, Delete, Truncate, Rename, Replace}

-- "A record is 32 bytes: name 0 (11), attributes 11 (1), long-name count 12 (1), operation 13 (1), directory cluster 14 (4), slot 18
-- (2), first/last cluster high 20 (2), DIR_Cluster 22 (4), first/last cluster low 26 (2), size 28 (4)"
unfoldable pub record_bytes : Record → Bytes
record_bytes r =
    patch 8 r.name.stem 0
    (patch 3 r.name.extension 8
    (patch 1 r.attributes 11
    (patch 1 r.count 12
    (patch 1 r.number 13
    (patch 4 r.directory 14
    (patch 2 r.slot 18
    (patch 2 r.high 20
    (patch 4 r.from 22
    (patch 2 r.cluster 26
    (patch 4 r.size 28 zeros))))))))))

-- Fields of a record's bytes, and the record that they hold.
abbrev pub r_count : Bytes → ℕ
r_count b = b 12

abbrev pub r_number : Bytes → ℕ
r_number b = b 13

abbrev pub r_directory : Bytes → ℕ
r_directory b = le 4 b 14

abbrev pub r_slot : Bytes → ℕ
r_slot b = le 2 b 18

abbrev pub r_high : Bytes → ℕ
r_high b = le 2 b 20

abbrev pub r_from : Bytes → ℕ
r_from b = le 4 b 22

abbrev pub r_cluster : Bytes → ℕ
r_cluster b = le 2 b 26

abbrev pub r_size : Bytes → ℕ
r_size b = le 4 b 28

abbrev pub record_in : Bytes → Record
record_in b = record {
  name = name_in b;
  attributes = attributes b;
  count = r_count b;
  number = r_number b;
  directory = r_directory b;
  slot = r_slot b;
  high = r_high b;
  from = r_from b;
  cluster = r_cluster b;
  size = r_size b;
}

-- A record about an entry. ".. directory cluster and high word are 0 here."
unfoldable pub record_of : Entry → ℕ → ℕ → ℕ → ℕ → ℕ → Record
record_of e number count cluster from size = record {
  name = e.name;
  attributes = e.attributes;
  count = count;
  number = number;
  directory = 0;
  slot = e.slot;
  high = 0;
  from = from;
  cluster = cluster;
  size = size;
}

-- "Operations: 1 create, 2 update, 3 delete, 4 truncate, 5 rename, 0 part of the record before", and 6 replace: the highest.
abbrev pub last_number : ℕ
last_number = 6

-- "The group gains a record right after the main one, with operation 0, first byte 0x54, the time at 14, the date at 16 and zero elsewhere":
-- the stamp takes the four bytes at 14.
unfoldable pub stamp_record : ℕ → Record
stamp_record stamp = record {
  name = record { stem = 0x54; extension = 0 };
  attributes = 0;
  count = 0;
  number = 0;
  directory = stamp;
  slot = 0;
  high = 0;
  from = 0;
  cluster = 0;
  size = 0;
}

-- "First/last: create 0; update, the last cluster before; others, the first cluster." "DIR_Cluster: update and truncate; others 0."
-- "Size: 0 for create." "Rename's record 1 is record 0 with the new name, operation 0 and the new slot." Replace: "The record has
-- operation 6, the old first cluster in first/last, the new first cluster (0 for no bytes) in DIR_Cluster, and the new size." Delete and
-- rename: "The record's long-name count holds how many there are"; create: "the count field holds the number of long slots"; in all others
-- it is 0. Create, update, truncate and replace have a stamp.
unfoldable pub operation_records : Operation → List Record
operation_records (Create e count stamp) = record_of e 1 count 0 0 0 ∷ stamp_record stamp ∷ []
operation_records (Update e last from size stamp) = record_of e 2 0 last from size ∷ stamp_record stamp ∷ []
operation_records (Delete e count first size) = record_of e 3 count first 0 size ∷ []
operation_records (Truncate e first from size stamp) = record_of e 4 0 first from size ∷ stamp_record stamp ∷ []
operation_records (Rename e count first size to renamed) =
    record_of e 5 count first 0 size
    ∷ record_of (record { slot = to; name = renamed; attributes = e.attributes }) 0 count first 0 size ∷ []
operation_records (Replace e first from size stamp) = record_of e 6 0 first from size ∷ stamp_record stamp ∷ []

-- What a group of records tells: an operation, and the characters of the long name that it writes, two bytes each, with zeros after them;
-- the operation alone, where it writes none.
pub record Change : Type 0 where
  pub operation : Operation
  pub text : Bytes

abbrev pub with_text : Operation → Bytes → Change
with_text o t = record { operation = o; text = t }

abbrev pub plain : Operation → Change
plain o = with_text o zeros

-- The records that tell the operation.
unfoldable pub records : Change → List Record
records x = operation_records x.operation

-- "They go into records of 16 each after the main record", and so after its stamp: where the characters begin in a sector, and for how many
-- bytes of them it has room.
abbrev pub text_start : ℕ
text_start = 64

abbrev pub text_room : ℕ
text_room = 448

-- How many characters a text has, "before the first zero", of those for which there is room.
unfoldable pub text_length : Bytes → ℕ
text_length t = first (λ q. eqb (character t q) 0) (text_room / 2)

-- Records from record 0 of a sector on; "the rest of the sector is zero". "They go into records of 16 each after the main record, the last
-- filled with zeros": the characters stand one after the other, 32 bytes to a record.
unfoldable pub lay : List Bytes → Bytes
lay rs j = get_or rs (j / 32) zeros (j % 32)

unfoldable pub encode : Change → Bytes
encode x j =
    let m = 32 * length (records x) in
    pick (ltb j m) (lay (map record_bytes (records x)) j) (x.text (j - m))

-- Record k of a sector, which has 16, and no record but zeros after them; the entry that a record is about.
abbrev pub record_at : Bytes → ℕ → Record
record_at b k = pick (ltb k 16) (record_in (part b (32 * k))) (record_in zeros)

abbrev pub entry_in : Record → Entry
entry_in r = record { slot = r.slot; name = r.name; attributes = r.attributes }

-- The operation that the records of a sector tell of: its number is record 0's, from 1 to 6.
unfoldable pub operation_of : (ℕ → Record) → Operation
operation_of rs =
    let r = rs 0 in
    let e = entry_in r in
    let stamp = (rs 1).directory in
    pick (eqb r.number 1) (Create e r.count stamp)
    (pick (eqb r.number 2) (Update e r.cluster r.from r.size stamp)
    (pick (eqb r.number 3) (Delete e r.count r.cluster r.size)
    (pick (eqb r.number 4) (Truncate e r.cluster r.from r.size stamp)
    (pick (eqb r.number 5) (Rename e r.count r.cluster r.size (rs 1).slot (rs 1).name)
    (Replace e r.cluster r.from r.size stamp)))))

-- How many of a sector's records tell the operation: "record 0 of a sector, with record 1 for a rename", and with the stamp.
unfoldable pub group_size : (ℕ → Record) → ℕ
group_size rs = length (operation_records (operation_of rs))

-- "a sector whose record 0 does not begin 0 and is a create with a count above 0"
unfoldable pub leads : Bytes → Bool
leads b = every (not (eqb (b 0) 0) ∷ eqb (r_number b) 1 ∷ leb 1 (r_count b) ∷ [])

-- The characters in such a sector run from the record after the stamp to its end; another has none.
unfoldable pub text_in : Bytes → Bytes
text_in b i = pick (leads b && ltb i text_room) (b (text_start + i)) 0

-- The change that a sector tells.
unfoldable pub change_of : Bytes → Change
change_of b = record { operation = operation_of (record_at b); text = text_in b }

-- A group: the log sector that it stands in, how many records it has, those of characters included, and what they tell. The group of a
-- change, the one that stands in a sector, and that of a plan with a text.
pub record Group : Type 0 where
  pub sector : ℕ
  pub records : ℕ
  pub change : Change

unfoldable pub group_records : Change → ℕ
group_records x = length (records x) + (text_length x.text + 15) / 16

abbrev pub group_of : ℕ → Change → Group
group_of s x = record { sector = s; records = group_records x; change = x }

unfoldable pub group_in : ℕ → Bytes → Group
group_in s b = group_of s (change_of b)

abbrev pub planned : Plan → Bytes → Group
planned p t = record { sector = p.sector; records = p.records; change = with_text p.operation t }

-- "First byte 0 is an unused record, 0xE5 a committed one, anything else pending": a record begins so.
abbrev pub starts : ℕ → Bool
starts v = not (eqb v 0) && not (eqb v 0xE5)

-- "In a sector whose record 0 does not begin 0 and is a create with a count above 0, only that record tells what is pending, and only it is
-- listed." Record r of a sector tells something; it is pending.
unfoldable pub tells : Bytes → ℕ → Bool
tells b r = not (eqb (b (32 * r)) 0) && (eqb r 0 || not (leads b))

unfoldable pub pends : Bytes → ℕ → Bool
pends b r = tells b r && not (eqb (b (32 * r)) 0xE5)

-- "The log sector again, each record of the group starting 0xE5."
unfoldable pub committed : ℕ → Bytes → Bytes
committed n b j = pick (eqb (j % 32) 0 && ltb j (32 * n)) 0xE5 (b j)

abbrev pub mark_committed : Card → ℕ → ℕ → Store
mark_committed c s n = store s (committed n (c s))

unfoldable pub commit : Card → Group → Store
commit c g = mark_committed c g.sector g.records
