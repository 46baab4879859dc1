-- Laws of log records: what is written into a group's sector is read from it.
use Prim.Native.Nat.{ℕ, zero, suc, ◌+◌, ◌-◌, ◌*◌, ◌/◌, ◌%◌, ◌^◌, ◌≤◌, ◌<◌}
use native.Mathlib.Omega.{arith}
use native.Mathlib.Nat.{div-one, mod-eq_of_lt}
use mathlib.Core.Path.{◌≡◌, refl, sym, ap, ◌∙◌}
use mathlib.Core.Logic.{◌⊎◌, inl, inr}
use mathlib.Core.List.{List, [], ◌∷◌, map}
use lib.ListN.{length, get_or, get_or-eq_default}
use Rattle.model.specs.Bytes.{Bytes, le, overlay, byte_of, part, patch, zeros}
use Rattle.model.specs.Sector.{clip}
use Rattle.model.specs.Record.{record_bytes, record_in, record_of, stamp_record, operation_records, records, lay, encode, record_at, operation_of}
use Rattle.model.specs.Record.{text_length, group_size}
use Rattle.model.specs.Scan.{first_from, walk}
use Rattle.model.specs.LongName.{most_characters}
use Rattle.model.specs.Pending.{fills}
use Rattle.model.specs.declared.Name.{Name}
use Rattle.model.specs.declared.Entry.{Entry}
use Rattle.model.specs.declared.Record.{Record}
use Rattle.model.specs.Record.{Change}
use Rattle.model.specs.declared.Operation.{Operation}
use Rattle.model.specs.declared.Operation.TheVariants.{Create, Update, Delete, Truncate, Rename, Replace}
use borrow.Author.Tests.{lt-ltb, le-ltb}
use Rattle.model.proofs.Tests.{less?}
use Rattle.model.proofs.Cards.{clip_at}
use Rattle.model.proofs.All.{All}
use Rattle.model.proofs.Numbers.{read_back, le_local}

-- The numbers that a record can hold.
pub record NameFits (n : Name) : Type 0 where
  pub stem : n.stem < 256 ^ 8
  pub extension : n.extension < 256 ^ 3

pub record EntryFits (e : Entry) : Type 0 where
  pub slot : e.slot < 256 ^ 2
  pub name : NameFits e.name
  pub attributes : e.attributes < 256

pub record RecordFits (r : Record) : Type 0 where
  pub name : NameFits r.name
  pub attributes : r.attributes < 256
  pub count : r.count < 256
  pub number : r.number < 256
  pub directory : r.directory < 256 ^ 4
  pub slot : r.slot < 256 ^ 2
  pub high : r.high < 256 ^ 2
  pub from : r.from < 256 ^ 4
  pub cluster : r.cluster < 256 ^ 2
  pub size : r.size < 256 ^ 4

-- A record about an entry.
pub entry_record : (e : Entry) (number count cluster from size : ℕ) → number < 256 → count < 256 → EntryFits e → cluster < 256 ^ 2 → from < 256 ^ 4
    → size < 256 ^ 4 → RecordFits (record_of e number count cluster from size)
unfolding record_of
entry_record e number count cluster from size n m h c f s = record {
  name = h.name;
  attributes = h.attributes;
  count = m;
  number = n;
  directory = omega arith;
  slot = h.slot;
  high = omega arith;
  from = f;
  cluster = c;
  size = s;
}

-- A stamp's.
pub stamp_fits : (stamp : ℕ) → stamp < 256 ^ 4 → RecordFits (stamp_record stamp)
unfolding stamp_record
stamp_fits stamp small = record {
  name = record { stem = omega arith; extension = omega arith };
  attributes = omega arith;
  count = omega arith;
  number = omega arith;
  directory = small;
  slot = omega arith;
  high = omega arith;
  from = omega arith;
  cluster = omega arith;
  size = omega arith;
}

-- ---- one record

-- A number at an offset of an otherwise empty run is read back.
back : (n v at : ℕ) → v < 256 ^ n → le n (patch n v at zeros) (at + 0) ≡ v
back n v at h = read_back n v at zeros h

byte_back : (v : ℕ) → v < 256 → v / 1 % 256 ≡ v
byte_back v h = ap (λ (y : ℕ). y % 256) (div-one v) ∙ mod-eq_of_lt h

name_back : (n : Name) → NameFits n → record { stem = le 8 (patch 8 n.stem 0 zeros) 0; extension = le 3 (patch 3 n.extension 8 zeros) 8 } ≡ n
unfolding overlay byte_of le
name_back n h = λ i. record { stem = back 8 n.stem 0 h.stem i; extension = back 3 n.extension 8 h.extension i }

pub record_back : (r : Record) → RecordFits r → record_in (record_bytes r) ≡ r
unfolding record_bytes overlay byte_of le
record_back r h = λ i. record {
  name = name_back r.name h.name i;
  attributes = byte_back r.attributes h.attributes i;
  count = byte_back r.count h.count i;
  number = byte_back r.number h.number i;
  directory = back 4 r.directory 14 h.directory i;
  slot = back 2 r.slot 18 h.slot i;
  high = back 2 r.high 20 h.high i;
  from = back 4 r.from 22 h.from i;
  cluster = back 2 r.cluster 26 h.cluster i;
  size = back 4 r.size 28 h.size i;
}

-- A record is told by its 32 bytes.
pub record_local : (b d : Bytes) → ((j : ℕ) → j < 32 → b j ≡ d j) → record_in b ≡ record_in d
record_local b d h = λ i. record {
  name = record { stem = le_local 8 b d 0 (λ j lo hi. h j (omega arith)) i; extension = le_local 3 b d 8 (λ j lo hi. h j (omega arith)) i };
  attributes = h 11 (omega arith) i;
  count = h 12 (omega arith) i;
  number = h 13 (omega arith) i;
  directory = le_local 4 b d 14 (λ j lo hi. h j (omega arith)) i;
  slot = le_local 2 b d 18 (λ j lo hi. h j (omega arith)) i;
  high = le_local 2 b d 20 (λ j lo hi. h j (omega arith)) i;
  from = le_local 4 b d 22 (λ j lo hi. h j (omega arith)) i;
  cluster = le_local 2 b d 26 (λ j lo hi. h j (omega arith)) i;
  size = le_local 4 b d 28 (λ j lo hi. h j (omega arith)) i;
}

-- ---- the records of a sector

-- Where no record is.
abbrev pub none : Record
none = record_in zeros

-- Record k of a list, none after the last.
abbrev pub listed : List Record → ℕ → Record
listed rs k = get_or rs k none

one_back : (rs : List Record) → All RecordFits rs → (k : ℕ) → record_in (get_or (map record_bytes rs) k zeros) ≡ listed rs k
one_back [] h k = refl
one_back (r ∷ rs) h zero = record_back r h.0
one_back (r ∷ rs) h (suc k) = one_back rs h.1 k

-- Records that are laid into a sector are read from it, also from its 512 bytes alone.
past : (rs : List Record) (k : ℕ) → length rs ≤ k → none ≡ listed rs k
past rs k h = sym (get_or-eq_default rs none {n = k} h)

pub records_back : (rs : List Record) → length rs ≤ 16 → All RecordFits rs → (k : ℕ) → record_at (clip (lay (map record_bytes rs))) k ≡ listed rs k
unfolding lay
records_back rs few h k = go (less? k 16)
  where
    go : (k < 16) ⊎ (16 ≤ k) → record_at (clip (lay (map record_bytes rs))) k ≡ listed rs k
    go (inr m) = rw (le-ltb k 16 m) (past rs k (omega arith))
    go (inl less) =
        rw (lt-ltb k 16 less)
        (record_local (part (clip (lay (map record_bytes rs))) (32 * k)) (get_or (map record_bytes rs) k zeros)
        (λ j small.
        let row : (32 * k + j) % 512 / 32 ≡ k = omega arith in
        let col : (32 * k + j) % 512 % 32 ≡ j = omega arith in
        λ i. get_or (map record_bytes rs) (row i) zeros (col i))
        ∙ one_back rs h k)

-- After the records their sector is zero.
pub zero_after : (rs : List Bytes) (j : ℕ) → 32 * length rs ≤ j → lay rs j ≡ 0
unfolding lay
zero_after rs j h = ap (λ (b : Bytes). b (j % 32)) (get_or-eq_default rs zeros {n = j / 32} (omega arith))

-- ---- the sector of a change

-- A change that writes a long name: a create, whose name does not begin 0; its text ends with its characters.
pub record Spells (x : Change) : Type 0 where
  pub entry : Entry
  pub count : ℕ
  pub stamp : ℕ
  pub is : x.operation ≡ Create entry count stamp
  pub some : 1 ≤ count
  pub begins : byte_of entry.name.stem 0 ≡ 0 → ⊥
  pub few : text_length x.text ≤ most_characters
  pub after : (i : ℕ) → 2 * text_length x.text ≤ i → x.text i ≡ 0

-- One that writes none.
abbrev pub Silent : Change → Type 0
Silent x = (x.text ≡ zeros) × (fills x.operation ≡ 0)

-- A change that a group can hold: its records fit a sector and their fields, and its text too.
pub record ChangeFits (x : Change) : Type 0 where
  pub few : length (records x) ≤ 16
  pub fields : All RecordFits (records x)
  pub text : Silent x ⊎ Spells x

pub zeros_length : text_length zeros ≡ 0
unfolding text_length first_from walk le
zeros_length = refl

-- The records that tell the operation stand first, in both.
pub before_text : (x : Change) (j : ℕ) → j < 32 * length (records x) → encode x j ≡ lay (map record_bytes (records x)) j
unfolding encode
before_text x j less = rw (lt-ltb j (32 * length (records x)) less)

pub in_text : (x : Change) (j : ℕ) → 32 * length (records x) ≤ j → encode x j ≡ x.text (j - 32 * length (records x))
unfolding encode
in_text x j more = rw (le-ltb j (32 * length (records x)) more)

-- So each of these records is read from it.
pub record_read : (x : Change) → ChangeFits x → (k : ℕ) → k < length (records x) → record_at (clip (encode x)) k ≡ listed (records x) k
record_read x h k less =
    let few : length (records x) ≤ 16 = h.few in
    rw (lt-ltb k 16 (omega arith))
    (record_local (part (clip (encode x)) (32 * k)) (part (clip (lay (map record_bytes (records x)))) (32 * k))
    (λ j small. clip_at (encode x) (32 * k + j) (omega arith) ∙ before_text x (32 * k + j) (omega arith)
    ∙ sym (clip_at (lay (map record_bytes (records x))) (32 * k + j) (omega arith)))
    ∙ (rw (lt-ltb k 16 (omega arith)) at (records_back (records x) h.few h.fields k)))

-- Records that begin as an operation's do tell of it.
pair : Record → Record → ℕ → Record
pair r d zero = r
pair r d (suc k) = d

abbrev Tells : Operation → (ℕ → Record) → Type 0
Tells o rs = (k : ℕ) → k < length (operation_records o) → rs k ≡ listed (operation_records o) k

pub operation_back : (o : Operation) (rs : ℕ → Record) → Tells o rs → operation_of rs ≡ o
unfolding operation_of operation_records record_of stamp_record pair
operation_back (Create e count stamp) rs h = λ i. operation_of (pair (h 0 (omega arith) i) (h 1 (omega arith) i))
operation_back (Update e last from size stamp) rs h = λ i. operation_of (pair (h 0 (omega arith) i) (h 1 (omega arith) i))
operation_back (Delete e count first size) rs h = λ i. operation_of (pair (h 0 (omega arith) i) (rs 1))
operation_back (Truncate e first from size stamp) rs h = λ i. operation_of (pair (h 0 (omega arith) i) (h 1 (omega arith) i))
operation_back (Rename e count first size to renamed) rs h = λ i. operation_of (pair (h 0 (omega arith) i) (h 1 (omega arith) i))
operation_back (Replace e first from size stamp) rs h = λ i. operation_of (pair (h 0 (omega arith) i) (h 1 (omega arith) i))

module _ (x : Change) (h : ChangeFits x) where
  pub operation_read : operation_of (record_at (clip (encode x))) ≡ x.operation
  unfolding records
  operation_read = operation_back x.operation (record_at (clip (encode x))) (record_read x h)

  pub size_read : group_size (record_at (clip (encode x))) ≡ length (records x)
  unfolding group_size records
  size_read = ap (λ (o : Operation). length (operation_records o)) operation_read
