-- Long names by computation: what is written in long entries, what is read back, which groups tell of one, and RECORD's rules for them. The
-- numbers are worked out by hand. The edits in must-fail are refused here.
use Prim.Native.Nat.{ℕ, ◌+◌, ◌-◌, ◌*◌, ◌/◌, ◌%◌}
use mathlib.Core.Path.{◌≡◌, refl}
use mathlib.Core.List.{List, [], ◌∷◌, ◌++◌, map}
use mathlib.Core.Bool.{Bool, true, false}
use lib.Dec.{ltb, eqb}
use lib.ListN.{get_or, replicate}
use Rattle.model.specs.Bytes.{Bytes, Span, pick, patch, zeros, le, byte_of, overlay}
use Rattle.model.specs.Scan.{every, any, between, walk, first_from, indices_from, all_from, range}
use Rattle.model.specs.Sector.{Card}
use Rattle.model.specs.Root.{Directory, slot_at, vacant, is_label, listed, free_run, end_slot, name_in}
use Rattle.model.specs.Long.{name_slots, turned, sum_of, is_long, belong, long_count}
use Rattle.model.specs.LongName.{long_slots, forbidden, all_allowed, text_ok, spelled, fill, long_entry, name_entry, long_byte, long_length, has_text}
use Rattle.model.specs.Record.{record_bytes, record_of, stamp_record, operation_records, records}
use Rattle.model.specs.Record.{text_length, lay, encode, operation_of, group_size, leads}
use Rattle.model.specs.Record.{text_in, change_of, group_records, plain, with_text, record_at, tells, pends, committed}
use Rattle.model.specs.Pending.{first_pending, slot_ok, most_counted, count_ok, record_ok, alike, is_stamp, pair_ok, part_ok, records_ok}
use Rattle.model.specs.Pending.{characters_ok, empty_from, group_ok, alone, accepted, named_slots, end_past, pending_in}
use Rattle.model.specs.Text.{ascii, digits, decimal, join, line}
use Rattle.model.specs.Listing.{op_word, state_word, shown_byte, trimmed, dotted, shown_name, record_line, has_line, record_lines, is_table}
use Rattle.model.specs.Listing.{table_text, log_text}
use Rattle.model.specs.declared.Layout.{Layout}
use Rattle.model.specs.declared.Entry.{Entry}
use Rattle.model.specs.declared.Operation.TheVariants.{Create, Update, Delete, Truncate, Rename, Replace}
use Rattle.model.specs.declared.Pending.{Pending}

-- All definitions that a row computes.
unfoldable pub compute : Unit {0}
unfolding le byte_of overlay every any between walk first_from indices_from all_from slot_at vacant is_label listed free_run end_slot
    name_slots turned sum_of is_long belong long_count forbidden all_allowed text_ok spelled fill long_entry name_entry long_length has_text
    record_bytes record_of stamp_record operation_records records text_length lay encode operation_of group_size leads text_in change_of group_records
    tells pends committed first_pending slot_ok most_counted count_ok record_ok alike is_stamp pair_ok part_ok records_ok characters_ok empty_from group_ok
    alone accepted named_slots end_past pending_in ascii digits decimal join line op_word state_word shown_byte trimmed dotted shown_name
    record_line has_line record_lines is_table table_text log_text
compute = tt

abbrev bytes : List ℕ → Bytes
bytes bs j = get_or bs j 0

abbrev pub span : ℕ → Bytes → Span
span n b = record { size = n; byte = b }

-- ---- entries, written

-- A text whose bytes are 100, 101, 102 ..: no byte of it is another's. Entry i of its first n characters, for a short name with checksum 128.
abbrev rising : Bytes
rising i = 100 + i

abbrev written : ℕ → ℕ → List ℕ
written n i = map (name_entry 128 rising n i) (range 0 32)

-- One character: a zero, and 0xFFFF in the other eleven places; bytes 12, 26 and 27 are 0.
one_written : written 1 1 ≡ 0x41 ∷ 100 ∷ 101 ∷ 0 ∷ 0 ∷ replicate 6 0xFF ++ (0x0F ∷ 0 ∷ 128 ∷ replicate 12 0xFF ++ (0 ∷ 0 ∷ replicate 4 0xFF))
unfolding compute
one_written = refl

-- Twelve: the zero stands in the last place. Thirteen fill their slot: neither a zero nor 0xFFFF.
filled_written : (written 12 1 ≡ 0x41 ∷ range 100 10 ++ (0x0F ∷ 0 ∷ 128 ∷ range 110 12 ++ (0 ∷ 0 ∷ 122 ∷ 123 ∷ 0 ∷ 0 ∷ [])))
    × (written 13 1 ≡ 0x41 ∷ range 100 10 ++ (0x0F ∷ 0 ∷ 128 ∷ range 110 12 ++ (0 ∷ 0 ∷ 122 ∷ 123 ∷ 124 ∷ 125 ∷ [])))
unfolding compute
filled_written = (refl, refl)

-- Fourteen: the first entry has thirteen of them and no 0x40, the second has the last.
two_written : (written 14 1 ≡ 1 ∷ range 100 10 ++ (0x0F ∷ 0 ∷ 128 ∷ range 110 12 ++ (0 ∷ 0 ∷ 122 ∷ 123 ∷ 124 ∷ 125 ∷ [])))
    × (written 14 2 ≡ 0x42 ∷ 126 ∷ 127 ∷ 0 ∷ 0 ∷ replicate 6 0xFF ++ (0x0F ∷ 0 ∷ 128 ∷ replicate 12 0xFF ++ (0 ∷ 0 ∷ replicate 4 0xFF)))
unfolding compute
two_written = (refl, refl)

-- The order bytes of 208 characters, going back from the short name: 1 to 15, and 16 with 0x40.
order_row : map (λ i. name_entry 128 zeros 208 i 0) (range 1 16) ≡ range 1 15 ++ (0x50 ∷ [])
unfolding compute
order_row = refl

slots_row : map long_slots (0 ∷ 1 ∷ 13 ∷ 14 ∷ 26 ∷ 27 ∷ 195 ∷ 196 ∷ 208 ∷ []) ≡ 0 ∷ 1 ∷ 1 ∷ 2 ∷ 2 ∷ 3 ∷ 15 ∷ 16 ∷ 16 ∷ []
slots_row = refl

-- ---- LONGNAME

-- Those below 32 and the nine; and none of their neighbours, of 290 with a low byte 34, of 0x00E5, 0xD800 and 0xFFFF.
forbidden_row : (map forbidden (0 ∷ 1 ∷ 31 ∷ 34 ∷ 42 ∷ 47 ∷ 58 ∷ 60 ∷ 62 ∷ 63 ∷ 92 ∷ 124 ∷ []) ≡ replicate 12 true)
    × (map forbidden (32 ∷ 33 ∷ 35 ∷ 41 ∷ 43 ∷ 46 ∷ 48 ∷ 57 ∷ 59 ∷ 61 ∷ 64 ∷ 91 ∷ 93 ∷ 123 ∷ 125 ∷ 127 ∷ 229 ∷ 256 ∷ 290 ∷ 55296 ∷ 65535 ∷ [])
    ≡ replicate 21 false)
unfolding compute
forbidden_row = (refl, refl)

-- So many bytes, all of them 97.
lengths_row : map (λ n. text_ok (span n (λ i. 97))) (0 ∷ 1 ∷ 2 ∷ 3 ∷ 416 ∷ 417 ∷ 418 ∷ []) ≡ false ∷ false ∷ true ∷ false ∷ true ∷ false ∷ false ∷ []
unfolding compute
lengths_row = refl

-- The second of two characters as given: 47, 47 + 256, 0, 32.
last_row : map (λ b. text_ok (span 4 (bytes (97 ∷ 0 ∷ b)))) ((47 ∷ 0 ∷ []) ∷ (47 ∷ 1 ∷ []) ∷ (0 ∷ 0 ∷ []) ∷ (32 ∷ 0 ∷ []) ∷ [])
    ≡ false ∷ true ∷ false ∷ true ∷ []
unfolding compute
last_row = refl

-- ---- reading back

-- A, whose checksum is 128; its first byte and its attributes as given.
abbrev short : ℕ → ℕ → Bytes
short b x j = pick (eqb j 0) b (pick (ltb j 11) 32 (pick (eqb j 11) x 0))

abbrev slots : List Bytes → Directory
slots bs k = get_or bs k zeros

-- An entry of this checksum and order byte that begins with these characters' bytes, up to ten, and has 0xFF after them.
abbrev entry : ℕ → ℕ → List ℕ → Bytes
entry sum order bs = bytes (order ∷ map (λ i. get_or bs i 0xFF) (range 0 10) ++ (0x0F ∷ 0 ∷ sum ∷ replicate 12 0xFF ++ (0 ∷ 0 ∷ replicate 4 0xFF)))

-- One entry before A.
abbrev before : Bytes → Directory
before b = slots (b ∷ short 65 0x20 ∷ [])

-- A zero after one character, at once, and nowhere; 0xFFFF before another character; a high byte alone; another order byte, another checksum.
lengths_read : map (λ b. long_length (before b) 1)
    (entry 128 0x41 (97 ∷ 0 ∷ 0 ∷ 0 ∷ []) ∷ entry 128 0x41 (0 ∷ 0 ∷ []) ∷ entry 128 0x41 [] ∷ entry 128 0x41 (97 ∷ 0 ∷ 0xFF ∷ 0xFF ∷ 98 ∷ 0 ∷ 0 ∷ 0 ∷ [])
    ∷ entry 128 0x41 (0 ∷ 1 ∷ 0 ∷ 0 ∷ []) ∷ entry 128 0x42 (97 ∷ 0 ∷ 0 ∷ 0 ∷ []) ∷ entry 127 0x41 (97 ∷ 0 ∷ 0 ∷ 0 ∷ []) ∷ [])
    ≡ 1 ∷ 0 ∷ 13 ∷ 3 ∷ 1 ∷ 0 ∷ 0 ∷ []
unfolding compute
lengths_read = refl

-- Two entries: both filled; a zero in the second; one in the first, after which nothing counts.
abbrev both : Bytes → Bytes → ℕ
both b c = long_length (slots (b ∷ c ∷ short 65 0x20 ∷ [])) 2

both_read : both (entry 128 0x42 []) (entry 128 1 []) ∷ both (entry 128 0x42 (97 ∷ 0 ∷ 0 ∷ 0 ∷ [])) (entry 128 1 [])
    ∷ both (entry 128 0x42 []) (entry 128 1 (97 ∷ 0 ∷ 98 ∷ 0 ∷ 0 ∷ 0 ∷ [])) ∷ [] ≡ 26 ∷ 14 ∷ 2 ∷ []
unfolding compute
both_read = refl

-- What was written, 14 characters: how many there are, and their bytes in order.
read_back : (long_length (slots (name_entry 128 rising 14 2 ∷ name_entry 128 rising 14 1 ∷ short 65 0x20 ∷ [])) 2 ≡ 14)
    × (map (long_byte (slots (name_entry 128 rising 14 2 ∷ name_entry 128 rising 14 1 ∷ short 65 0x20 ∷ [])) 2) (range 0 28) ≡ range 100 28)
unfolding compute
read_back = (refl, refl)

-- aB before A. The same characters; another case; one less, one more; other high bytes.
abbrev named : ℕ → ℕ → ℕ → Directory
named sum b x = slots (entry sum 0x41 (97 ∷ 0 ∷ 66 ∷ 0 ∷ 0 ∷ 0 ∷ []) ∷ short b x ∷ [])

abbrev has : Directory → List ℕ → ℕ → Bool
has d bs n = has_text (span (2 * n) (bytes bs)) d 1

texts_row : has (named 128 65 0x20) (97 ∷ 0 ∷ 66 ∷ 0 ∷ []) 2 ∷ has (named 128 65 0x20) (97 ∷ 0 ∷ 98 ∷ 0 ∷ []) 2 ∷ has (named 128 65 0x20) (97 ∷ 0 ∷ []) 1
    ∷ has (named 128 65 0x20) (97 ∷ 0 ∷ 66 ∷ 0 ∷ 67 ∷ 0 ∷ []) 3 ∷ has (named 128 65 0x20) (97 ∷ 0 ∷ 66 ∷ 1 ∷ []) 2 ∷ []
    ≡ true ∷ false ∷ false ∷ false ∷ false ∷ []
unfolding compute
texts_row = refl

-- Its slot is a directory; it has bit 0x08; it is a deleted one, with the checksum that its bytes have, 168; the entry is another name's.
kinds_row : map (λ d. has d (97 ∷ 0 ∷ 66 ∷ 0 ∷ []) 2) (named 128 65 0x10 ∷ named 128 65 0x08 ∷ named 168 0xE5 0x20 ∷ named 127 65 0x20 ∷ [])
    ≡ true ∷ false ∷ false ∷ false ∷ []
unfolding compute
kinds_row = refl

-- ---- a run of free slots

-- Sixteen slots that begin so: the lowest run of 1, 2, 3 and 10. There is none of 11, which would begin below slot 6.
abbrev sixteen : Layout
sixteen = record { factor = 1; fatsize = 1; fat1 = 1; fat2 = 2; root = 3; entries = 16; start = 4; total = 12; clusters = 8 }

abbrev begun : List ℕ → Card
begun bs s j = pick (eqb (j % 32) 0) (get_or bs (j / 32) 0) 7

runs_row : map (free_run sixteen (begun (65 ∷ 0xE5 ∷ 66 ∷ 0xE5 ∷ 0xE5 ∷ 67 ∷ 0xE5 ∷ 0 ∷ 0 ∷ 0 ∷ []))) (1 ∷ 2 ∷ 3 ∷ 10 ∷ 11 ∷ []) ≡ 1 ∷ 3 ∷ 6 ∷ 6 ∷ 6 ∷ []
unfolding compute
runs_row = refl

-- ---- sectors that a long name's group leads

-- A sector whose record 0 has this first byte, count and operation; all its other records begin with 65.
abbrev led : ℕ → ℕ → ℕ → Bytes
led b count number j = pick (eqb j 0) b (pick (eqb j 12) count (pick (eqb j 13) number (pick (eqb (j % 32) 0) 65 0)))

abbrev first_three : (ℕ → Bool) → List Bool
first_three p = map p (0 ∷ 1 ∷ 2 ∷ [])

-- Pending, pending with the highest count, committed; beginning 0, of count 0, committed of count 0, a delete.
leads_row : map leads (led 65 2 1 ∷ led 65 255 1 ∷ led 0xE5 2 1 ∷ led 0 2 1 ∷ led 65 0 1 ∷ led 0xE5 0 1 ∷ led 65 2 3 ∷ [])
    ≡ true ∷ true ∷ true ∷ false ∷ false ∷ false ∷ false ∷ []
unfolding compute
leads_row = refl

tells_row : map (λ b. first_three (tells b)) (led 65 2 1 ∷ led 0xE5 2 1 ∷ led 0 2 1 ∷ led 65 0 1 ∷ led 0xE5 0 1 ∷ led 65 2 3 ∷ [])
    ≡ (true ∷ false ∷ false ∷ []) ∷ (true ∷ false ∷ false ∷ []) ∷ (false ∷ true ∷ true ∷ []) ∷ replicate 3 (replicate 3 true)
unfolding compute
tells_row = refl

pends_row : map (λ b. first_three (pends b)) (led 65 2 1 ∷ led 0xE5 2 1 ∷ led 0 2 1 ∷ led 65 0 1 ∷ led 0xE5 0 1 ∷ led 65 2 3 ∷ [])
    ≡ (true ∷ false ∷ false ∷ []) ∷ replicate 3 false ∷ (false ∷ true ∷ true ∷ []) ∷ replicate 3 true ∷ (false ∷ true ∷ true ∷ []) ∷ replicate 3 true ∷ []
unfolding compute
pends_row = refl

-- ---- a group

-- The stamp of the last second of 2107, as a record.
abbrev pub stamped : Bytes
stamped i = pick (eqb i 0) 0x54 (pick (ltb i 14) 0 (get_or (0x7D ∷ 0xBF ∷ 0x9F ∷ 0xFF ∷ []) (i - 14) 0))

abbrev pub last_stamp : ℕ
last_stamp = 0xFF9FBF7D

-- The create of A in a slot, with this count, its stamp, and what stands after that.
abbrev pub group : ℕ → ℕ → Bytes → Bytes
group count slot t j =
    pick (ltb j 32) (pick (eqb j 0) 65 (pick (ltb j 11) 32 (get_or (32 ∷ count ∷ 1 ∷ 0 ∷ 0 ∷ 0 ∷ 0 ∷ slot ∷ []) (j - 11) 0)))
    (pick (ltb j 64) (stamped (j - 32)) (t (j - 64)))

-- n characters, each 0x6161.
abbrev pub text : ℕ → Bytes
text n i = pick (ltb i (2 * n)) 97 0

abbrev pub A : ℕ → Entry
A s = record { slot = s; name = name_in (short 65 0x20); attributes = 0x20 }

-- The records of 17 characters in slot 2: the main record, the stamp, 16 of them, the last one and zeros.
encode_row : map (encode (with_text (Create (A 2) 2 last_stamp) (text 17))) (range 0 512) ≡ map (group 2 2 (text 17)) (range 0 512)
unfolding compute
encode_row = refl

-- How many records a group has: of a plain create, of a rename; of 1, 16, 17, 207 and 208 characters.
records_row : group_records (plain (Create (A 2) 0 0)) ∷ group_records (plain (Rename (A 2) 0 0 0 3 (A 2).name))
    ∷ map (λ n. group_records (with_text (Create (A 16) (long_slots n) 0) (text n))) (1 ∷ 16 ∷ 17 ∷ 207 ∷ 208 ∷ [])
    ≡ 2 ∷ 2 ∷ 3 ∷ 3 ∷ 4 ∷ 15 ∷ 15 ∷ []
unfolding compute
records_row = refl

-- The commit mark of 17 characters: four records begin 0xE5, and no byte else changes.
commit_row : map (committed 4 (group 2 2 (text 17))) (0 ∷ 1 ∷ 32 ∷ 33 ∷ 46 ∷ 64 ∷ 65 ∷ 96 ∷ 97 ∷ 98 ∷ 128 ∷ [])
    ≡ 0xE5 ∷ 32 ∷ 0xE5 ∷ 0 ∷ 0x7D ∷ 0xE5 ∷ 97 ∷ 0xE5 ∷ 97 ∷ 0 ∷ 0 ∷ []
unfolding compute
commit_row = refl

-- What RECORD says of a group, among 64 slots of which slot 40 is the lowest beginning 0.
abbrev pub taken : Bytes → Bool
taken b = group_ok 64 40 b

-- One character, in slots 1, 40 and 41; slot 0 has none before it.
one_taken : map (λ s. taken (group 1 s (text 1))) (0 ∷ 1 ∷ 40 ∷ 41 ∷ []) ≡ false ∷ true ∷ true ∷ false ∷ []
unfolding compute
one_taken = refl

-- As many characters as the count of slots needs: none, 13, 14; 13, 14, 26, 27; 195, 196, 208, 209; a count of 17.
many_taken : map (λ n. taken (group 1 30 (text n))) (0 ∷ 13 ∷ 14 ∷ []) ++ map (λ n. taken (group 2 30 (text n))) (13 ∷ 14 ∷ 26 ∷ 27 ∷ [])
    ++ map (λ n. taken (group 16 30 (text n))) (195 ∷ 196 ∷ 208 ∷ 209 ∷ 224 ∷ []) ++ map (λ n. taken (group 17 30 (text n))) (208 ∷ 209 ∷ [])
    ≡ false ∷ true ∷ false ∷ false ∷ true ∷ true ∷ false ∷ false ∷ true ∷ true ∷ false ∷ false ∷ false ∷ false ∷ []
unfolding compute
many_taken = refl

-- 16 slots before slot 16, and before slot 15.
high_taken : map (λ s. taken (group 16 s (text 208))) (15 ∷ 16 ∷ []) ≡ false ∷ true ∷ []
unfolding compute
high_taken = refl

-- After one character: 47, 31, 32; a byte after the zero, the last byte of the sector; the high byte of a second character.
abbrev after_one : List ℕ → Bool
after_one bs = taken (group 1 1 (bytes (97 ∷ 0 ∷ bs)))

after_taken : map after_one ((47 ∷ 0 ∷ []) ∷ (31 ∷ 0 ∷ []) ∷ (32 ∷ 0 ∷ []) ∷ (0 ∷ 0 ∷ 98 ∷ []) ∷ (0 ∷ 0 ∷ 0 ∷ 1 ∷ []) ∷ (replicate 445 0 ++ (1 ∷ []))
    ∷ (0 ∷ 1 ∷ []) ∷ []) ≡ false ∷ false ∷ true ∷ false ∷ false ∷ false ∷ true ∷ []
unfolding compute
after_taken = refl

-- A plain create: nothing after its stamp, a byte that begins record 2, and one that does not.
plain_taken : map (λ bs. taken (group 0 1 (bytes bs))) ([] ∷ (97 ∷ []) ∷ (0 ∷ 97 ∷ []) ∷ []) ≡ true ∷ false ∷ false ∷ []
unfolding compute
plain_taken = refl

-- The rename of A from slot 10 to B in slot 11: its two records; none but the first; the second a committed one; a byte after them.
abbrev pair : List ℕ → Bytes
pair bs j =
    pick (ltb j 32) (patch 1 5 13 (group 0 10 zeros) j) (pick (ltb j 64) (patch 1 0 13 (group 0 11 zeros) (j - 32)) (get_or bs (j - 64) 0))

pair_taken : map taken (patch 1 66 32 (pair []) ∷ patch 8 0 32 (patch 24 0 40 (pair [])) ∷ patch 1 0xE5 32 (pair []) ∷ pair (0 ∷ 1 ∷ []) ∷ [])
    ≡ true ∷ false ∷ false ∷ false ∷ []
unfolding compute
pair_taken = refl

-- ---- the lowest slot beginning 0

-- Slots 0 to 4 are live, of 16. A rename from 5 to 6, and from 4 to 6; creates in 5 and 6, in 6 and 7, in 5 to 7; a delete of 5 to 7; each other
-- operation in slot 5, and one in slot 4.
abbrev five : Bytes
five k = pick (ltb k 5) 65 0

ends_row : map (λ o. end_past o 16 five) (Rename (A 5) 0 0 0 6 (A 6).name ∷ Rename (A 4) 0 0 0 6 (A 6).name ∷ Create (A 6) 1 0 ∷ Create (A 7) 1 0
    ∷ Create (A 7) 2 0 ∷ Delete (A 7) 2 0 0 ∷ Create (A 5) 0 0 ∷ Update (A 5) 0 0 0 0 ∷ Truncate (A 5) 0 0 0 0 ∷ Replace (A 5) 0 0 0 0
    ∷ Update (A 4) 0 0 0 0 ∷ [])
    ≡ 7 ∷ 5 ∷ 7 ∷ 5 ∷ 8 ∷ 8 ∷ 6 ∷ 6 ∷ 6 ∷ 6 ∷ 5 ∷ []
unfolding compute
ends_row = refl

-- A log of two sectors, which begins at sector 65.
abbrev found : Bytes → Bytes → Pending
found b more =
    pending_in 16 (λ s. end_past (operation_of (record_at s)) 16 five) (record { sector = 65; sectors = 2 }) (λ s. pick (eqb s 0) b (pick (eqb s 1) more zeros))

-- A long name in slots 5 and 6, which never were used; in 5 to 7; in 6 and 7, which leaves slot 5 beginning 0 before them.
held_row : found (group 1 6 (text 1)) zeros ∷ found (group 2 7 (text 14)) zeros ∷ found (group 1 7 (text 1)) zeros ∷ []
    ≡ Pending.Held 65 ∷ Pending.Held 65 ∷ Pending.Broken ∷ []
unfolding compute
held_row = refl

-- Beside it in the log: a committed group of a long name; records after one that begins 0; a second group.
beside_row : found (group 1 6 (text 1)) (led 0xE5 2 1) ∷ found (group 1 6 (text 1)) (led 0 2 1) ∷ found (group 1 6 (text 1)) (group 1 6 (text 1))
    ∷ found (led 0xE5 2 1) (group 1 6 (text 1)) ∷ found (led 0xE5 2 1) (led 0xE5 1 1) ∷ []
    ≡ Pending.Held 65 ∷ Pending.Broken ∷ Pending.Broken ∷ Pending.Held 66 ∷ Pending.Nothing ∷ []
unfolding compute
beside_row = refl

-- ---- the listing

-- One line, pending and committed, whatever the characters' records begin with. After a record 0 that begins 0 all others are listed.
listing_row : (log_text (span 512 (group 2 2 (text 17))) ≡ ascii "log 1 sectors\n0 0 create pending A slot 2 first 0 from 0 size 0\n")
    × (log_text (span 512 (committed 4 (group 2 2 (text 17)))) ≡ ascii "log 1 sectors\n0 0 create committed ? slot 2 first 0 from 0 size 0\n")
    × (log_text (span 512 (patch 1 0 0 (group 2 2 (bytes (97 ∷ 98 ∷ [])))))
    ≡ ascii "log 1 sectors\n0 1 part pending T???????.??? slot 0 first 0 from 0 size 0\n0 2 part pending ab??????.??? slot 0 first 0 from 0 size 0\n")
unfolding compute
listing_row = (refl, refl, refl)
