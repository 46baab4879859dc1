-- Create with a long name, on the card of `LongRows`: 64 root slots in sectors 3 to 6, a log in 7 and 8. By computation; the numbers are worked
-- out by hand. The edits in must-fail are refused here.
use Prim.Native.Nat.{ℕ, ◌+◌, ◌*◌, ◌%◌}
use mathlib.Core.Path.{◌≡◌, refl}
use mathlib.Core.List.{List, [], ◌∷◌, ◌++◌, map}
use mathlib.Core.Bool.{◌||◌}
use lib.Dec.{ltb, eqb}
use lib.ListN.{get_or, replicate}
use Rattle.model.specs.Bytes.{Bytes, Span, pick, patch, zeros}
use Rattle.model.specs.Scan.{range}
use Rattle.model.specs.Sector.{Card, Store, store, put, after}
use Rattle.model.specs.Root.{slot_at}
use Rattle.model.specs.Ground.{Answer}
use Rattle.model.specs.Outcome.{Outcome, Refused, Done}
use Rattle.model.specs.declared.Ground.TheVariants as Ground
use Rattle.operations.specs.Program.{Program, stores}
use Rattle.operations.specs.Plan.{no_text}
use Rattle.operations.specs.Calls.{run_end, create_on, create_long_on, delete_on, rename_on, creates, creates_long, changed_by}
use Rattle.operations.specs.Outcome.{made, outcome, largest, outcome_number}
use Rattle.operations.specs.Reading.{long_name_on, filled_outcome, buffer_after}
use Rattle.operations.proofs.LongRows.{l, v, letter, span, with_root, sectors, bytes_at, finished, recovery}
use Rattle.operations.proofs.Compute.{compute}

-- A text of n characters; its bytes are 100, 101, .. 199, and so on.
abbrev text : ℕ → Span
text n = record { size = 2 * n; byte = λ i. 100 + i % 100 }

abbrev text_of_bytes : List ℕ → ℕ → Span
text_of_bytes bs n = record { size = n; byte = λ i. get_or bs i 0 }

-- Its bytes are 1, 2, 3 and 4: the time is the first two, the date the others.
abbrev stamp : ℕ
stamp = 0x04030201

-- A card with a file Z in each of the first n slots, and slots never used after them.
abbrev files : ℕ → Card
files n = with_root (λ k. pick (ltb k n) (letter 90) zeros)

abbrev fourteen : Card
fourteen = files 14

abbrev deleted : Bytes
deleted j = pick (eqb j 0) 0xE5 0

-- ---- B with 14 characters: entries in slots 14 and 15, B in slot 16, on both sides of the border of sectors 3 and 4

abbrev creation : Answer Program
creation = create_long_on v fourteen (span 66) (text 14) stamp

abbrev stored : ℕ → List Store
stored limit = made limit creation

abbrev created : Card
created = after (stored largest) fourteen

-- What slots 13 to 17 begin with.
abbrev begins : Card → List ℕ
begins c = map (λ k. slot_at l c k 0) (range 13 5)

-- B and its blanks.
abbrev B : List ℕ
B = 66 ∷ replicate 10 32

-- The slots of the name. 66; turned 33, and 32; turned 160, and 32; ..: the checksum of B is 192.
abbrev filled : List (List ℕ)
filled =
    (0x42 ∷ 126 ∷ 127 ∷ 0 ∷ 0 ∷ replicate 6 0xFF ++ (0x0F ∷ 0 ∷ 192 ∷ replicate 12 0xFF ++ (0 ∷ 0 ∷ replicate 4 0xFF)))
    ∷ (1 ∷ range 100 10 ++ (0x0F ∷ 0 ∷ 192 ∷ range 110 12 ++ (0 ∷ 0 ∷ 122 ∷ 123 ∷ 124 ∷ 125 ∷ [])))
    ∷ (B ++ (0x20 ∷ 0 ∷ 0 ∷ 1 ∷ 2 ∷ 3 ∷ 4 ∷ 3 ∷ 4 ∷ 0 ∷ 0 ∷ 1 ∷ 2 ∷ 3 ∷ 4 ∷ replicate 6 0)) ∷ []

abbrev slots : Card → List (List ℕ)
slots c = map (λ k. map (slot_at l c k) (range 0 32)) (14 ∷ 15 ∷ 16 ∷ [])

-- Group, both root sectors, commit.
creation_row : (sectors (stored largest) ≡ 7 ∷ 3 ∷ 4 ∷ 7 ∷ []) × (begins created ≡ 90 ∷ 0x42 ∷ 1 ∷ 66 ∷ 0 ∷ []) × (slots created ≡ filled)
unfolding compute
creation_row = (refl, refl, refl)

-- The main record: attributes, count 2, operation 1, slot 16; the stamp; then 28 bytes of characters, and zeros. Committed, all three records begin
-- 0xE5.
abbrev main : List ℕ
main = replicate 10 32 ++ (0x20 ∷ 2 ∷ 1 ∷ 0 ∷ 0 ∷ 0 ∷ 0 ∷ 16 ∷ replicate 13 0)

abbrev stamped : List ℕ
stamped = replicate 13 0 ++ (1 ∷ 2 ∷ 3 ∷ 4 ∷ replicate 14 0)

group_row : (map (bytes_at (stored largest) 0) (range 0 512)
    ≡ 66 ∷ main ++ (0x54 ∷ stamped ++ (range 100 28 ++ replicate 420 0)))
    × (map (bytes_at (stored largest) 3) (range 0 512)
    ≡ 0xE5 ∷ main ++ (0xE5 ∷ stamped ++ (0xE5 ∷ range 101 27 ++ replicate 420 0)))
unfolding compute
group_row = (refl, refl)

-- Cut before the group's store, nothing has happened; cut at it and between the root stores, all of it is done.
abbrev cut : ℕ → Card
cut limit = after (stored limit) fourteen

abbrev recovered : Card → Card
recovered c = finished (recovery c) c

cut_rows : (map (λ k. begins (cut k)) (0 ∷ 1 ∷ 2 ∷ 3 ∷ [])
    ≡ (90 ∷ 0 ∷ 0 ∷ 0 ∷ 0 ∷ []) ∷ (90 ∷ 0 ∷ 0 ∷ 0 ∷ 0 ∷ []) ∷ (90 ∷ 0x42 ∷ 1 ∷ 0 ∷ 0 ∷ []) ∷ (90 ∷ 0x42 ∷ 1 ∷ 66 ∷ 0 ∷ []) ∷ [])
    × (map (λ k. begins (recovered (cut k))) (0 ∷ 1 ∷ 2 ∷ 3 ∷ []) ≡ (90 ∷ 0 ∷ 0 ∷ 0 ∷ 0 ∷ []) ∷ replicate 3 (90 ∷ 0x42 ∷ 1 ∷ 66 ∷ 0 ∷ []))
    × (map (λ k. sectors (stores (recovery (cut k)))) (0 ∷ 1 ∷ 2 ∷ 3 ∷ []) ≡ [] ∷ replicate 3 (3 ∷ 4 ∷ 7 ∷ []))
unfolding compute
cut_rows = (refl, refl, refl)

-- Then the slots have the bytes of the finished call.
recovered_row : map (λ k. slots (recovered (cut k))) (1 ∷ 2 ∷ []) ≡ filled ∷ filled ∷ []
unfolding compute
recovered_row = refl

-- ---- read back, and deleted

-- A lent buffer of 0xAA: its first three bytes, and the four about the end of 28.
abbrev lent : Card → ℕ → List ℕ
lent c room = map (buffer_after (long_name_on v c (span 66) room) (λ j. 0xAA)) (0 ∷ 1 ∷ 2 ∷ 26 ∷ 27 ∷ 28 ∷ 29 ∷ [])

abbrev length_read : Card → Span → ℕ → Outcome
length_read c n room = filled_outcome (long_name_on v c n room)

-- As many whole characters as fit; how many there are in any case.
read_row : (map (lent created) (0 ∷ 1 ∷ 3 ∷ 28 ∷ 100 ∷ [])
    ≡ replicate 7 0xAA ∷ replicate 7 0xAA ∷ (100 ∷ 101 ∷ replicate 5 0xAA) ∷ replicate 2 (100 ∷ 101 ∷ 102 ∷ 126 ∷ 127 ∷ 0xAA ∷ 0xAA ∷ []))
    × (map (length_read created (span 66)) (0 ∷ 1 ∷ 3 ∷ 28 ∷ 100 ∷ []) ≡ replicate 5 (Done 14))
unfolding compute
read_row = (refl, refl)

-- A card with byte `at` of sector s changed to b.
abbrev altered : ℕ → ℕ → ℕ → Card → Card
altered s b at c = put c (store s (patch 1 b at (c s)))

-- The last entry without 0x40: none belong. The slot is a directory's: its name is read too. No long entries; no such name; no name.
others_row : length_read (altered 3 2 448 created) (span 66) 100 ∷ length_read (altered 4 0x10 11 created) (span 66) 100 ∷ length_read created (span 90) 100
    ∷ length_read created (span 67) 100 ∷ length_read created (text_of_bytes (66 ∷ []) 10) 100 ∷ []
    ≡ Done 0 ∷ Done 14 ∷ Done 0 ∷ Refused Ground.Absent ∷ Refused Ground.Name ∷ []
unfolding compute
others_row = refl

-- A delete marks all three slots, and so does a rename, whose new slot is none of them.
abbrev changed : Card → Answer Program → List (List ℕ)
changed c p = sectors (made largest p) ∷ begins (after (made largest p) c) ∷ []

deletion_row : changed created (delete_on v created (span 66)) ++ changed created (rename_on v created (span 66) (span 67))
    ≡ (8 ∷ 3 ∷ 4 ∷ 8 ∷ []) ∷ (90 ∷ 0xE5 ∷ 0xE5 ∷ 0xE5 ∷ 0 ∷ []) ∷ (8 ∷ 3 ∷ 4 ∷ 8 ∷ []) ∷ (90 ∷ 0xE5 ∷ 0xE5 ∷ 0xE5 ∷ 67 ∷ []) ∷ []
unfolding compute
deletion_row = refl

-- ---- the lowest run

-- A deleted slot, a file, two deleted slots and those never used: for no text, 1, 13, 14 and 208 characters the slot of the short name.
abbrev joined : Card
joined = with_root (λ k. pick (eqb k 12 || eqb k 14 || eqb k 15) deleted (pick (ltb k 14) (letter 90) zeros))

joined_row : (map (λ n. run_end l joined (text n)) (0 ∷ 1 ∷ 13 ∷ 14 ∷ 208 ∷ []) ≡ 12 ∷ 15 ∷ 15 ∷ 16 ∷ 30 ∷ [])
    × (map (λ n. sectors (made largest (create_long_on v joined (span 66) (text n) stamp))) (13 ∷ 14 ∷ []) ≡ (7 ∷ 3 ∷ 7 ∷ []) ∷ (7 ∷ 3 ∷ 4 ∷ 7 ∷ []) ∷ [])
    × (map (changed_by v joined) (creates (span 66) 0 ∷ creates_long (span 66) (text 1) 0 ∷ creates_long (span 66) (text 14) 0 ∷ [])
    ≡ (12 ∷ []) ∷ (14 ∷ 15 ∷ []) ∷ (14 ∷ 15 ∷ 16 ∷ []) ∷ [])
unfolding compute
joined_row = (refl, refl, refl)

abbrev answer : Answer Program → Outcome
answer p = outcome largest p

-- Every second slot is free, but no two together; two free ones at the end, for 13 characters and not for 14; none.
abbrev holes : Card
holes = with_root (λ k. pick (eqb (k % 2) 0) (letter 90) deleted)

full_row : answer (create_long_on v holes (span 66) (text 1) stamp) ∷ answer (create_on v holes (span 66) stamp)
    ∷ answer (create_long_on v (files 62) (span 66) (text 13) stamp) ∷ answer (create_long_on v (files 62) (span 66) (text 14) stamp)
    ∷ answer (create_on v (files 64) (span 66) stamp) ∷ []
    ≡ Refused Ground.Rootfull ∷ Done 3 ∷ Done 3 ∷ Refused Ground.Rootfull ∷ Refused Ground.Rootfull ∷ []
unfolding compute
full_row = refl

-- 208 characters: seventeen slots, 14 to 30, and a group of fifteen records.
abbrev longest : List Store
longest = made largest (create_long_on v fourteen (span 66) (text 208) stamp)

abbrev longest_seen : List Store → Card → List (List ℕ)
longest_seen ss c =
    sectors ss ∷ map (λ r. bytes_at ss 3 (32 * r)) (range 0 16) ∷ map (λ k. slot_at l c k 0) (range 13 19)
    ∷ map (λ k. slot_at l c k 31) (range 14 16) ∷ []

longest_row : (longest_seen longest (after longest fourteen)
    ≡ (7 ∷ 3 ∷ 4 ∷ 7 ∷ []) ∷ (replicate 15 0xE5 ++ (0 ∷ []))
    ∷ (90 ∷ 0x50 ∷ 15 ∷ 14 ∷ 13 ∷ 12 ∷ 11 ∷ 10 ∷ 9 ∷ 8 ∷ 7 ∷ 6 ∷ 5 ∷ 4 ∷ 3 ∷ 2 ∷ 1 ∷ 66 ∷ 0 ∷ [])
    ∷ (115 ∷ 189 ∷ 163 ∷ 137 ∷ 111 ∷ 185 ∷ 159 ∷ 133 ∷ 107 ∷ 181 ∷ 155 ∷ 129 ∷ 103 ∷ 177 ∷ 151 ∷ 125 ∷ []) ∷ [])
    × (length_read (after longest fourteen) (span 66) 0 ≡ Done 208)
unfolding compute
longest_row = (refl, refl)

-- ---- what is refused

-- C on the card that has B: with B's characters; the first 13 of them; 14 others; none. B with other characters, and with none.
taken_row : map answer (create_long_on v created (span 67) (text 14) stamp ∷ create_long_on v created (span 67) (text 13) stamp
    ∷ create_long_on v created (span 67) (record { size = 28; byte = λ i. 101 + i }) stamp ∷ create_on v created (span 67) stamp
    ∷ create_long_on v created (span 66) (text 13) stamp ∷ create_on v created (span 66) stamp ∷ [])
    ≡ Refused Ground.Exists ∷ Done 3 ∷ Done 3 ∷ Done 3 ∷ Refused Ground.Exists ∷ Refused Ground.Exists ∷ []
unfolding compute
taken_row = refl

-- C with B's characters, where B's run is broken, where its slot has bit 0x08, where it is a directory's. C named Z, beside a file Z.
broken_row : map (λ c. answer (create_long_on v c (span 67) (text 14) stamp)) (altered 3 2 448 created ∷ altered 4 0x28 11 created ∷ altered 4 0x10 11 created
    ∷ [])
    ++ (answer (create_long_on v created (span 67) (text_of_bytes (90 ∷ 0 ∷ []) 2) stamp) ∷ [])
    ≡ Done 3 ∷ Done 3 ∷ Refused Ground.Exists ∷ Done 3 ∷ []
unfolding compute
broken_row = refl

-- NAME, then LONGNAME, then EXISTS, then ROOTFULL, as numbers: a name of 10 bytes with an odd text; B, which is taken, with an odd text, no
-- character, 209, one that is forbidden; B with a proper one; Z and C where no slot is free.
numbers_row : map (λ p. outcome_number (answer p)) (create_long_on v created (text_of_bytes (66 ∷ []) 10) (text_of_bytes (97 ∷ 0 ∷ 97 ∷ []) 3) stamp
    ∷ create_long_on v created (span 66) (text_of_bytes (97 ∷ 0 ∷ 97 ∷ []) 3) stamp ∷ create_long_on v created (span 66) no_text stamp
    ∷ create_long_on v created (span 66) (text 209) stamp ∷ create_long_on v created (span 66) (text_of_bytes (97 ∷ 0 ∷ 63 ∷ 0 ∷ []) 4) stamp
    ∷ create_long_on v created (span 66) (text 14) stamp ∷ create_long_on v (files 64) (span 90) (text 1) stamp
    ∷ create_long_on v (files 64) (span 67) no_text stamp ∷ create_long_on v (files 64) (span 67) (text 1) stamp ∷ creation ∷ [])
    ≡ 34359738368 ∷ 73014444032 ∷ 73014444032 ∷ 73014444032 ∷ 73014444032 ∷ 47244640256 ∷ 47244640256 ∷ 73014444032 ∷ 51539607552 ∷ 4 ∷ []
unfolding compute
numbers_row = refl

-- A limit below four stops it.
limit_row : map (λ k. outcome_number (outcome k creation)) (0 ∷ 1 ∷ 3 ∷ 4 ∷ []) ≡ 1095216660480 ∷ 1095216660481 ∷ 1095216660483 ∷ 4 ∷ []
unfolding compute
limit_row = refl
