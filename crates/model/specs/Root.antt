-- The root directory: slots, names, and the slot of a name.
use Rattle.std.specs.Prelude.{ℕ, ◌+◌, ◌-◌, ◌*◌, ◌/◌, ◌%◌, [], ◌∷◌, Bool, ◌&&◌, ◌||◌, not, leb, ltb, eqb}
use Rattle.model.specs.Bytes.{Bytes, Span, le, part, pick}
use Rattle.model.specs.Scan.{every, any, between, first, all, all_from}
use Rattle.model.specs.Sector.{Card}
use Rattle.model.specs.declared.Layout.{Layout}
use Rattle.model.specs.declared.Name.{Name}
use Rattle.model.specs.declared.Entry.{Entry}
use Rattle.model.specs.declared.File.{File}
use Rattle.model.specs.declared.Lookup.{Lookup}

-- The bytes of each slot.
abbrev pub Directory : Type 0
Directory = ℕ → Bytes

-- Root sector r of a card, and "a root slot is 32 bytes": slot k.
abbrev pub root_place : Layout → ℕ → ℕ
root_place l r = l.root + r

unfoldable pub slot_at : Layout → Card → Directory
slot_at l c k = part (c (root_place l (k / 16))) (32 * (k % 16))

-- "name 0 (11), attributes 11 (1), first cluster 26 (2), size 28 (4)"
abbrev pub name_in : Bytes → Name
name_in b = record { stem = le 8 b 0; extension = le 3 b 8 }

abbrev pub attributes : Bytes → ℕ
attributes b = b 11

abbrev pub first_cluster : Bytes → ℕ
first_cluster b = le 2 b 26

abbrev pub file_size : Bytes → ℕ
file_size b = le 4 b 28

-- "First byte 0xE5 is a deleted slot, 0 is free with all slots after it. The others are live"
unfoldable pub vacant : Bytes → Bool
vacant b = eqb (b 0) 0 || eqb (b 0) 0xE5

-- "Attribute bit 0x08 marks labels and long-name entries"; "Bit 0x10 is a directory."
unfoldable pub is_label : Bytes → Bool
is_label b = eqb (attributes b / 8 % 2) 1

unfoldable pub is_directory : Bytes → Bool
is_directory b = eqb (attributes b / 16 % 2) 1

-- "16 LOCKED, that slot has attribute bit 0x01": the read-only mark.
unfoldable pub is_locked : Bytes → Bool
is_locked b = eqb (attributes b % 2) 1

-- A live slot without bit 0x08: only these are sought by name, and listed.
unfoldable pub listed : Bytes → Bool
listed b = not (vacant b) && not (is_label b)

-- A root file: a live slot with bits 0x08 and 0x10 clear.
unfoldable pub is_file : Bytes → Bool
is_file b = listed b && not (is_directory b)

-- "capital letters, digits and ! # $ % & ' ( ) - @ ^ _ ` { } ~"
unfoldable pub name_byte : ℕ → Bool
name_byte b =
    any (
    eqb b 33 ∷ between 35 41 b ∷ eqb b 45 ∷ between 48 57 b ∷ between 64 90 b ∷ between 94 96 b
    ∷ eqb b 123 ∷ eqb b 125 ∷ eqb b 126 ∷ [])

-- "each part filled up with trailing spaces": after the name bytes that the first n begin with, only spaces.
unfoldable pub stem_length : ℕ → Bytes → ℕ
stem_length n b = first (λ i. not (name_byte (b i))) n

unfoldable pub padded : ℕ → Bytes → Bool
padded n b = let k = stem_length n b in all (λ i. ltb i k || eqb (b i) 32) n

-- "A name is 8 and 3 bytes, the first byte never a space."
unfoldable pub name_ok : Span → Bool
name_ok s = every (eqb s.size 11 ∷ padded 8 s.byte ∷ padded 3 (part s.byte 8) ∷ not (eqb (s.byte 0) 32) ∷ [])

unfoldable pub same_name : Name → Name → Bool
same_name x y = eqb x.stem y.stem && eqb x.extension y.extension

unfoldable pub bears : Name → Bytes → Bool
bears name b = listed b && same_name (name_in b) name

-- The lowest slot of a card that a test holds of; as many as there are slots where there is none.
unfoldable pub lowest_slot : Layout → Card → (Bytes → Bool) → ℕ
lowest_slot l c p = first (λ k. p (slot_at l c k)) l.entries

-- "A name means its lowest matching slot."
unfoldable pub find : Layout → Card → Name → ℕ
find l c name = lowest_slot l c (bears name)

-- "New slots are the lowest beginning 0 or 0xE5": the lowest run of m of them.
unfoldable pub free_run : Layout → Card → ℕ → ℕ
free_run l c m = first (λ k. all_from (λ i. vacant (slot_at l c i)) k m) (l.entries + 1 - m)

abbrev pub free_slot : Layout → Card → ℕ
free_slot l c = free_run l c 1

-- What each slot begins with; the lowest slot beginning 0 among the first n, and the rule that all after it begin so.
abbrev pub first_bytes : Layout → Card → Bytes
first_bytes l c k = slot_at l c k 0

unfoldable pub end_slot : ℕ → Bytes → ℕ
end_slot n b = first (λ k. eqb (b k) 0) n

unfoldable pub root_ok : ℕ → Bytes → Bool
root_ok n b = let z = end_slot n b in all (λ k. leb k z || eqb (b k) 0) n

-- The entry and the file in a slot.
unfoldable pub entry_at : ℕ → Bytes → Entry
entry_at s b = record { slot = s; name = name_in b; attributes = attributes b }

unfoldable pub file_at : Layout → Card → ℕ → File
file_at l c s =
    let b = slot_at l c s in
    record { entry = entry_at s b; first = first_cluster b; size = file_size b }

-- What slot s holds, where it is one that a name means: a directory, or a file with whether it is locked. Past the last slot, nothing.
unfoldable pub slot_holds : Layout → Card → ℕ → Lookup
slot_holds l c s =
    let b = slot_at l c s in
    pick (ltb s l.entries) (pick (is_directory b) Lookup.Directory (Lookup.File (file_at l c s) (is_locked b))) Lookup.Absent

-- "Finding a name should also say whether it is locked."
unfoldable pub lookup : Layout → Card → Name → Lookup
lookup l c name = slot_holds l c (find l c name)
