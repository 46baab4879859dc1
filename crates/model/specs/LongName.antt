-- The characters of a long name: the places that they have in long entries, what is written there, and what is read back.
use Rattle.std.specs.Prelude.{ℕ, zero, suc, ◌+◌, ◌-◌, ◌*◌, ◌/◌, ◌%◌, List, [], ◌∷◌, Bool, not, ltb, eqb, get_or}
use Rattle.model.specs.Bytes.{Bytes, Span, le, patch, pick, zeros}
use Rattle.model.specs.Scan.{every, any, between, first, all}
use Rattle.model.specs.Sector.{Card}
use Rattle.model.specs.Root.{Directory, slot_at, listed}
use Rattle.model.specs.Long.{order_byte, long_count}
use Rattle.model.specs.declared.Layout.{Layout}

-- "In the root each long slot has thirteen character places, at offsets 1, 3, 5, 7, 9, 14, 16, 18, 20, 22, 24, 28 and 30."
abbrev pub places : List ℕ
places = 1 ∷ 3 ∷ 5 ∷ 7 ∷ 9 ∷ 14 ∷ 16 ∷ 18 ∷ 20 ∷ 22 ∷ 24 ∷ 28 ∷ 30 ∷ []

abbrev pub place : ℕ → ℕ
place k = get_or places k 0

-- "characters of 16 bits": character q of a text.
abbrev pub character : Bytes → ℕ → ℕ
character t q = le 2 t (2 * q)

-- "Forbidden characters are those below 32 and " * / : < > ? \ |."
unfoldable pub forbidden : ℕ → Bool
forbidden c =
    any (
    between 0 31 c ∷ eqb c 34 ∷ eqb c 42 ∷ eqb c 47 ∷ eqb c 58 ∷ eqb c 60 ∷ between 62 63 c ∷ eqb c 92 ∷ eqb c 124 ∷ [])

unfoldable pub all_allowed : Bytes → ℕ → Bool
all_allowed t n = all (λ q. not (forbidden (character t q))) n

-- "1 to 208 characters": sixteen long slots.
abbrev pub most_characters : ℕ
most_characters = 208

-- How many long slots n characters need.
abbrev pub long_slots : ℕ → ℕ
long_slots n = (n + 12) / 13

-- "17 LONGNAME, the bytes lent for the characters are odd in number, the length is outside 1 to 208 or a character is forbidden": a text
-- that is none of these.
unfoldable pub text_ok : Span → Bool
text_ok t = every (eqb (t.size % 2) 0 ∷ between 1 most_characters (t.size / 2) ∷ all_allowed t.byte (t.size / 2) ∷ [])

-- ---- writing

-- "A name that doesn't fill its last slot ends with one zero and then 0xFFFF": what is written for character q of a text of n.
unfoldable pub spelled : Bytes → ℕ → ℕ → ℕ
spelled t n q = pick (ltb q n) (character t q) (pick (eqb q n) 0 0xFFFF)

-- The first k places of an entry, filled.
unfoldable pub fill : (ℕ → ℕ) → Bytes → ℕ → Bytes
fill f b zero = b
fill f b (suc k) = patch 2 (f k) (place k) (fill f b k)

-- An entry with this checksum and this order byte: attributes 0x0F, thirteen characters, and "bytes 12, 26 and 27 are 0".
unfoldable pub long_entry : ℕ → ℕ → (ℕ → ℕ) → Bytes
long_entry sum order f = fill f (patch 1 order 0 (patch 1 0x0F 11 (patch 1 sum 13 zeros))) 13

-- Entry i of the long name that is a text of n characters: the first is nearest to the short name's slot.
unfoldable pub name_entry : ℕ → Bytes → ℕ → ℕ → Bytes
name_entry sum t n i = long_entry sum (order_byte (long_slots n) i) (λ k. spelled t n (13 * (i - 1) + k))

-- ---- reading back

-- Byte i of the characters in the entries before slot s, and character q of them.
abbrev pub long_byte : Directory → ℕ → Bytes
long_byte d s i = d (s - (i / 26 + 1)) (place (i / 2 % 13) + i % 2)

abbrev pub long_character : Directory → ℕ → ℕ → ℕ
long_character d s q = le 2 (long_byte d s) (2 * q)

-- "the characters before the first zero .. how many there are, 0 without long entries"
unfoldable pub long_length : Directory → ℕ → ℕ
long_length d s = first (λ q. eqb (long_character d s q) 0) (13 * long_count d s)

-- "a live slot without bit 0x08 whose long name, as read back, has the same characters"
unfoldable pub has_text : Span → Directory → ℕ → Bool
has_text t d s =
    every (
    listed (d s) ∷ eqb (long_length d s) (t.size / 2)
    ∷ all (λ q. eqb (long_character d s q) (character t.byte q)) (t.size / 2) ∷ [])

-- The lowest slot that has it; as many as there are slots where none has.
unfoldable pub find_text : Layout → Card → Span → ℕ
find_text l c t = first (λ k. has_text t (slot_at l c) k) l.entries
