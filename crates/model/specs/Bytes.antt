-- Bytes by offset, and little-endian numbers of n bytes.
use Rattle.std.specs.Prelude.{ℕ, zero, suc, ◌+◌, ◌-◌, ◌*◌, ◌/◌, ◌%◌, ◌^◌, List, Bool, true, false, ◌&&◌, leb, ltb, get_or, length}

-- The first where the test holds, else the second.
abbrev pub pick : {A : Type 0} → Bool → A → A → A
pick true a b = a
pick false a b = b

-- A run of bytes: the byte at each offset.
abbrev pub Bytes : Type 0
Bytes = ℕ → ℕ

-- The bytes of a slice's list.
abbrev pub bytes_of : List ℕ → Bytes
bytes_of xs i = get_or xs i 0

-- What a call is lent: how many bytes, and the byte at each offset.
pub record Span : Type 0 where
  pub size : ℕ
  pub byte : Bytes

-- The span of a slice's list.
abbrev pub view : List ℕ → Span
view xs = record { size = length xs; byte = bytes_of xs }

-- "All numbers are little-endian": the number in the n bytes at an offset.
unfoldable pub le : ℕ → Bytes → ℕ → ℕ
le zero b at = 0
le (suc n) b at = b at + 256 * le n b (at + 1)

-- Byte k of a number.
unfoldable pub byte_of : ℕ → Bytes
byte_of v k = v / 256 ^ k % 256

-- b with its n bytes at an offset replaced by the first n of p.
unfoldable pub overlay : ℕ → Bytes → ℕ → Bytes → Bytes
overlay n p at b i = pick (leb at i && ltb i (at + n)) (p (i - at)) (b i)

-- b with the number v in its n bytes at an offset.
abbrev pub patch : ℕ → ℕ → ℕ → Bytes → Bytes
patch n v at b = overlay n (byte_of v) at b

-- No byte but zero.
abbrev pub zeros : Bytes
zeros i = 0

-- The part of a run that begins at an offset.
abbrev pub part : Bytes → ℕ → Bytes
part b at j = b (at + j)
