-- The card of a slice: bytes and numbers of a sector, and the card of a part.
use mathlib.Core.Path.{◌≡◌, ap, ◌∙◌, fun_ext}
use mathlib.Core.List.{List}
use Prim.Native.Nat.{ℕ, ◌+◌, ◌*◌, ◌/◌, ◌%◌, ◌<◌, ◌≤◌}
use native.Mathlib.Omega.{arith}
use native.Mathlib.Nat.{mod-eq_of_lt}
use lib.ListN.{get_or, take, drop}
use lib.Seq.{get_or-take, get_or-drop}
use Rattle.model.specs.Bytes.{Bytes, le, bytes_of, part}
use Rattle.model.specs.Sector.{card_of, card_byte}
use Rattle.model.proofs.Numbers.{le_shift}

-- Byte j of sector s
pub byte_in : (xs : List ℕ) (s j : ℕ) → j < 512 → card_of xs s j ≡ get_or xs (512 * s + j) 0
byte_in xs s j h = ap (λ (z : ℕ). get_or xs (512 * s + z) 0) (mod-eq_of_lt h)

-- A number in the bytes from j on.
pub le_in : (n : ℕ) (xs : List ℕ) (s j : ℕ) → j + n ≤ 512 → le n (card_of xs s) j ≡ le n (bytes_of xs) (512 * s + j)
le_in n xs s j h = le_shift n (card_of xs s) (bytes_of xs) j (512 * s + j)
    (λ k l. byte_in xs s (j + k) (omega arith) ∙ ap (λ (z : ℕ). get_or xs z 0) (omega arith))

-- The sectors of a part that starts at sector a.
pub part_sector : (xs : List ℕ) (a k s : ℕ) → 512 * s + 512 ≤ k → card_of (take k (drop (512 * a) xs)) s ≡ card_of xs (a + s)
part_sector xs a k s h =
    fun_ext (λ j. get_or-take k (drop (512 * a) xs) (512 * s + j % 512) 0 (omega arith) ∙ get_or-drop (512 * a) xs (512 * s + j % 512) 0
    ∙ ap (λ (z : ℕ). get_or xs z 0) (omega arith))

-- A number of a part.
pub le_part : (n : ℕ) (b : Bytes) (at i : ℕ) → le n (part b at) i ≡ le n b (at + i)
le_part n b at i = le_shift n (part b at) b i (at + i) (λ k l. ap b (omega arith))

pub part_zero : (b : Bytes) → part b 0 ≡ b
part_zero b = fun_ext (λ j. ap b (omega arith))

-- Byte i of the card of a slice is byte i of the slice: what is said of the card after a call says every byte of the window.
pub card_byte_of : (xs : List ℕ) (i : ℕ) → card_byte (card_of xs) i ≡ get_or xs i 0
card_byte_of xs i = byte_in xs (i / 512) (i % 512) (omega arith) ∙ ap (λ (z : ℕ). get_or xs z 0) (omega arith)
