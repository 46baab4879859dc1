-- A record of a table, read through its sector; and its line, made up of its parts.
use Prim.Native.Nat.{ℕ, ◌+◌, ◌*◌, ◌/◌, ◌%◌, ◌<◌, ◌≤◌}
use native.Mathlib.Omega.{arith}
use mathlib.Core.Path.{◌≡◌, sym, ap, ◌∙◌}
use mathlib.Core.List.{List, ◌++◌, append_assoc}
use Rattle.model.specs.Bytes.{Bytes, le, bytes_of, part}
use Rattle.model.specs.Sector.{card_of}
use Rattle.model.specs.Text.{ascii, line}
use Rattle.model.specs.Listing.{shown_name, record_line}
use Rattle.model.proofs.Sectors.{byte_in, le_in, le_part}
use Rattle.listing_line.specs.Words.{place_text, operation_text, state_text, head_text, numbers, slot_text, size_text}

module _ (xs : List ℕ) (k : ℕ) where
  pub record_byte : (j : ℕ) → j < 32 → card_of xs (k / 16) (32 * (k % 16) + j) ≡ part (bytes_of xs) (32 * k) j
  record_byte j h = byte_in xs (k / 16) (32 * (k % 16) + j) (omega arith) ∙ ap (bytes_of xs) (omega arith)

  pub record_number : (n j : ℕ) → j + n ≤ 32 → le n (card_of xs (k / 16)) (32 * (k % 16) + j) ≡ le n (part (bytes_of xs) (32 * k)) j
  record_number n j h =
      let e : 512 * (k / 16) + (32 * (k % 16) + j) ≡ 32 * k + j = omega arith in
      le_in n xs (k / 16) (32 * (k % 16) + j) (omega arith) ∙ ap (le n (bytes_of xs)) e ∙ sym (le_part n (bytes_of xs) (32 * k) j)

pub line_is : (s r : ℕ) (b : Bytes) → record_line s r b ≡ head_text s r b ++ (shown_name b ++ (slot_text (numbers b) ++ size_text (numbers b)))
unfolding record_line line head_text place_text operation_text state_text slot_text size_text numbers ascii
line_is s r b = simp append_assoc
