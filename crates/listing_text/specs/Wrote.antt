-- What a function that writes text into a lent buffer does.
use Rattle.std.specs.Prelude.{ℕ, ◌+◌, ◌-◌, ◌≡◌, List, map, eqb, length, get_or}
use Rattle.model.specs.Bytes.{Bytes, bytes_of, overlay}
use Rattle.model.specs.Scan.{first, all_from, range}
use Rattle.model.specs.Listing.{shown_byte}
use Rattle.listing_text.specs.declared.Text.{Text}

-- The text stands in the buffer from a place on and ends at r; every other byte is as it was.
pub record Wrote (text entry exit : List ℕ) (at r : ℕ) : Type 0 where
  pub ends : r ≡ at + length text
  pub bytes : (i : ℕ) → get_or exit i 0 ≡ overlay (length text) (bytes_of text) at (bytes_of entry) i

-- The text is put where it ended before, and ends after it.
pub record Put (text : List ℕ) (before after : Text) : Type 0 where
  pub wrote : Wrote text before.out.now after.out.now before.end after.end
  pub room : length after.out.now ≡ length before.out.now
  pub lent : after.out.ghost_name ≡ before.out.ghost_name

-- How many of the first n bytes are left when trailing spaces are dropped.
unfoldable pub trimmed_length : ℕ → Bytes → ℕ
trimmed_length n b = first (λ k. all_from (λ j. eqb (b j) 32) k (n - k)) n

-- The first k bytes as the listing shows them.
unfoldable pub shown : ℕ → Bytes → List ℕ
shown k b = map (λ i. shown_byte (b i)) (range 0 k)
