-- The text of a log table in pieces: the heading, then one piece for each record.
use Rattle.std.specs.Prelude.{ℕ, zero, suc, ◌+◌, ◌-◌, ◌*◌, ◌/◌, ◌%◌, ◌≤◌, ◌<◌, ◌≡◌, List, [], ◌∷◌, map, ltb, length}
use Rattle.model.specs.Bytes.{Bytes, Span, pick, part}
use Rattle.model.specs.Scan.{first_from, range}
use Rattle.model.specs.Text.{ascii, decimal, join, line}
use Rattle.model.specs.Listing.{record_line, has_line, is_table}
use Rattle.listing_text.specs.Wrote.{Wrote}

unfoldable pub heading : Span → List ℕ
heading t = pick (is_table t) (line (ascii "log" ∷ decimal (t.size / 512) ∷ ascii "sectors" ∷ [])) (line (ascii "not a log" ∷ []))

unfoldable pub record_text : Bytes → ℕ → List ℕ
record_text t k = pick (has_line t k) (record_line (k / 16) (k % 16) (part t (32 * k))) []

unfoldable pub pieces : Span → ℕ
pieces t = pick (is_table t) (t.size / 32 + 1) 1

unfoldable pub piece : Span → ℕ → List ℕ
piece t zero = heading t
piece t (suc k) = record_text t.byte k

-- The m pieces from i on.
unfoldable pub text_from : Span → ℕ → ℕ → List ℕ
text_from t i m = join (map (piece t) (range i m))

-- The piece, from i on, before which a buffer of b bytes has no room left for the longest.
unfoldable pub next_piece : Span → ℕ → ℕ → ℕ
next_piece t b i = first_from (λ j. ltb b (length (text_from t i (j - i)) + 119)) i (pieces t - i)

-- The buffer has got the pieces from `from` up to that one, `count` bytes in all, and is otherwise as it was.
pub record Filled (t : Span) (from : ℕ) (entry exit : List ℕ) (count next : ℕ) : Type 0 where
  pub stops : next ≡ next_piece t (length entry) from
  pub wrote : Wrote (text_from t from (next - from)) entry exit 0 count
  pub within : next ≤ pieces t
  pub moves : from < pieces t → from < next
  pub fits : count ≤ length entry
