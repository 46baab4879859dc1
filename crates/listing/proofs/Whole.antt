-- The pieces, one after the other, are the text; the lines that they hold.
use Prim.Native.Nat.{ℕ, zero, suc, ◌+◌, ◌-◌, ◌*◌, ◌/◌, ◌%◌, ◌≤◌, ◌<◌}
use native.Mathlib.Omega.{arith}
use native.Mathlib.Numerals.{add-one}
use mathlib.Core.Path.{◌≡◌, refl, sym, ap, ◌∙◌}
use mathlib.Core.Logic.{◌⊎◌, inl, inr}
use mathlib.Core.Bool.{Bool, true, false}
use mathlib.Core.List.{List, [], ◌∷◌, ◌++◌, map, append-nil, append_assoc, map-append}
use lib.Dec.{leb, eqb}
use borrow.Author.Tests.{leb-true, eqb-true}
use Rattle.model.specs.Bytes.{Bytes, Span, pick, part, bytes_of}
use Rattle.model.specs.Scan.{walk, indices_from, range}
use Rattle.model.specs.Sector.{card_of}
use Rattle.model.specs.Text.{join}
use Rattle.model.specs.Record.{leads, tells}
use Rattle.model.specs.Listing.{record_line, record_lines, has_line, is_table, table_text, log_text}
use Rattle.model.proofs.Tests.{told, every_at}
use Rattle.model.proofs.Scan.{indices_none, indices_step}
use Rattle.model.proofs.Sectors.{byte_in}
use Rattle.listing.specs.Pieces.{heading, record_text, pieces, piece, text_from}

join_append : (xs ys : List (List ℕ)) → join (xs ++ ys) ≡ join xs ++ join ys
unfolding join
join_append [] ys = refl
join_append (x ∷ xs) ys = ap (λ (z : List ℕ). x ++ z) (join_append xs ys) ∙ sym (append_assoc x (join xs) (join ys))

join_one : (x : List ℕ) → join (x ∷ []) ≡ x
unfolding join
join_one x = append-nil x

-- No piece, and one more.
pub text_none : (t : Span) (i : ℕ) → text_from t i 0 ≡ []
unfolding text_from join
text_none t i = rw (indices_none (λ k. true) i)

pub text_more : (t : Span) (i m : ℕ) → text_from t i (m + 1) ≡ text_from t i m ++ piece t (i + m)
unfolding text_from
text_more t i m =
    ap (λ (z : List ℕ). join (map (piece t) z)) (indices_step (λ k. true) i m)
    ∙ ap join (map-append (piece t) (range i m) ((i + m) ∷ []))
    ∙ join_append (map (piece t) (range i m)) (piece t (i + m) ∷ [])
    ∙ ap (λ (z : List ℕ). join (map (piece t) (range i m)) ++ z) (join_one (piece t (i + m)))

-- The records that have lines; all records, each with a text that may be empty.
record_lines_are : (t : Bytes) (i n : ℕ)
    → join (map (λ k. record_line (k / 16) (k % 16) (part t (32 * k))) (indices_from (has_line t) i n)) ≡ join (map (record_text t) (range i n))
unfolding indices_from walk join record_text
record_lines_are t i zero = refl
record_lines_are t i (suc n) = go (has_line t i) refl (record_lines_are t (i + 1) n)
  where
    f : ℕ → List ℕ
    f k = record_line (k / 16) (k % 16) (part t (32 * k))

    rest : List ℕ
    rest = indices_from (has_line t) (i + 1) n

    go : (b : Bool) → has_line t i ≡ b → join (map f rest) ≡ join (map (record_text t) (range (i + 1) n))
        → join (map f (pick b (i ∷ rest) rest)) ≡ pick (has_line t i) (f i) [] ++ join (map (record_text t) (range (i + 1) n))
    go true e h = rw e (ap (λ (z : List ℕ). f i ++ z) h)
    go false e h = rw e h

-- The pieces after the heading are the records.
pieces_shift : (t : Span) (i n : ℕ) → map (piece t) (range (i + 1) n) ≡ map (record_text t.byte) (range i n)
unfolding indices_from walk piece
pieces_shift t i zero = refl
pieces_shift t i (suc n) = rw (pieces_shift t (i + 1) n, add-one i)

text_all : (t : Span) (n : ℕ) → text_from t 0 (n + 1) ≡ heading t ++ join (map (record_text t.byte) (range 0 n))
unfolding text_from indices_from walk join piece
text_all t n = rw (add-one n) (ap (λ (z : List (List ℕ)). heading t ++ join z) (pieces_shift t 0 n))

text_one : (t : Span) → text_from t 0 1 ≡ heading t
unfolding join
text_one t =
    text_all t 0
    ∙ ap (λ (z : List ℕ). heading t ++ join (map (record_text t.byte) z)) (indices_none (λ k. true) 0)
    ∙ append-nil (heading t)

-- The whole text of a log table is that of all its pieces.
pub whole : (t : Span) → log_text t ≡ text_from t 0 (pieces t)
unfolding log_text table_text record_lines pieces heading
whole t = go (told (is_table t))
  where
    go : (is_table t ≡ true) ⊎ (is_table t ≡ false) → log_text t ≡ text_from t 0 (pieces t)
    go (inl e) =
        let h = text_all t (t.size / 32) in
        rw (e, record_lines_are t.byte 0 (t.size / 32)) (sym (rw e at h))
    go (inr e) = rw e (sym (rw e at (text_one t)))

-- A table has at most 128 sectors.
pub table_short : (t : Span) → is_table t ≡ true → t.size ≤ 65536
unfolding is_table
table_short t h = leb-true t.size 65536 (every_at (leb 1 t.size ∷ leb t.size 65536 ∷ eqb (t.size % 512) 0 ∷ []) h 1)

-- Piece i is that of record i - 1, whose sector the table holds.
pub piece_record : (t : Span) (i : ℕ) → (i ≡ 0 → ⊥) → piece t i ≡ record_text t.byte (i - 1)
unfolding piece
piece_record t zero h = absurd (h refl)
piece_record t (suc k) h = let e : k ≡ suc k - 1 = omega arith in ap (record_text t.byte) e

pub record_within : (t : Span) (i : ℕ) → (i ≡ 0 → ⊥) → i < pieces t → 512 * ((i - 1) / 16) + 512 ≤ t.size
unfolding pieces is_table
record_within t i h l = go (told (is_table t))
  where
    go : (is_table t ≡ true) ⊎ (is_table t ≡ false) → 512 * ((i - 1) / 16) + 512 ≤ t.size
    go (inl e) =
        let z : i < t.size / 32 + 1 = rw e at l in
        let whole : t.size % 512 ≡ 0 = eqb-true _ _ (every_at _ e 2) in
        omega arith
    go (inr e) = let z : i < 1 = rw e at l in absurd (omega arith)

-- Whether a record has a line is told by its sector.
pub line_told : (xs : List ℕ) (k : ℕ) → tells (card_of xs (k / 16)) (k % 16) ≡ has_line (bytes_of xs) k
unfolding has_line tells leads
line_told xs k =
    let s : ℕ = k / 16 in
    rw (byte_in xs s (32 * (k % 16)) (omega arith), byte_in xs s 0 (omega arith), byte_in xs s 12 (omega arith), byte_in xs s 13 (omega arith))
