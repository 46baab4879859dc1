-- What the listing program prints for a log table.
use Rattle.std.specs.Prelude.{ℕ, ◌+◌, ◌-◌, ◌*◌, ◌/◌, ◌%◌, List, [], ◌∷◌, ◌++◌, map, Bool, leb, eqb}
use Prim.Native.String.{String}
use Rattle.model.specs.Bytes.{Bytes, Span, pick, part}
use Rattle.model.specs.Scan.{every, between, first, all_from, indices, range}
use Rattle.model.specs.Record.{r_number, r_slot, r_high, r_from, r_cluster, r_size, tells}
use Rattle.model.specs.Text.{ascii, decimal, join, line}

-- "operation word (create, update, delete, truncate, rename, part, else unknown)"; "the listing prints `replace`".
unfoldable pub op_word : ℕ → String
op_word n =
    pick (eqb n 0) "part" (pick (eqb n 1) "create" (pick (eqb n 2) "update"
    (pick (eqb n 3) "delete" (pick (eqb n 4) "truncate" (pick (eqb n 5) "rename" (pick (eqb n 6) "replace" "unknown"))))))

-- "state (committed for 0xE5, else pending)"
unfoldable pub state_word : ℕ → String
state_word b = pick (eqb b 0xE5) "committed" "pending"

-- "? for bytes outside 0x21 to 0x7E"
unfoldable pub shown_byte : ℕ → ℕ
shown_byte b = pick (between 0x21 0x7E b) b 63

-- "trailing spaces dropped": the first n bytes up to where only spaces follow.
unfoldable pub trimmed : ℕ → Bytes → List ℕ
trimmed n b = map (λ i. shown_byte (b i)) (range 0 (first (λ k. all_from (λ j. eqb (b j) 32) k (n - k)) n))

-- "a dot only before a filled extension"
unfoldable pub dotted : List ℕ → List ℕ
dotted [] = []
dotted (b ∷ bs) = 46 ∷ b ∷ bs

unfoldable pub shown_name : Bytes → List ℕ
shown_name b = trimmed 8 b ++ dotted (trimmed 3 (part b 8))

-- "sector, record, operation word, state, name, slot, first/last cluster, DIR_Cluster, size, in decimal, the last four after the
-- words slot, first, from and size"
unfoldable pub record_line : ℕ → ℕ → Bytes → List ℕ
record_line s r b =
    line (
    decimal s ∷ decimal r ∷ ascii (op_word (r_number b)) ∷ ascii (state_word (b 0)) ∷ shown_name b
    ∷ ascii "slot" ∷ decimal (r_slot b) ∷ ascii "first" ∷ decimal (65536 * r_high b + r_cluster b)
    ∷ ascii "from" ∷ decimal (r_from b) ∷ ascii "size" ∷ decimal (r_size b) ∷ [])

-- "per record not beginning 0": record k of a table has a line.
unfoldable pub has_line : Bytes → ℕ → Bool
has_line t k = tells (part t (512 * (k / 16))) (k % 16)

unfoldable pub record_lines : Bytes → ℕ → List ℕ
record_lines t n = join (map (λ k. record_line (k / 16) (k % 16) (part t (32 * k))) (indices (has_line t) n))

-- "Input empty, over 65,536 bytes or no multiple of 512 prints only `not a log`. Else a header with the sector count, then" the
-- records.
unfoldable pub is_table : Span → Bool
is_table t = every (leb 1 t.size ∷ leb t.size 65536 ∷ eqb (t.size % 512) 0 ∷ [])

unfoldable pub table_text : Span → List ℕ
table_text t = line (ascii "log" ∷ decimal (t.size / 512) ∷ ascii "sectors" ∷ []) ++ record_lines t.byte (t.size / 32)

unfoldable pub log_text : Span → List ℕ
log_text t = pick (is_table t) (table_text t) (line (ascii "not a log" ∷ []))
