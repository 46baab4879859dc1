-- Stamps in the log by computation: the records of each operation, the stamp that a sector tells, RECORD's rule for it, and its line in the
-- listing. The numbers are worked out by hand. The edits in must-fail are refused here.
use Prim.Native.Nat.{ℕ, ◌+◌}
use mathlib.Core.Path.{◌≡◌, refl}
use mathlib.Core.List.{List, [], ◌∷◌, ◌++◌, map}
use mathlib.Core.Bool.{Bool, true, false}
use lib.ListN.{length, replicate}
use Rattle.model.specs.Bytes.{Bytes, patch, zeros}
use Rattle.model.specs.Scan.{range}
use Rattle.model.specs.Record.{operation_records, record_at, operation_of, plain, encode, committed}
use Rattle.model.specs.Text.{ascii}
use Rattle.model.specs.Listing.{log_text}
use Rattle.model.specs.declared.Operation.{Operation}
use Rattle.model.specs.declared.Operation.TheVariants.{Create, Update, Delete, Truncate, Rename, Replace}
use Rattle.model.proofs.SpellRows.{compute, span, last_stamp, group, text, A, taken}

-- How many records tell each operation: two, of a delete one.
counts_row : map (λ o. length (operation_records o)) (Create (A 1) 0 0 ∷ Update (A 1) 0 0 0 0 ∷ Delete (A 1) 0 0 0 ∷ Truncate (A 1) 0 0 0 0
    ∷ Rename (A 1) 0 0 0 2 (A 1).name ∷ Replace (A 1) 0 0 0 0 ∷ []) ≡ 2 ∷ 2 ∷ 1 ∷ 2 ∷ 2 ∷ 2 ∷ []
unfolding compute
counts_row = refl

-- The second record of each that has a stamp: 0x54, the time at 14, the date at 16, and zero elsewhere.
abbrev second : Operation → List ℕ
second o = map (λ j. encode (plain o) (32 + j)) (range 0 32)

seconds_row : map second (Create (A 1) 0 last_stamp ∷ Update (A 1) 2 3 4 last_stamp ∷ Truncate (A 1) 2 3 4 last_stamp ∷ Replace (A 1) 2 3 4 last_stamp ∷ [])
    ≡ replicate 4 (0x54 ∷ replicate 13 0 ++ (0x7D ∷ 0xBF ∷ 0x9F ∷ 0xFF ∷ replicate 14 0))
unfolding compute
seconds_row = refl

-- A group of operation n about A in slot 1, with the stamp of the last second; the operation that it tells, with the stamp.
abbrev numbered : ℕ → Bytes
numbered n = patch 1 n 13 (group 0 1 zeros)

told_row : map (λ n. operation_of (record_at (numbered n))) (1 ∷ 2 ∷ 4 ∷ 6 ∷ [])
    ≡ Create (A 1) 0 last_stamp ∷ Update (A 1) 0 0 0 last_stamp ∷ Truncate (A 1) 0 0 0 last_stamp ∷ Replace (A 1) 0 0 0 last_stamp ∷ []
unfolding compute
told_row = refl

-- RECORD takes the four with it, and refuses a delete and a rename with it.
with_row : map (λ n. taken (numbered n)) (1 ∷ 2 ∷ 3 ∷ 4 ∷ 5 ∷ 6 ∷ []) ≡ true ∷ true ∷ false ∷ true ∷ false ∷ true ∷ []
unfolding compute
with_row = refl

-- Without it, as groups were before there were stamps, it takes the delete alone.
abbrev bare : ℕ → Bytes
bare n = patch 32 0 32 (numbered n)

without_row : map (λ n. taken (bare n)) (1 ∷ 2 ∷ 3 ∷ 4 ∷ 5 ∷ 6 ∷ []) ≡ false ∷ false ∷ true ∷ false ∷ false ∷ false ∷ []
unfolding compute
without_row = refl

-- Another value in each byte of it, of a plain create and of one with a long name: bytes 14 to 17 alone may have any.
abbrev altered : Bytes → List Bool
altered b = map (λ j. taken (patch 1 7 (32 + j) b)) (range 0 32)

altered_row : altered (group 0 1 zeros) ∷ altered (group 1 1 (text 1)) ∷ []
    ≡ replicate 2 (replicate 14 false ++ (replicate 4 true ++ replicate 14 false))
unfolding compute
altered_row = refl

-- It may be no date; a committed one is none of a pending group.
any_row : map taken (patch 4 0 46 (group 0 1 zeros) ∷ patch 4 0xFFFFFFFF 46 (group 0 1 zeros) ∷ patch 1 0xE5 32 (group 0 1 zeros)
    ∷ patch 1 0xE5 32 (group 1 1 (text 1)) ∷ []) ≡ true ∷ true ∷ false ∷ false ∷ []
unfolding compute
any_row = refl

-- It is listed as a part, pending and committed; where record 0 leads the sector, it is not.
listing_row : (log_text (span 512 (group 0 1 zeros))
    ≡ ascii "log 1 sectors\n0 0 create pending A slot 1 first 0 from 0 size 0\n0 1 part pending T???????.??? slot 0 first 0 from 0 size 0\n")
    × (log_text (span 512 (committed 2 (group 0 1 zeros)))
    ≡ ascii "log 1 sectors\n0 0 create committed ? slot 1 first 0 from 0 size 0\n0 1 part committed ????????.??? slot 0 first 0 from 0 size 0\n")
    × (log_text (span 512 (group 1 1 (text 1))) ≡ ascii "log 1 sectors\n0 0 create pending A slot 1 first 0 from 0 size 0\n")
unfolding compute
listing_row = (refl, refl, refl)
