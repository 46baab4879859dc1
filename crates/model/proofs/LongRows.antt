-- Long entries on small directories, and RECORD's rules for their number, by computation. The edits in must-fail are refused here.
use Prim.Native.Nat.{ℕ, ◌+◌, ◌-◌}
use mathlib.Core.Path.{◌≡◌, refl}
use mathlib.Core.List.{List, [], ◌∷◌, ◌++◌, map}
use mathlib.Core.Bool.{Bool, true, false}
use lib.Dec.{ltb, eqb}
use lib.ListN.{get_or}
use Rattle.model.specs.Bytes.{Bytes, pick, zeros}
use Rattle.model.specs.Scan.{every, any, walk, first_from, indices_from, all_from, range}
use Rattle.model.specs.Root.{Directory}
use Rattle.model.specs.Long.{name_slots, turned, sum_of, is_long, belong, long_count}
use Rattle.model.specs.Record.{record_of, stamp_record, operation_records}
use Rattle.model.specs.Pending.{most_counted, count_ok, slot_ok, alike, part_ok, pair_ok}
use Rattle.model.specs.declared.Name.{Name}
use Rattle.model.specs.declared.Entry.{Entry}
use Rattle.model.specs.declared.Record.{Record}
use Rattle.model.specs.declared.Operation.TheVariants.{Create, Delete, Rename, Replace}

-- ---- the checksum

-- A, and ROUTE.CUT, each with blanks; byte 11, the attributes, is 0x20 too.
abbrev short : Bytes
short j = pick (eqb j 0) 65 (pick (ltb j 12) 32 0)

abbrev route : Bytes
route j = get_or (82 ∷ 79 ∷ 85 ∷ 84 ∷ 69 ∷ 32 ∷ 32 ∷ 32 ∷ 67 ∷ 85 ∷ 84 ∷ []) j 32

-- 65; turned 160, and 32 is 192; turned 96, and 32 is 128; 64 and 32; 48 and 32; ..; turned 65 is 160 again.
sums : map (λ n. sum_of n short) (range 0 12) ≡ 0 ∷ 65 ∷ 192 ∷ 128 ∷ 96 ∷ 80 ∷ 72 ∷ 68 ∷ 66 ∷ 65 ∷ 192 ∷ 128 ∷ []
unfolding sum_of turned indices_from walk
sums = refl

-- 82; 41 and 79; 60 and 85; 200 and 84 is 284, of which 28 is kept; ..
route_sums : map (λ n. sum_of n route) (range 1 11) ≡ 82 ∷ 120 ∷ 145 ∷ 28 ∷ 83 ∷ 201 ∷ 4 ∷ 34 ∷ 84 ∷ 127 ∷ 19 ∷ []
unfolding sum_of turned indices_from walk
route_sums = refl

-- ---- the entries that belong to a slot

-- A long entry: order byte, attributes, checksum; all else 0xFF.
abbrev long : ℕ → ℕ → ℕ → Bytes
long order attributes sum j = pick (eqb j 0) order (pick (eqb j 11) attributes (pick (eqb j 13) sum 0xFF))

abbrev slots : List Bytes → Directory
slots bs k = get_or bs k zeros

-- n entries from slot 0 on, of A in slot n; the first has 0x40.
abbrev run : ℕ → List Bytes
run n = map (λ i. long (pick (eqb i 0) (0x40 + n) (n - i)) 0x0F 128) (range 0 n) ++ (short ∷ [])

abbrev count : List Bytes → ℕ → ℕ
count bs s = long_count (slots bs) s

-- 20 entries, and no more.
run_counts : map (λ n. count (run n) n) (0 ∷ 1 ∷ 2 ∷ 3 ∷ 19 ∷ 20 ∷ 21 ∷ 22 ∷ []) ≡ 0 ∷ 1 ∷ 2 ∷ 3 ∷ 19 ∷ 20 ∷ 0 ∷ 0 ∷ []
unfolding long_count belong is_long sum_of turned every first_from all_from indices_from walk
run_counts = refl

-- Three entries, the second as given; then none belong, unless it bears 0x40 and so ends the run.
abbrev second : Bytes → ℕ
second b = count (long 0x43 0x0F 128 ∷ b ∷ long 1 0x0F 128 ∷ short ∷ []) 3

second_counts : map second
    (long 2 0x0F 128 ∷ long 3 0x0F 128 ∷ long 1 0x0F 128 ∷ long 0x82 0x0F 128 ∷ long 0x22 0x0F 128 ∷ long 0xE5 0x0F 128 ∷ long 0 0x0F 128
    ∷ long 2 0x0E 128 ∷ long 2 0x1F 128 ∷ long 2 0x2F 128 ∷ long 2 0x08 128 ∷ long 2 0x0F 129 ∷ long 2 0x0F 0 ∷ short ∷ long 0x42 0x0F 128 ∷ [])
    ≡ 3 ∷ 0 ∷ 0 ∷ 0 ∷ 0 ∷ 0 ∷ 0 ∷ 0 ∷ 0 ∷ 0 ∷ 0 ∷ 0 ∷ 0 ∷ 0 ∷ 2 ∷ []
unfolding long_count belong is_long sum_of turned every first_from all_from indices_from walk
second_counts = refl

-- The one directly before the slot as given: 0x41 is the only entry of a name, 0x81 and 0x61 are no number 1.
abbrev before : Bytes → ℕ
before b = count (long 0x42 0x0F 128 ∷ b ∷ short ∷ []) 2

before_counts : map before (long 1 0x0F 128 ∷ long 0x41 0x0F 128 ∷ long 0x81 0x0F 128 ∷ long 0x61 0x0F 128 ∷ long 0xC1 0x0F 128 ∷ long 0x40 0x0F 128 ∷ [])
    ≡ 2 ∷ 1 ∷ 0 ∷ 0 ∷ 0 ∷ 0 ∷ []
unfolding long_count belong is_long sum_of turned every first_from all_from indices_from walk
before_counts = refl

-- No 0x40 down to slot 0; slot 0 itself.
first_counts : count (long 2 0x0F 128 ∷ long 1 0x0F 128 ∷ short ∷ []) 2 ∷ count (long 1 0x0F 128 ∷ short ∷ []) 1 ∷ count (short ∷ []) 0 ∷ []
    ≡ 0 ∷ 0 ∷ 0 ∷ []
unfolding long_count belong is_long sum_of turned every first_from all_from indices_from walk
first_counts = refl

-- The slots of a name.
slots_row : name_slots 17 2 ≡ 15 ∷ 16 ∷ 17 ∷ []
unfolding name_slots
slots_row = refl

-- ---- RECORD

module _ (name : Name) where
  abbrev entry : ℕ → Entry
  entry s = record { slot = s; name = name; attributes = 0x20 }

  -- The count of operation number n, in slot s.
  abbrev counted : ℕ → ℕ → ℕ → Bool
  counted n s k = count_ok (record_of (entry s) n k 0 0 0)

  -- One entry before slot 5, in each operation: create, delete and rename alone.
  operation_counts : map (λ n. counted n 5 1) (1 ∷ 2 ∷ 3 ∷ 4 ∷ 5 ∷ 6 ∷ []) ≡ true ∷ false ∷ true ∷ false ∷ true ∷ false ∷ []
  unfolding count_ok most_counted record_of
  operation_counts = refl

  -- At most 20, of a create 16, and not above the slot.
  most_counts : map (counted 3 30) (0 ∷ 20 ∷ 21 ∷ []) ++ map (counted 5 20) (20 ∷ 21 ∷ []) ++ map (counted 3 19) (19 ∷ 20 ∷ [])
      ++ map (counted 5 0) (0 ∷ 1 ∷ []) ++ map (counted 1 30) (0 ∷ 16 ∷ 17 ∷ []) ++ map (counted 1 16) (16 ∷ []) ++ map (counted 1 15) (15 ∷ 16 ∷ [])
      ≡ true ∷ true ∷ false ∷ true ∷ false ∷ true ∷ false ∷ true ∷ false ∷ true ∷ true ∷ false ∷ true ∷ true ∷ false ∷ []
  unfolding count_ok most_counted record_of
  most_counts = refl

  -- A rename from slot 10 with 3 entries: the new slot, of 64 of which slot 40 is the lowest beginning 0, is none of 7 to 10. Record 1 has the
  -- same count.
  abbrev pair : ℕ → ℕ → ℕ → Record
  pair to more k = get_or (record_of (entry 10) 5 3 0 0 0 ∷ record_of (entry to) 0 more 0 0 0 ∷ []) k (record_of (entry 0) 0 0 0 0 0)

  new_slots : map (λ to. part_ok 64 40 (pair to 3) 1) (0 ∷ 6 ∷ 7 ∷ 8 ∷ 9 ∷ 10 ∷ 11 ∷ 40 ∷ 41 ∷ [])
      ≡ true ∷ true ∷ false ∷ false ∷ false ∷ false ∷ true ∷ true ∷ false ∷ []
  unfolding part_ok pair_ok alike slot_ok record_of name_slots every any all_from walk
  new_slots = refl

  other_counts : map (λ more. part_ok 64 40 (pair 11 more) 1) (2 ∷ 3 ∷ 4 ∷ []) ≡ false ∷ true ∷ false ∷ []
  unfolding part_ok pair_ok alike slot_ok record_of name_slots every any all_from walk
  other_counts = refl

  -- A create's and a delete's record, and both of a rename, have the count; the others and stamps have none.
  abbrev counts : List Record → List ℕ
  counts rs = map (λ r. r.count) rs

  record_counts : counts (operation_records (Delete (entry 9) 3 0 0)) ∷ counts (operation_records (Rename (entry 9) 3 0 0 1 name))
      ∷ counts (operation_records (Create (entry 9) 2 0)) ∷ counts (operation_records (Replace (entry 9) 0 0 0 0)) ∷ []
      ≡ (3 ∷ []) ∷ (3 ∷ 3 ∷ []) ∷ (2 ∷ 0 ∷ []) ∷ (0 ∷ 0 ∷ []) ∷ []
  unfolding operation_records record_of stamp_record
  record_counts = refl
