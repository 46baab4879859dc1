-- A file with a long name on card K, worked out by hand: after M4, in which ROUTE.CUT has 1,300 bytes from cluster 10 on, an office machine has
-- moved its entry to slot 17 and put two long entries before it, in slots 15 and 16, on both sides of the border of root sectors 33 and 34.
-- Slots 0 to 14 are deleted ones. The checksum of ROUTE.CUT is 0x13. The bytes of the file are arbitrary.
use Rattle.std.specs.Prelude.{ℕ, ◌-◌, ◌%◌, ◌≡◌, List, [], ◌∷◌, map, ltb, eqb, get_or}
use Rattle.model.specs.Bytes.{Bytes, pick, zeros}
use Rattle.model.specs.Sector.{Card, Window, store, put, after}
use Rattle.model.specs.Root.{slot_at}
use Rattle.model.specs.Ground.{Answer}
use Rattle.model.specs.Text.{ascii}
use Rattle.model.specs.Listing.{log_text}
use Rattle.operations.specs.Program.{Program}
use Rattle.operations.specs.Calls.{deletes, renames, recovers, plan}
use Rattle.operations.specs.Outcome.{made, largest}
use Rattle.worked.specs.CardK.{span, route, letter}
use Rattle.worked.specs.Worked.{volume_k, k4}

-- A long entry of ROUTE.CUT with this order byte; its characters are of no account.
unfoldable pub long_entry : ℕ → Bytes
long_entry order j = pick (eqb j 0) order (pick (eqb j 11) 0x0F (pick (eqb j 13) 0x13 0x61))

-- Fifteen deleted slots and entry 2 of 2; then entry 1 and the slot that was slot 0.
unfoldable pub renamed_in_office : Window → Window
renamed_in_office w =
    let front : Bytes = λ j. pick (ltb j 480) (pick (eqb (j % 32) 0) 0xE5 0) (long_entry 0x42 (j % 32)) in
    let back : Bytes = λ j. pick (ltb j 32) (long_entry 1 j) (pick (ltb j 64) (w.card 33 (j - 32)) 0) in
    record { size = w.size; card = put (put w.card (store 33 front)) (store 34 back) }

abbrev pub named : Bytes → Window
named d = renamed_in_office (k4 d)

-- The sectors that a program stores, and what slots 0, 14, 15, 16, 17 and 18 begin with after it.
pub record Marks : Type 0 where
  pub stored : List ℕ
  pub begins : List ℕ

unfoldable pub marks_of : Answer Program → Card → Marks
marks_of p c =
    let ss = made largest p in
    record {
      stored = map (λ s. s.sector) ss;
      begins = map (λ s. slot_at volume_k.layout (after ss c) s 0) (0 ∷ 14 ∷ 15 ∷ 16 ∷ 17 ∷ 18 ∷ []);
    }

-- The recovery of a program cut by a limit.
unfoldable pub recovered_marks : ℕ → Answer Program → Window → Marks
recovered_marks limit p w =
    let c = after (made limit p) w.card in
    marks_of (plan recovers (record { size = w.size; card = c })) c

-- The listing of a log sector that a program stores, its i-th store.
abbrev pub listed_group : ℕ → Answer Program → List ℕ
listed_group i p = log_text (span 512 (get_or (made largest p) i (store 0 zeros)).bytes)

pub record LongNames (d : Bytes) : Type 0 where
  -- FAT2, group, FAT1, both root sectors, commit; the three slots of the name are marked.
  pub deleted : marks_of (plan (deletes route) (named d)) (named d).card
      ≡ record { stored = 17 ∷ 67 ∷ 1 ∷ 33 ∷ 34 ∷ 67 ∷ []; begins = 0xE5 ∷ 0xE5 ∷ 0xE5 ∷ 0xE5 ∷ 0xE5 ∷ 0 ∷ [] }
  -- Group, both root sectors, commit; the new name takes slot 0, the lowest deleted one.
  pub renamed : marks_of (plan (renames route (letter 66)) (named d)) (named d).card
      ≡ record { stored = 67 ∷ 33 ∷ 34 ∷ 67 ∷ []; begins = 66 ∷ 0xE5 ∷ 0xE5 ∷ 0xE5 ∷ 0xE5 ∷ 0 ∷ [] }
  -- Cut before the group's store, before the first root store and after it, and recovered.
  pub cut_0 : recovered_marks 0 (plan (renames route (letter 66)) (named d)) (named d)
      ≡ record { stored = []; begins = 0xE5 ∷ 0xE5 ∷ 0x42 ∷ 1 ∷ 82 ∷ 0 ∷ [] }
  pub cut_1 : recovered_marks 1 (plan (renames route (letter 66)) (named d)) (named d)
      ≡ record { stored = 33 ∷ 34 ∷ 67 ∷ []; begins = 66 ∷ 0xE5 ∷ 0xE5 ∷ 0xE5 ∷ 0xE5 ∷ 0 ∷ [] }
  pub cut_2 : recovered_marks 2 (plan (renames route (letter 66)) (named d)) (named d)
      ≡ record { stored = 33 ∷ 34 ∷ 67 ∷ []; begins = 66 ∷ 0xE5 ∷ 0xE5 ∷ 0xE5 ∷ 0xE5 ∷ 0 ∷ [] }
  -- The listing says nothing of the count.
  pub listing : listed_group 0 (plan (renames route (letter 66)) (named d))
      ≡ ascii "log 1 sectors\n0 0 rename pending ROUTE.CUT slot 17 first 10 from 0 size 1300\n0 1 part pending B slot 0 first 10 from 0 size 1300\n"
