-- ROUTE.CUT created with a long name on card K, worked out by hand. The root is empty, so its slots are used from slot 0 on, the short name's
-- last; the log is empty, so the group goes into sector 65. No FAT sector changes.
use Rattle.std.specs.Prelude.{ℕ, ◌+◌, ◌*◌, ◌/◌, ◌%◌, ◌≡◌, List, [], ◌∷◌, ◌++◌, map, Bool, true, ltb, eqb, get_or, replicate}
use Rattle.model.specs.Bytes.{Span, pick, zeros}
use Rattle.model.specs.Scan.{all, range}
use Rattle.model.specs.Sector.{Card, store, after}
use Rattle.model.specs.Root.{slot_at}
use Rattle.model.specs.Ground.{Answer}
use Rattle.model.specs.Text.{ascii}
use Rattle.model.specs.Outcome.{Outcome, Done}
use Rattle.operations.specs.Program.{Program}
use Rattle.operations.specs.Calls.{creates_long, recovers, plan}
use Rattle.operations.specs.Outcome.{made, left, largest}
use Rattle.operations.specs.Reading.{Filled, long_name, filled_outcome, buffer_after}
use Rattle.worked.specs.CardK.{k, route, morning}
use Rattle.worked.specs.Worked.{volume_k}
use Rattle.worked.specs.LongNames.{listed_group}

-- n characters: a, b, c, .. z, a, and so on.
abbrev pub letters : ℕ → Span
letters n = record { size = 2 * n; byte = λ i. pick (eqb (i % 2) 0) (97 + i / 2 % 26) 0 }

abbrev pub spelling : ℕ → Answer Program
spelling n = plan (creates_long route (letters n) morning) k

-- The sectors that a program stores, and what slots 0 to 17 begin with after it.
pub record Spelled : Type 0 where
  pub stored : List ℕ
  pub begins : List ℕ

unfoldable pub spelled_of : Answer Program → Card → Spelled
spelled_of p c =
    let ss = made largest p in
    record { stored = map (λ s. s.sector) ss; begins = map (λ s. slot_at volume_k.layout (after ss c) s 0) (range 0 18) }

-- The recovery of a program cut by a limit.
unfoldable pub recovered_spelled : ℕ → Answer Program → Spelled
recovered_spelled limit p =
    let c = after (made limit p) k.card in
    spelled_of (plan recovers (record { size = k.size; card = c })) c

-- What is read into a buffer of 0xAA: how many characters there are; whether the buffer begins with those of a text and has 0xAA after them,
-- up to byte 418.
pub record Told : Type 0 where
  pub answer : Outcome
  pub same : Bool

unfoldable pub told_of : Answer Filled → Span → Told
told_of a t = record {
  answer = filled_outcome a;
  same = all (λ i. eqb (buffer_after a (λ j. 0xAA) i) (pick (ltb i t.size) (t.byte i) 0xAA)) 418;
}

abbrev pub read_again : ℕ → ℕ → Told
read_again n room = told_of (long_name (left largest (creates_long route (letters n) morning) k) route room) (letters n)

-- What the records of a log sector that a program stores begin with: its i-th store.
abbrev pub marked_records : ℕ → Answer Program → List ℕ
marked_records i p = map (λ r. (get_or (made largest p) i (store 0 zeros)).bytes (32 * r)) (range 0 16)

pub record Spelling : Type 0 where
  -- 1 and 13 characters take one long slot, 14 and 26 two. Group, root sector, commit.
  pub one : spelled_of (spelling 1) k.card ≡ record { stored = 65 ∷ 33 ∷ 65 ∷ []; begins = 0x41 ∷ 82 ∷ replicate 16 0 }
  pub thirteen : spelled_of (spelling 13) k.card ≡ record { stored = 65 ∷ 33 ∷ 65 ∷ []; begins = 0x41 ∷ 82 ∷ replicate 16 0 }
  pub fourteen : spelled_of (spelling 14) k.card ≡ record { stored = 65 ∷ 33 ∷ 65 ∷ []; begins = 0x42 ∷ 1 ∷ 82 ∷ replicate 15 0 }
  pub twenty_six : spelled_of (spelling 26) k.card ≡ record { stored = 65 ∷ 33 ∷ 65 ∷ []; begins = 0x42 ∷ 1 ∷ 82 ∷ replicate 15 0 }
  -- 208 take sixteen, slots 0 to 15, which fill sector 33; the short one is the first of sector 34.
  pub longest : spelled_of (spelling 208) k.card ≡ record {
    stored = 65 ∷ 33 ∷ 34 ∷ 65 ∷ [];
    begins = 0x50 ∷ 15 ∷ 14 ∷ 13 ∷ 12 ∷ 11 ∷ 10 ∷ 9 ∷ 8 ∷ 7 ∷ 6 ∷ 5 ∷ 4 ∷ 3 ∷ 2 ∷ 1 ∷ 82 ∷ 0 ∷ [];
  }
  -- The main record, the stamp and thirteen records of 16 characters each, all of them marked by the commit; record 15 was never used.
  pub longest_marked : marked_records 3 (spelling 208) ≡ replicate 15 0xE5 ++ (0 ∷ [])
  -- "Read back, the name has exactly the characters given."
  pub read_1 : read_again 1 416 ≡ record { answer = Done 1; same = true }
  pub read_13 : read_again 13 416 ≡ record { answer = Done 13; same = true }
  pub read_14 : read_again 14 416 ≡ record { answer = Done 14; same = true }
  pub read_26 : read_again 26 416 ≡ record { answer = Done 26; same = true }
  pub read_208 : read_again 208 416 ≡ record { answer = Done 208; same = true }
  -- Sector 65 after the group's store, and after the commit: one line, though the stamp and the characters have records of their own.
  pub listed : listed_group 0 (spelling 14) ≡ ascii "log 1 sectors\n0 0 create pending ROUTE.CUT slot 2 first 0 from 0 size 0\n"
  pub listed_then : listed_group 2 (spelling 14) ≡ ascii "log 1 sectors\n0 0 create committed ?OUTE.CUT slot 2 first 0 from 0 size 0\n"
  -- Limit 0 and limit 1, the group's store, recovered; and limit 2, between two root sectors.
  pub cut_0 : recovered_spelled 0 (spelling 14) ≡ record { stored = []; begins = replicate 18 0 }
  pub cut_1 : recovered_spelled 1 (spelling 14) ≡ record { stored = 33 ∷ 65 ∷ []; begins = 0x42 ∷ 1 ∷ 82 ∷ replicate 15 0 }
  pub cut_2 : recovered_spelled 2 (spelling 208) ≡ record {
    stored = 33 ∷ 34 ∷ 65 ∷ [];
    begins = 0x50 ∷ 15 ∷ 14 ∷ 13 ∷ 12 ∷ 11 ∷ 10 ∷ 9 ∷ 8 ∷ 7 ∷ 6 ∷ 5 ∷ 4 ∷ 3 ∷ 2 ∷ 1 ∷ 82 ∷ 0 ∷ [];
  }
