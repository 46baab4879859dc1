-- The dates of the file that a call names, once the call has finished, and after a cut. (Those of every other file are bytes of its slot,
-- which stay: `KeepsOthers`, `SlotsStay`.)
use Rattle.std.specs.Prelude.{ℕ, ◌≤◌, ◌<◌, ◌≡◌, List, true}
use Rattle.model.specs.Bytes.{Bytes, Span, le}
use Rattle.model.specs.Sector.{Card, Window}
use Rattle.model.specs.Root.{slot_at, file_size}
use Rattle.model.specs.Calendar.{moment, time_word, date_word}
use Rattle.model.specs.Ground.{granted}
use Rattle.model.specs.Volume.{clean}
use Rattle.model.specs.declared.Volume.{Volume}
use Rattle.model.specs.Outcome.{Done}
use Rattle.operations.specs.Program.{Program}
use Rattle.operations.specs.Calls.{Call, creates, creates_long, appends, truncates, deletes, renames, replaces, recovers, plan, slot_of}
use Rattle.operations.specs.Outcome.{outcome, left}
use Rattle.safety.specs.Demand3.{Genuine, finished, recoveries, group_stored}

-- "write time 22, write date 24, access date 18" of an entry are those of second s since 1980 began.
pub record Changed (b : Bytes) (s : ℕ) : Type 0 where
  pub write_time : le 2 b 22 ≡ time_word (moment s)
  pub write_date : le 2 b 24 ≡ date_word (moment s)
  pub access_date : le 2 b 18 ≡ date_word (moment s)

-- "A new file gets all its dates and times from it, tenths 0": so are creation time 14 and creation date 16.
pub record Born (b : Bytes) (s : ℕ) : Type 0 where
  pub changed : Changed b s
  pub tenths : b 13 ≡ 0
  pub creation_time : le 2 b 14 ≡ time_word (moment s)
  pub creation_date : le 2 b 16 ≡ date_word (moment s)

-- "the others set write time, write date and access date": from the entry b to the entry d, whose tenths and creation, at 13 to 17, stay.
pub record Updated (b : Bytes) (s : ℕ) (d : Bytes) : Type 0 where
  pub changed : Changed d s
  pub creation : (j : ℕ) → 13 ≤ j → j < 18 → d j ≡ b j

-- No date is set: bytes 13 to 25.
abbrev pub Undated : Bytes → Bytes → Type 0
Undated b d = (j : ℕ) → 13 ≤ j → j < 26 → d j ≡ b j

-- The entry that a name means; on the card y there is one, and P holds of it.
abbrev pub entry_of : Volume → Card → Span → Bytes
entry_of v c n = slot_at v.layout c (slot_of v c n)

pub record Has (v : Volume) (y : Card) (n : Span) (P : Bytes → Type 0) : Type 0 where
  pub there : slot_of v y n < v.layout.entries
  pub so : P (entry_of v y n)

-- What a call that was granted on the card c leaves of the dates of the file that it names. "Appending 0 bytes and truncating to the present
-- size set no date. A replace always does." A rename keeps them, a delete leaves no file.
abbrev pub Dates : Volume → Card → Call → Card → Type 0
Dates v c (creates n s) y = Has v y n (λ d. Born d s)
Dates v c (creates_long n t s) y = Has v y n (λ d. Born d s)
Dates v c (appends n b s) y = Has v y n (λ d. (b.size ≡ 0 → Undated (entry_of v c n) d) × ((b.size ≡ 0 → ⊥) → Updated (entry_of v c n) s d))
Dates v c (truncates n m s) y =
    Has v y n (λ d. (m ≡ file_size (entry_of v c n) → Undated (entry_of v c n) d) × ((m ≡ file_size (entry_of v c n) → ⊥) → Updated (entry_of v c n) s d))
Dates v c (replaces n b s) y = Has v y n (Updated (entry_of v c n) s)
Dates v c (renames n m) y = Has v y m (Undated (entry_of v c n))
Dates v c (deletes n) y = Unit {0}
Dates v c recovers y = Unit {0}

-- So it is after a finished call,
abbrev pub DatesSet : Type 0
DatesSet = (k : Call) (w : Window) (v : Volume) → Genuine w → clean w ≡ granted v → (p : Program) → plan k w ≡ granted p → Dates v w.card k (finished k w)

-- and "Recovery gives that same stamp": after one that was cut once the group's store was on the card, and any recoveries, as soon as one has ended.
abbrev pub DatesRecovered : Type 0
DatesRecovered = (k : Call) (w : Window) (v : Volume) → Genuine w → clean w ≡ granted v → (p : Program) → plan k w ≡ granted p
    → (limit : ℕ) (limits : List ℕ) (once m : ℕ) → group_stored limit k w ≡ true → outcome once (plan recovers (recoveries limits (left limit k w))) ≡ Done m
    → Dates v w.card k (left once recovers (recoveries limits (left limit k w))).card
