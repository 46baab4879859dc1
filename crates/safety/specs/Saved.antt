-- What is read of a card after a finished call: of the file that the call names, and of the others.
use Rattle.std.specs.Prelude.{ℕ, ◌+◌, ◌-◌, ◌<◌, min, ◌≡◌, true, ltb}
use Rattle.model.specs.Bytes.{Bytes, Span, pick, overlay}
use Rattle.model.specs.Sector.{Card, Window}
use Rattle.model.specs.Root.{slot_at, bears, is_file, is_locked, file_size, file_at}
use Rattle.model.specs.Ground.{refused, granted}
use Rattle.model.specs.Volume.{clean}
use Rattle.model.specs.declared.Layout.{Layout}
use Rattle.model.specs.declared.Volume.{Volume}
use Rattle.model.specs.Outcome.{Done}
use Rattle.model.specs.declared.Ground.TheVariants as Ground
use Rattle.operations.specs.Program.{Program}
use Rattle.operations.specs.Calls.{Call, creates, creates_long, appends, truncates, deletes, renames, replaces, recovers, plan, name_of, slot_of, named_file}
use Rattle.operations.specs.Outcome.{left, largest}
use Rattle.operations.specs.Reading.{Filled, read, file_byte, filled_outcome, buffer_after}
use Rattle.safety.specs.Sound.{Sound}
use Rattle.safety.specs.Demand3.{Genuine, finished}

-- The file with the name n is `size` bytes of content: from any offset, read gives those from there on that the buffer has room for,
-- "to its last byte, with nothing after it", and leaves the rest of the buffer as it was.
pub record Holds (w : Window) (n : Span) (size : ℕ) (content : Bytes) : Type 0 where
  pub count : (offset room : ℕ) → filled_outcome (read w n offset room) ≡ Done (min room (size - offset))
  pub bytes : (offset room : ℕ) (b : Bytes) (i : ℕ)
      → buffer_after (read w n offset room) b i ≡ overlay (min room (size - offset)) (λ j. content (offset + j)) 0 b i

-- So every file that read grants holds the bytes along its chain.
abbrev pub ReadHolds : Type 0
ReadHolds = (w : Window) (v : Volume) → clean w ≡ granted v → (n : Span) (offset room : ℕ) (r : Filled) → read w n offset room ≡ granted r
    → Holds w n (named_file v w.card n).size (file_byte v.layout w.card (named_file v w.card n))

-- No slot has the name.
abbrev pub Gone : Window → Span → Type 0
Gone w n = (offset room : ℕ) → read w n offset room ≡ refused Ground.Absent

-- Only the slot that a name means bears it. "A name means its lowest matching slot"; there may be others.
abbrev pub Alone : Volume → Card → Span → Type 0
Alone v c n = (s : ℕ) → s < v.layout.entries → bears (name_of n) (slot_at v.layout c s) ≡ true → s ≡ slot_of v c n

-- "A path saved and read again is the path, to its last byte, with nothing after it." Calls on the clean window w, whose volume is v,
-- that are not refused and finish.
pub record Saves (w : Window) (v : Volume) : Type 0 where
  -- A new file is empty, with a long name or without.
  pub created : (n : Span) (seconds : ℕ) (p : Program) → plan (creates n seconds) w ≡ granted p
      → (content : Bytes) → Holds (left largest (creates n seconds) w) n 0 content
  pub created_long : (n t : Span) (seconds : ℕ) (p : Program) → plan (creates_long n t seconds) w ≡ granted p
      → (content : Bytes) → Holds (left largest (creates_long n t seconds) w) n 0 content
  -- An append leaves the old bytes, then the new.
  pub appended : (n d : Span) (seconds : ℕ) (p : Program) → plan (appends n d seconds) w ≡ granted p → (size : ℕ) (content : Bytes)
      → Holds w n size content → Holds (left largest (appends n d seconds) w) n (size + d.size) (λ i. pick (ltb i size) (content i) (d.byte (i - size)))
  -- A replace leaves the new bytes alone.
  pub replaced : (n d : Span) (seconds : ℕ) (p : Program) → plan (replaces n d seconds) w ≡ granted p
      → Holds (left largest (replaces n d seconds) w) n d.size d.byte
  -- A truncate leaves the first bytes.
  pub truncated : (n : Span) (m seconds : ℕ) (p : Program) → plan (truncates n m seconds) w ≡ granted p → (size : ℕ) (content : Bytes)
      → Holds w n size content → Holds (left largest (truncates n m seconds) w) n m content
  -- A rename gives the bytes to the new name. The old name is not that slot's any more, and where no other bore it, it is gone.
  pub renamed : (n m : Span) (p : Program) → plan (renames n m) w ≡ granted p → (size : ℕ) (content : Bytes)
      → Holds w n size content → Holds (left largest (renames n m) w) m size content
  pub renamed_from : (n m : Span) (p : Program) → plan (renames n m) w ≡ granted p
      → slot_of v (finished (renames n m) w) n ≡ slot_of v w.card n → ⊥
  pub renamed_gone : (n m : Span) (p : Program) → plan (renames n m) w ≡ granted p → Alone v w.card n
      → Gone (left largest (renames n m) w) n
  -- So with a delete.
  pub deleted_from : (n : Span) (p : Program) → plan (deletes n) w ≡ granted p
      → slot_of v (finished (deletes n) w) n ≡ slot_of v w.card n → ⊥
  pub deleted_gone : (n : Span) (p : Program) → plan (deletes n) w ≡ granted p → Alone v w.card n
      → Gone (left largest (deletes n) w) n

abbrev pub AllSaves : Type 0
AllSaves = (w : Window) (v : Volume) → Genuine w → clean w ≡ granted v → Saves w v

-- So a path saved as a new file is read again as it was given.
abbrev pub PathSaved : Type 0
PathSaved = (w : Window) (v : Volume) → Genuine w → clean w ≡ granted v
    → (n d : Span) (s t : ℕ) (p q : Program) → plan (creates n s) w ≡ granted p → plan (appends n d t) (left largest (creates n s) w) ≡ granted q
    → Holds (left largest (appends n d t) (left largest (creates n s) w)) n d.size d.byte

-- Slot s is the one that the name given to a call means. (A create is given a name that no slot has.)
abbrev pub Names : Volume → Card → Call → ℕ → Type 0
Names v c (creates n seconds) s = ⊥
Names v c (creates_long n t seconds) s = ⊥
Names v c (appends n d seconds) s = s ≡ slot_of v c n
Names v c (truncates n m seconds) s = s ≡ slot_of v c n
Names v c (deletes n) s = s ≡ slot_of v c n
Names v c (renames n m) s = s ≡ slot_of v c n
Names v c (replaces n d seconds) s = s ≡ slot_of v c n
Names v c recovers s = ⊥

-- Slot s of the card y is as in c, its dates among the rest, and so is each byte of its file.
pub record SameFile (l : Layout) (c y : Card) (s : ℕ) : Type 0 where
  pub slot : (j : ℕ) → j < 32 → slot_at l y s j ≡ slot_at l c s j
  pub bytes : (i : ℕ) → i < file_size (slot_at l c s) → file_byte l y (file_at l y s) i ≡ file_byte l c (file_at l c s) i

-- A call, refused or finished, on a clean window with a sound card: every root file that it does not name is as it was, every other name
-- means what it meant and is read as before, and the card is sound again.
pub record KeepsOthers (k : Call) (w : Window) (v : Volume) : Type 0 where
  pub others : (s : ℕ) → s < v.layout.entries → is_file (slot_at v.layout w.card s) ≡ true → (Names v w.card k s → ⊥)
      → SameFile v.layout w.card (finished k w) s
  pub reads : (n : Span) (size : ℕ) (content : Bytes) → Holds w n size content → (Names v w.card k (slot_of v w.card n) → ⊥)
      → Holds (left largest k w) n size content
  pub sound : Sound v.layout (finished k w)

abbrev pub AllKeep : Type 0
AllKeep = (k : Call) (w : Window) (v : Volume) → Genuine w → clean w ≡ granted v → Sound v.layout w.card → KeepsOthers k w v

-- "Respect the read-only mark": each root file that has the mark is as it was, too, whatever the call names.
abbrev pub LockedStays : Type 0
LockedStays = (k : Call) (w : Window) (v : Volume) → Genuine w → clean w ≡ granted v → Sound v.layout w.card
    → (s : ℕ) → s < v.layout.entries → is_file (slot_at v.layout w.card s) ≡ true → is_locked (slot_at v.layout w.card s) ≡ true
    → SameFile v.layout w.card (finished k w) s

-- A window of bytes stays one, under any limit, if what is written is bytes. The card being clean and sound again as well, all this
-- holds of call after call.
abbrev pub OfBytes : Call → Type 0
OfBytes (creates n seconds) = Unit {0}
OfBytes (creates_long n t seconds) = (i : ℕ) → i < t.size → t.byte i < 256
OfBytes (appends n d seconds) = (i : ℕ) → i < d.size → d.byte i < 256
OfBytes (truncates n m seconds) = Unit {0}
OfBytes (deletes n) = Unit {0}
OfBytes (renames n m) = Unit {0}
OfBytes (replaces n d seconds) = (i : ℕ) → i < d.size → d.byte i < 256
OfBytes recovers = Unit {0}

abbrev pub StaysGenuine : Type 0
StaysGenuine = (k : Call) (w : Window) (v : Volume) → Genuine w → clean w ≡ granted v → OfBytes k → (limit : ℕ) → Genuine (left limit k w)
