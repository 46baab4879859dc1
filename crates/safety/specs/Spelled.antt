-- What is read of a long name after the create that was given it, and which slots are its.
use Rattle.std.specs.Prelude.{ℕ, ◌*◌, ◌/◌, ◌≤◌, min, ◌≡◌, List, true}
use Rattle.model.specs.Bytes.{Bytes, Span, overlay}
use Rattle.model.specs.Sector.{Window}
use Rattle.model.specs.Root.{name_ok}
use Rattle.model.specs.Calendar.{last_second}
use Rattle.model.specs.Ground.{refused, granted}
use Rattle.model.specs.Volume.{clean}
use Rattle.model.specs.declared.Volume.{Volume}
use Rattle.model.specs.declared.Ground.TheVariants as Ground
use Rattle.model.specs.Outcome.{Done}
use Rattle.operations.specs.Program.{Program}
use Rattle.operations.specs.Calls.{creates_long, recovers, plan, old_slots, changed_by}
use Rattle.operations.specs.Outcome.{outcome, left, largest}
use Rattle.operations.specs.Reading.{long_name, filled_outcome, buffer_after}
use Rattle.safety.specs.Demand3.{Genuine, finished, recoveries, group_stored}
use Rattle.safety.specs.Saved.{OfBytes}

-- The long name of the file with the name n is the text t: "Read back, the name has exactly the characters given." The buffer gets as many of
-- them as it has room for; the rest of it is left.
pub record Spelled (w : Window) (n t : Span) : Type 0 where
  pub count : (room : ℕ) → filled_outcome (long_name w n room) ≡ Done (t.size / 2)
  pub bytes : (room : ℕ) (b : Bytes) (i : ℕ) → buffer_after (long_name w n room) b i ≡ overlay (2 * min (room / 2) (t.size / 2)) t.byte 0 b i

-- So it is after a create with a long name that finished,
abbrev pub NameReadBack : Type 0
NameReadBack = (w : Window) (v : Volume) → Genuine w → clean w ≡ granted v → (n t : Span) (seconds : ℕ) → OfBytes (creates_long n t seconds)
    → (p : Program) → plan (creates_long n t seconds) w ≡ granted p → Spelled (left largest (creates_long n t seconds) w) n t

-- and after one that was cut once the group's store was on the card, and any recoveries, as soon as one has ended.
abbrev pub NameRecovered : Type 0
NameRecovered = (w : Window) (v : Volume) → Genuine w → clean w ≡ granted v → (n t : Span) (seconds : ℕ) → OfBytes (creates_long n t seconds)
    → (p : Program) → plan (creates_long n t seconds) w ≡ granted p → (limit : ℕ) (limits : List ℕ) (once m : ℕ)
    → group_stored limit (creates_long n t seconds) w ≡ true
    → outcome once (plan recovers (recoveries limits (left limit (creates_long n t seconds) w))) ≡ Done m
    → Spelled (left once recovers (recoveries limits (left limit (creates_long n t seconds) w))) n t

-- The slots of the name are those that the create filled: delete and rename mark them all.
abbrev pub EntriesFound : Type 0
EntriesFound = (w : Window) (v : Volume) → Genuine w → clean w ≡ granted v → (n t : Span) (seconds : ℕ) (p : Program)
    → plan (creates_long n t seconds) w ≡ granted p → old_slots v (finished (creates_long n t seconds) w) n ≡ changed_by v w.card (creates_long n t seconds)

-- "EXISTS also covers a live slot without bit 0x08 whose long name, as read back, has the same characters": a text is given once.
abbrev pub TextTaken : Type 0
TextTaken = (w : Window) (v : Volume) → Genuine w → clean w ≡ granted v → (n t : Span) (seconds : ℕ) → OfBytes (creates_long n t seconds)
    → (p : Program) → plan (creates_long n t seconds) w ≡ granted p
    → (m : Span) (again : ℕ) → again ≤ last_second → name_ok m ≡ true
    → plan (creates_long m t again) (left largest (creates_long n t seconds) w) ≡ refused Ground.Exists
