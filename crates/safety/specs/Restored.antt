-- What a power cut leaves once a recovery has ended: a clean card, sound if it was, on which every name is read as before the call, or
-- every name as after it. It closes demand 3: the next call finds what the first one found.
use Rattle.std.specs.Prelude.{ℕ, ◌≡◌, ◌⊎◌, Bool, true, false}
use mathlib.Core.List.{List, [], ◌∷◌, Memᴰ}
use Rattle.model.specs.Bytes.{Bytes, Span}
use Rattle.model.specs.Sector.{Window, Card, Store, after}
use Rattle.model.specs.Ground.{granted}
use Rattle.model.specs.Volume.{clean}
use Rattle.model.specs.declared.Volume.{Volume}
use Rattle.model.specs.Outcome.{Done}
use Rattle.operations.specs.Calls.{Call, plan, recovers}
use Rattle.operations.specs.Outcome.{left, largest, outcome}
use Rattle.operations.specs.Reading.{read, filled_outcome, buffer_after}
use Rattle.safety.specs.Sound.{Sound}
use Rattle.safety.specs.Cuts.{program_of, Cut, Later, passes_group}
use Rattle.safety.specs.Demand3.{Genuine, group_stored, recoveries}
use Rattle.safety.specs.Saved.{OfBytes}

-- Read says the same of a name in two windows: the same ground or count, and the same bytes of the lent buffer, from every offset on.
pub record ReadsAs (y z : Window) (n : Span) : Type 0 where
  pub answers : (offset room : ℕ) → filled_outcome (read y n offset room) ≡ filled_outcome (read z n offset room)
  pub buffer : (offset room : ℕ) (b : Bytes) (i : ℕ) → buffer_after (read y n offset room) b i ≡ buffer_after (read z n offset room) b i

-- The window that the second run must come to: the finished one if the group's store was made, else the one at the start.
abbrev pub settles_on : Bool → Call → Window → Window
settles_on true k w = left largest k w
settles_on false k w = w

-- A recovery, under a limit, of the window x that the calls before it have left. v is the volume at the start.
pub record Restores (stored : Bool) (k : Call) (w : Window) (v : Volume) (limit : ℕ) (x : Window) : Type 0 where
  -- Left alone, it ends.
  pub ends : (n : ℕ) × (outcome largest (plan recovers x) ≡ Done n)
  -- If it ends, the card is clean, and its log where it was,
  pub clean_again : (n : ℕ) → outcome limit (plan recovers x) ≡ Done n → clean (left limit recovers x) ≡ granted v
  -- sound, if it was sound at the start,
  pub sound_again : (n : ℕ) → outcome limit (plan recovers x) ≡ Done n → Sound v.layout w.card → Sound v.layout (left limit recovers x).card
  -- and every name is then read as on the finished run's card, or every name as on the one at the start.
  pub reads : (n : ℕ) → outcome limit (plan recovers x) ≡ Done n → Sound v.layout w.card
      → (name : Span) → ReadsAs (left limit recovers x) (settles_on stored k w) name

-- A window of bytes stays one in a recovery, cut or not, whatever the card; and so after a call of bytes that is cut and any recoveries.
abbrev pub RecoveryGenuine : Type 0
RecoveryGenuine = (w : Window) → Genuine w → (limit : ℕ) → Genuine (left limit recovers w)

abbrev pub GenuineAgain : Type 0
GenuineAgain = (k : Call) (w : Window) (v : Volume) → Genuine w → clean w ≡ granted v → OfBytes k
    → (limit : ℕ) (limits : List ℕ) → Genuine (recoveries limits (left limit k w))

-- For all that demand 3 speaks of, and on a card that holds stores back.
abbrev pub Restored : Type 0
Restored = (k : Call) (w : Window) (v : Volume) → Genuine w → clean w ≡ granted v → (limit : ℕ) (limits : List ℕ) (once : ℕ)
    → Restores (group_stored limit k w) k w v once (recoveries limits (left limit k w))

abbrev pub RestoredBack : Type 0
RestoredBack = (k : Call) (w : Window) (v : Volume) → Genuine w → clean w ≡ granted v
    → (zs : List Store) (cut : Cut (program_of (plan k w)) zs) (y : Card) → Later w.size (after zs w.card) y
    → (once : ℕ) → Restores (passes_group (program_of (plan k w)) zs cut) k w v once (record { size = w.size; card = y })

-- "A power cut during a save leaves each file as it was or as it was to be": on a sound card, any call cut anywhere, any recoveries cut
-- anywhere, and one that ends.
abbrev pub OldOrNew : Type 0
OldOrNew = (k : Call) (w : Window) (v : Volume) → Genuine w → clean w ≡ granted v → Sound v.layout w.card
    → (limit : ℕ) (limits : List ℕ) (once n : ℕ) → outcome once (plan recovers (recoveries limits (left limit k w))) ≡ Done n
    → ((name : Span) → ReadsAs (left once recovers (recoveries limits (left limit k w))) w name)
    ⊎ ((name : Span) → ReadsAs (left once recovers (recoveries limits (left limit k w))) (left largest k w) name)

-- An episode: a call, cut by a limit or not, recoveries after it, and one that is left alone.
pub record Episode : Type 0 where
  pub call : Call
  pub limit : ℕ
  pub limits : List ℕ

abbrev pub episodes : List Episode → Window → Window
episodes [] w = w
episodes (s ∷ ss) w = episodes ss (left largest recovers (recoveries s.limits (left s.limit s.call w)))

-- A clean, sound card of bytes, with the volume v.
pub record InOrder (w : Window) (v : Volume) : Type 0 where
  pub genuine : Genuine w
  pub cleans : clean w ≡ granted v
  pub sound : Sound v.layout w.card

-- Whatever is called and wherever the power goes, call after call, the card stays in order. So all that is promised of a call on a
-- clean and sound card holds of every one.
abbrev pub StaysInOrder : Type 0
StaysInOrder = (ss : List Episode) → ((s : Episode) → Memᴰ s ss → OfBytes s.call) → (w : Window) (v : Volume) → InOrder w v → InOrder (episodes ss w) v
