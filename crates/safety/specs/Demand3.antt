-- Demand 3, as a statement. "Two runs begin from one clean card with the same operation. The first is left to finish. In the second the
-- power goes after whichever number of sector stores; recoveries follow, whatever their number and wherever each is itself cut, until
-- one ends."
use Rattle.std.specs.Prelude.{ℕ, ◌/◌, ◌<◌, ◌≡◌, List, [], ◌∷◌, Bool, true, false}
use Rattle.model.specs.Sector.{Window, clip, Card, Store, after}
use Rattle.model.specs.Fat.{fat1_of, fat2_of}
use Rattle.model.specs.Root.{root_place, is_file, slot_at, file_size, file_at}
use Rattle.model.specs.Ground.{granted}
use Rattle.model.specs.Volume.{clean}
use Rattle.model.specs.declared.Ground.{Ground}
use Rattle.model.specs.declared.Layout.{Layout}
use Rattle.model.specs.declared.Volume.{Volume}
use Rattle.model.specs.Outcome.{Refused, Done}
use Rattle.operations.specs.Program.{ending}
use Rattle.operations.specs.Calls.{recovers, Call, plan}
use Rattle.operations.specs.Outcome.{left, largest, outcome}
use Rattle.operations.specs.Reading.{file_byte}
use Rattle.safety.specs.Sound.{Sound}
use Rattle.safety.specs.Cuts.{reaches_group, program_of, Cut, Later, passes_group}

-- A window of bytes: each below 256, 512 to a sector. The window of every slice of bytes is one.
pub record Genuine (w : Window) : Type 0 where
  pub sectors : (n : ℕ) → clip (w.card n) ≡ w.card n
  pub bytes : (n j : ℕ) → w.card n j < 256

-- "recoveries, each with any limit, on the card the last call left"
abbrev pub recoveries : List ℕ → Window → Window
recoveries [] w = w
recoveries (limit ∷ limits) w = recoveries limits (left limit recovers w)

-- "The first run is the same operation alone, with the largest limit."
abbrev pub finished : Call → Window → Card
finished k w = (left largest k w).card

-- "the store of the log record was on the card at the first cut"
abbrev pub group_stored : ℕ → Call → Window → Bool
group_stored limit k w = reaches_group (program_of (plan k w)) limit

-- The card that the second run must come to: the finished one if the group's store was made, else the one at the start.
abbrev pub settles_as : Bool → Call → Window → Card
settles_as true k w = finished k w
settles_as false k w = w.card

-- "the same two FATs and root directory, byte for byte"
pub record SameTables (l : Layout) (y z : Card) : Type 0 where
  pub fat1 : (s : ℕ) → s < l.fatsize → fat1_of l y s ≡ fat1_of l z s
  pub fat2 : (s : ℕ) → s < l.fatsize → fat2_of l y s ≡ fat2_of l z s
  pub root : (r : ℕ) → r < l.entries / 16 → y (root_place l r) ≡ z (root_place l r)

-- "every root file's bytes": those of every root file of z are the same in y.
abbrev pub SameFiles : Layout → Card → Card → Type 0
SameFiles l y z = (s : ℕ) → s < l.entries → is_file (slot_at l z s) ≡ true
    → (i : ℕ) → i < file_size (slot_at l z s) → file_byte l y (file_at l y s) i ≡ file_byte l z (file_at l z s) i

-- A recovery, under a limit, of the window x that the calls before it have left. v is the volume at the start.
pub record Settles (stored : Bool) (k : Call) (w : Window) (v : Volume) (limit : ℕ) (x : Window) : Type 0 where
  -- "None of them may be refused."
  pub accepted : (g : Ground) → outcome limit (plan recovers x) ≡ Refused g → ⊥
  -- If it ends, "both runs then have the same two FATs and root directory, byte for byte", or "the second has them as they were at
  -- the start",
  pub tables : (n : ℕ) → outcome limit (plan recovers x) ≡ Done n → SameTables v.layout (left limit recovers x).card (settles_as stored k w)
  -- "Where no two root files shared a cluster at the start, and each had a proper chain, the same holds for every root file's bytes",
  pub files : (n : ℕ) → outcome limit (plan recovers x) ≡ Done n → Sound v.layout w.card
      → SameFiles v.layout (left limit recovers x).card (settles_as stored k w)
  -- and "any recovery after that stores nothing".
  pub rests : (n : ℕ) → outcome limit (plan recovers x) ≡ Done n → plan recovers (left limit recovers x) ≡ granted (ending [])

-- "any operation the log can hold on a clean card, with any limit, then any number of recoveries, each with any limit, on the card the
-- last call left". What is said of the one recovery after `limits` holds of each, since these are any.
abbrev pub Demand3 : Type 0
Demand3 = (k : Call) (w : Window) (v : Volume) → Genuine w → clean w ≡ granted v → (limit : ℕ) (limits : List ℕ) (once : ℕ)
    → Settles (group_stored limit k w) k w v once (recoveries limits (left limit k w))

-- The same on a card that holds stores back and lets none pass a barrier: any cut of the call, then any cuts of recoveries, then one more.
abbrev pub HeldBack : Type 0
HeldBack = (k : Call) (w : Window) (v : Volume) → Genuine w → clean w ≡ granted v
    → (zs : List Store) (cut : Cut (program_of (plan k w)) zs) (y : Card) → Later w.size (after zs w.card) y
    → (once : ℕ) → Settles (passes_group (program_of (plan k w)) zs cut) k w v once (record { size = w.size; card = y })
