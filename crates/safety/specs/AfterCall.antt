-- What else is promised of every call on a clean card, and of every recovery.
use Rattle.std.specs.Prelude.{ℕ, ◌+◌, ◌<◌, ◌≡◌, ◌&&◌, ◌||◌, not, length}
use mathlib.Core.List.{[], Memᴰ}
use Rattle.model.specs.Scan.{among}
use Rattle.model.specs.Sector.{Window, Store}
use Rattle.model.specs.Boot.{layout}
use Rattle.model.specs.Fat.{is_free, entry, fat1_of}
use Rattle.model.specs.Ground.{granted}
use Rattle.model.specs.Volume.{clean}
use Rattle.model.specs.declared.Volume.{Volume}
use Rattle.model.specs.Outcome.{Done}
use Rattle.operations.specs.Program.{Program, stores, ending}
use Rattle.operations.specs.Calls.{Call, plan, released_by, taken_by, recovers}
use Rattle.operations.specs.Outcome.{outcome, largest, left}
use Rattle.safety.specs.Cuts.{program_of}
use Rattle.safety.specs.Demand3.{finished, Genuine}

-- A call on the clean window w, whose volume is v.
pub record AfterCall (k : Call) (w : Window) (v : Volume) : Type 0 where
  -- With the largest limit it ends.
  pub ends : (p : Program) → plan k w ≡ granted p → outcome largest (plan k w) ≡ Done (length (stores p))
  -- The card is then clean, and its log where it was.
  pub clean_again : clean (left largest k w) ≡ granted v
  -- "Free clusters after a finished call are those before, less those taken, plus those released."
  pub free_clusters_then : (p : Program) → plan k w ≡ granted p → (j : ℕ) → j < 2 + v.layout.clusters
      → is_free (entry (fat1_of v.layout (finished k w)) j)
      ≡ (among (released_by v w.card k) j || (is_free (entry (fat1_of v.layout w.card) j) && not (among (taken_by v w.card k) j)))
  -- Every store is within the card.
  pub within : (s : Store) → Memᴰ s (stores (program_of (plan k w))) → s.sector < v.layout.total

abbrev pub AfterCalls : Type 0
AfterCalls = (k : Call) (w : Window) (v : Volume) → Genuine w → clean w ≡ granted v → AfterCall k w v

-- Recovery of a clean card stores nothing.
abbrev pub RecoveryRests : Type 0
RecoveryRests = (w : Window) (v : Volume) → Genuine w → clean w ≡ granted v → plan recovers w ≡ granted (ending [])

-- On any window that recovery accepts, its stores are within the card.
abbrev pub RecoveryWithin : Type 0
RecoveryWithin = (w : Window) (p : Program) → plan recovers w ≡ granted p
    → (s : Store) → Memᴰ s (stores p) → s.sector < (layout (w.card 0)).total
