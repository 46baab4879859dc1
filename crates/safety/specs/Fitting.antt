-- What fits tells, beside the calls whose room it asks for.
use Rattle.std.specs.Prelude.{ℕ, ◌+◌, ◌-◌, ◌≤◌, ◌<◌, max, ◌≡◌, List, [], ◌∷◌}
use Rattle.model.specs.Bytes.{Span}
use Rattle.model.specs.Scan.{count_from}
use Rattle.model.specs.Sector.{Card, Window}
use Rattle.model.specs.Fat.{is_free, entry, fat1_of}
use Rattle.model.specs.Chain.{needed}
use Rattle.model.specs.Calendar.{last_second}
use Rattle.model.specs.Ground.{refused, granted}
use Rattle.model.specs.Volume.{clean}
use Rattle.model.specs.declared.File.{File}
use Rattle.model.specs.declared.Layout.{Layout}
use Rattle.model.specs.declared.Volume.{Volume}
use Rattle.model.specs.declared.Access.TheVariants as Access
use Rattle.model.specs.declared.Ground.TheVariants as Ground
use Rattle.operations.specs.Program.{Program}
use Rattle.operations.specs.Calls.{Call, creates, appends, replaces, plan, file_of, taken_by}
use Rattle.operations.specs.Outcome.{left, largest}
use Rattle.operations.specs.Fitting.{yes, no, fits}
use Rattle.safety.specs.Demand3.{Genuine}
use Rattle.safety.specs.Saved.{Holds}

-- The highest of a list of clusters, 0 if there is none.
unfoldable pub highest : List ℕ → ℕ
highest [] = 0
highest (k ∷ ks) = max k (highest ks)

-- "say yes exactly when appending them to an empty file would not meet NOSPACE": a call that takes clusters for so many bytes, on the clean
-- window w, whose volume is v.
pub record Tells (w : Window) (v : Volume) (bytes : ℕ) (k : Call) : Type 0 where
  pub says_no : plan k w ≡ refused Ground.Nospace → fits w bytes ≡ granted no
  -- The cluster given is the highest that the call takes.
  pub says_yes : (plan k w ≡ refused Ground.Nospace → ⊥) → fits w bytes ≡ granted (yes (highest (taken_by v w.card k)))
  -- After a yes the call is refused on no ground.
  pub goes_on : (cluster : ℕ) → fits w bytes ≡ granted (yes cluster) → (p : Program) × (plan k w ≡ granted p)

-- The name n means an empty file, which may be written. CLOCK, which is asked before, passes the seconds given.
abbrev pub Empty : Volume → Card → Span → Type 0
Empty v c n = (f : File) × (file_of Access.Write v c n ≡ granted f) × (f.size ≡ 0)

abbrev pub FitsAppend : Type 0
FitsAppend = (w : Window) (v : Volume) → clean w ≡ granted v → (n d : Span) (seconds : ℕ) → seconds ≤ last_second → Empty v w.card n
    → Tells w v d.size (appends n d seconds)

-- A replace needs the same room, whatever the file has.
abbrev pub FitsReplace : Type 0
FitsReplace = (w : Window) (v : Volume) → clean w ≡ granted v → (n d : Span) (seconds : ℕ) → seconds ≤ last_second
    → (f : File) → file_of Access.Write v w.card n ≡ granted f → Tells w v d.size (replaces n d seconds)

-- "the lowest cluster up to which FAT1 has enough free, 0 for no bytes". How many of the clusters up to k are free in FAT1:
unfoldable pub free_up_to : Layout → Card → ℕ → ℕ
free_up_to l c k = count_from (λ j. is_free (entry (fat1_of l c) j)) 2 (k - 1)

pub record Lowest (l : Layout) (c : Card) (n k : ℕ) : Type 0 where
  pub within : k ≤ l.clusters + 1
  pub enough : n ≤ free_up_to l c k
  pub lowest : (j : ℕ) → j < k → free_up_to l c j < n

abbrev pub FitsLowest : Type 0
FitsLowest = (w : Window) (v : Volume) → clean w ≡ granted v → (bytes cluster : ℕ) → fits w bytes ≡ granted (yes cluster)
    → Lowest v.layout w.card (needed v.layout bytes) cluster

-- So a path that fits, and whose new name is not refused, is saved: it is read again as it was given.
abbrev pub FittingSaved : Type 0
FittingSaved = (w : Window) (v : Volume) → Genuine w → clean w ≡ granted v
    → (n d : Span) (cluster : ℕ) → fits w d.size ≡ granted (yes cluster) → (s t : ℕ) → t ≤ last_second → (p : Program) → plan (creates n s) w ≡ granted p
    → Holds (left largest (appends n d t) (left largest (creates n s) w)) n d.size d.byte
