-- Fits: whether so many bytes would fit, and up to which cluster.
use Rattle.std.specs.Prelude.{ℕ, List, ltb, take, length}
use Rattle.model.specs.Bytes.{pick}
use Rattle.model.specs.Sector.{Card, Window}
use Rattle.model.specs.Fat.{free_clusters}
use Rattle.model.specs.Chain.{needed}
use Rattle.model.specs.Ground.{Answer, refused, granted, ◌>>=◌}
use Rattle.model.specs.Volume.{clean}
use Rattle.model.specs.declared.Volume.{Volume}
use Rattle.model.specs.Outcome.{Outcome, Refused, Done, No}
use Rattle.operations.specs.Plan.{old_fat, last_cluster}

-- A yes gives a cluster.
pub data Fit : Type 0 where
  no : Fit
  yes : (cluster : ℕ) → Fit

-- n clusters, where ks are free: "say yes exactly when appending them to an empty file would not meet NOSPACE", so where ks are no fewer
-- than n. "A yes also gives the lowest cluster up to which FAT1 has enough free, 0 for no bytes": the last of the n lowest.
unfoldable pub fit : ℕ → List ℕ → Fit
fit n ks = pick (ltb (length ks) n) no (yes (last_cluster (take n ks)))

-- So many bytes, on a clean card, and on any window: "Answers: grounds 1 to 7 only."
unfoldable pub fits_on : Volume → Card → ℕ → Fit
fits_on v c bytes = fit (needed v.layout bytes) (free_clusters v.layout (old_fat v c))

unfoldable pub fits : Window → ℕ → Answer Fit
fits w bytes = do
  v ← clean w
  granted (fits_on v w.card bytes)

-- "a no gives 0"
unfoldable pub fit_outcome : Answer Fit → Outcome
fit_outcome (refused g) = Refused g
fit_outcome (granted no) = No
fit_outcome (granted (yes k)) = Done k
