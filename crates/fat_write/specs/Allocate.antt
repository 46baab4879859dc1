-- The FAT in which the lowest free clusters are linked after a file's last, and how far a pass over it has come.
use Rattle.std.specs.Prelude.{ℕ, ◌+◌, ◌-◌, ◌*◌, ◌<◌, ◌≤◌, ◌≡◌, true, List, [], ◌∷◌, ◌++◌, eqb, length, take}
use Rattle.model.specs.Bytes.{pick}
use Rattle.model.specs.Scan.{indices_from, first_from}
use Rattle.model.specs.Fat.{Fat, end_value, free_clusters, link}
use Rattle.model.specs.declared.Layout.{Layout}
use Rattle.fat_read.specs.Located.{holds}

-- The n lowest free clusters linked after `last`; 0 where the file has none.
unfoldable pub grown : Layout → Fat → ℕ → ℕ → Fat
grown l t last n = pick (eqb n 0) t (link (pick (eqb last 0) [] (last ∷ []) ++ take n (free_clusters l t)) t)

-- The free clusters from k on, rising, and the first of them, as many as are left to link.
unfoldable pub free_from : Layout → Fat → ℕ → List ℕ
free_from l t k = indices_from (holds 0 t) k (l.clusters + 2 - k)

unfoldable pub news : Layout → Fat → ℕ → ℕ → List ℕ
news l t at left = take left (free_from l t at)

-- What new cluster `at` leads to.
unfoldable pub following : Layout → Fat → ℕ → ℕ → ℕ
following l t at left = pick (eqb left 1) end_value (first_from (holds 0 t) (at + 1) (l.clusters + 1 - at))

-- The next new cluster: `left` are still to be linked, from `at` on as many are free, and `at` is the first of them.
pub record NextNew (l : Layout) (t : Fat) (at left : ℕ) : Type 0 where
  pub enough : left ≤ length (free_from l t at)
  pub inside : 0 < left → at < l.clusters + 2
  pub free : 0 < left → holds 0 t at ≡ true

-- None of them lies in a sector before s.
abbrev pub Above : ℕ → ℕ → ℕ → Type 0
Above s at left = 0 < left → 256 * s ≤ at

-- The next new cluster was `at` and is k, with n left; from sector s on this makes no difference.
pub record Moved (l : Layout) (t : Fat) (s at left k n : ℕ) : Type 0 where
  pub next : NextNew l t k n
  pub later : (f : Fat) (r : ℕ) → s ≤ r → link (news l t k n) f r ≡ link (news l t at left) f r
