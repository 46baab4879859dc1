-- Words that the contracts use: the clusters that an append writes along, and a cursor on them.
use Rattle.std.specs.Prelude.{ℕ, ◌+◌, ◌-◌, ◌<◌, ◌≤◌, List, ◌++◌, ltb, length, take, get_or}
use Rattle.model.specs.Bytes.{Span, pick}
use Rattle.model.specs.Scan.{first_from}
use Rattle.model.specs.Sector.{Card, Store}
use Rattle.model.specs.Fat.{Fat, entry, is_free, fat1_of, free_clusters}
use Rattle.model.specs.declared.Layout.{Layout}
use Rattle.model.specs.declared.File.{File}
use Rattle.operations.specs.Plan.{clusters_of, added, data_stores}
use Rattle.file_read.specs.Files.{Proper}
use Rattle.file_append.specs.declared.Cursor.{Cursor}

-- The clusters of a file once n bytes are appended: its own, and "the lowest free ones, in rising order".
abbrev pub extended : Layout → Fat → File → ℕ → List ℕ
extended l t f n = clusters_of l t f ++ take (added l f n) (free_clusters l t)

-- "1. Append only: the data sectors that get new bytes": the stores of these.
abbrev pub append_data : Layout → Card → File → Span → List Store
append_data l c f d = data_stores l c (extended l (fat1_of l c) f d.size) f.size d

-- A file that keeps the chain rule, on a card with room for n bytes more.
pub record Room (l : Layout) (c : Card) (f : File) (n : ℕ) : Type 0 where
  pub chain : Proper l c f
  pub enough : added l f n ≤ length (free_clusters l (fat1_of l c))
  pub small : f.size + n < 4294967296

-- The first of n new clusters, 0 if there is none.
abbrev pub first_new : Layout → Card → ℕ → ℕ
first_new l c n = get_or (take n (free_clusters l (fat1_of l c))) 0 0

-- A cursor moved to cluster number x: where it is, or at the next free cluster.
unfoldable pub moved : Layout → Fat → Cursor → ℕ → Cursor
moved l t p x =
    let k = first_from (λ j. is_free (entry t j)) p.from (l.clusters + 2 - p.from) in
    pick (ltb x p.passed) p (record { cluster = k; passed = p.passed + 1; from = k + 1 })
