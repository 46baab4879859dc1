-- Where a chain is cut.
use Rattle.std.specs.Prelude.{ℕ, ◌≡◌, get_or, take, drop}
use Rattle.model.specs.Fat.{Fat, entry}
use Rattle.model.specs.Chain.{chain, needed}
use Rattle.model.specs.declared.File.{File}
use Rattle.model.specs.declared.Layout.{Layout}
use Rattle.operations.specs.Plan.{clusters_of, shorten}
use Rattle.fat_release.specs.Release.{cut, Inside}
use Rattle.call_truncate.specs.declared.Tail.{Tail}

-- The chain of a file is cut as a smaller size wants it: the FAT that a truncate makes is the one in which the freed clusters are
-- freed, the first of these is the one that its record names, and all of them lie on the card.
pub record Parts (l : Layout) (t : Fat) (f : File) (size : ℕ) (r : Tail) : Type 0 where
  pub fat : shorten (take (needed l size) (clusters_of l t f)) (drop (needed l size) (clusters_of l t f)) t ≡ cut t r.kept r.from r.freed
  pub from : r.from ≡ get_or (drop (needed l size) (clusters_of l t f)) 0 0
  pub inside : Inside l (chain (entry t) r.freed r.from)
