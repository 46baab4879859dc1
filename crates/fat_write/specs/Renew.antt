-- The FAT after a change of one file: clusters linked after the last that is kept, and clusters freed, both at once.
use Rattle.std.specs.Prelude.{ℕ, ◌+◌, List, [], ◌∷◌, ◌++◌, eqb, length, take}
use Rattle.model.specs.Bytes.{pick}
use Rattle.model.specs.Fat.{Fat, entry, free_clusters, link, release}
use Rattle.model.specs.Chain.{chain}
use Rattle.model.specs.declared.Layout.{Layout}
use Rattle.operations.specs.Plan.{exchange}
use Rattle.fat_copy.specs.Change.{lead}
use Rattle.fat_write.specs.Allocate.{news}

-- `last`, the last cluster kept (0 where none is), leads to the first of the clusters `new`, each of these to the next, and the
-- end of the chain follows; the entries of the clusters `freed` are 0. Where nothing is new and nothing freed, all stays.
unfoldable pub renewed : ℕ → List ℕ → List ℕ → Fat → Fat
renewed last new freed t = pick (eqb (length new + length freed) 0) t (release freed (link (pick (eqb last 0) [] (last ∷ []) ++ new) t))

-- No cluster is kept: the n lowest free ones are linked among themselves, the m clusters from `old` on freed.
abbrev pub exchanged : Layout → Fat → ℕ → ℕ → ℕ → Fat
exchanged l t n old m = exchange (chain (entry t) m old) (take n (free_clusters l t)) t

-- As a pass makes it: `last` leads to `value`, the n new clusters from `first` on are linked, the m clusters of the chain from
-- `old` on are freed.
abbrev pub passed : Layout → Fat → ℕ → ℕ → ℕ → ℕ → ℕ → ℕ → Fat
passed l t last value first n m old = release (chain (entry t) m old) (link (news l t first n) (lead last value t))
