-- What files are like that were found by name; the slot for a new name.
use Rattle.std.specs.Prelude.{ℕ, ◌+◌, ◌-◌, ◌<◌, ◌≡◌, true, ltb}
use Rattle.model.specs.Bytes.{pick}
use Rattle.model.specs.Sector.{Card}
use Rattle.model.specs.Fat.{entry, fat1_of}
use Rattle.model.specs.Chain.{keeps_chain}
use Rattle.model.specs.Root.{free_run, file_at}
use Rattle.model.specs.Ground.{Answer, refused, granted}
use Rattle.model.specs.declared.File.{File}
use Rattle.model.specs.declared.Layout.{Layout}
use Rattle.model.specs.declared.Volume.{Volume}
use Rattle.model.specs.declared.Ground.TheVariants as Ground

-- The file is the one in its slot.
pub record Seated (v : Volume) (c : Card) (f : File) : Type 0 where
  pub slot : f.entry.slot < v.layout.entries
  pub is : f ≡ file_at v.layout c f.entry.slot

-- It keeps the chain rule too.
pub record Chained (v : Volume) (c : Card) (f : File) : Type 0 where
  pub seated : Seated v c f
  pub chain : keeps_chain v.layout (entry (fat1_of v.layout c)) f.first f.size ≡ true

-- The last slot of the lowest run of n + 1 free ones, or ROOTFULL.
unfoldable pub run_answer : Layout → Card → ℕ → Answer ℕ
run_answer l c n = pick (ltb (free_run l c (n + 1)) (l.entries + 1 - (n + 1))) (granted (free_run l c (n + 1) + n)) (refused Ground.Rootfull)
