-- What a volume that is given is like; grounds 4 to 6.
use Rattle.std.specs.Prelude.{List, ℕ}
use Rattle.model.specs.Sector.{Card}
use Rattle.model.specs.Fat.{fat1_of}
use Rattle.model.specs.Pending.{pending}
use Rattle.model.specs.Ground.{Answer, ◌>>=◌}
use Rattle.model.specs.Volume.{locate, inspect}
use Rattle.model.specs.Promises.{Held}
use Rattle.model.specs.declared.Layout.{Layout}
use Rattle.model.specs.declared.Volume.{Volume}
use Rattle.fat_read.specs.Located.{Lies}

-- The window holds a card of the volume's layout, and its log lies there.
pub record Carried (v : Volume) (xs : List ℕ) : Type 0 where
  pub held : Held v.layout xs
  pub lies : Lies v.layout v.log

-- Grounds 4 to 6, on a card whose layout is known.
unfoldable pub examine_on : Card → Layout → Answer Volume
examine_on c l = locate l (fat1_of l c) >>= λ a. inspect c l a (pending l a c)
