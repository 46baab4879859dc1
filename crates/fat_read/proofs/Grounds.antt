-- Ground 4 by where the log was found.
use native.Mathlib.Omega.{arith}
use mathlib.Core.Path.{◌≡◌}
use Rattle.model.specs.Fat.{Fat}
use Rattle.model.specs.Ground.{refused, granted, ◌when◌, ◌>>◌}
use Rattle.model.specs.Volume.{locate}
use Rattle.model.specs.declared.Layout.{Layout}
use Rattle.model.specs.declared.Area.{Area}
use Rattle.model.specs.declared.Ground.TheVariants as Ground
use Rattle.fat_read.specs.Located.{located}
use Rattle.std.specs.Prelude.{Some, None}

module _ (l : Layout) (f : Fat) where
  pub locate_nowhere : located l f ≡ None → locate l f ≡ refused Ground.Logarea
  unfolding located locate ◌when◌ ◌>>◌
  locate_nowhere h = grind arith

  pub locate_at : (a : Area) → located l f ≡ Some a → locate l f ≡ granted a
  unfolding located locate ◌when◌ ◌>>◌
  locate_at a h = grind arith
