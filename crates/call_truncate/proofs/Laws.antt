-- How a truncate ends, by the sizes.
use Prim.Native.Nat.{ℕ, ◌-◌, ◌<◌}
use native.Mathlib.Omega.{arith}
use mathlib.Core.Path.{◌≡◌}
use mathlib.Core.List.{[]}
use borrow.Author.Tests.{lt-ltb, le-ltb, ne_eqb}
use Rattle.model.specs.Sector.{Card}
use Rattle.model.specs.Ground.{refused, granted, ◌when◌, ◌>>◌}
use Rattle.model.specs.declared.File.{File}
use Rattle.model.specs.declared.Ground.{Ground}
use Rattle.model.specs.declared.Volume.{Volume}
use Rattle.operations.specs.Program.{ending}
use Rattle.operations.specs.Plan.{truncate_stores}
use Rattle.operations.specs.Calls.{truncate_as, unless_none}

module _ (c : Card) (v : Volume) (f : File) (size st : ℕ) where
  pub as_longer : f.size < size → truncate_as v c f size st ≡ refused Ground.Length
  unfolding truncate_as ◌when◌ ◌>>◌
  as_longer h = rw (lt-ltb f.size size h)

  pub as_same : f.size ≡ size → truncate_as v c f size st ≡ granted (ending [])
  unfolding truncate_as unless_none ◌when◌ ◌>>◌
  as_same h =
      let z : f.size - size ≡ 0 = omega arith in
      rw (le-ltb f.size size (omega arith), z)

  pub as_shorter : size < f.size → truncate_as v c f size st ≡ granted (truncate_stores v c f size st)
  unfolding truncate_as unless_none ◌when◌ ◌>>◌
  as_shorter h = rw (le-ltb f.size size (omega arith), ne_eqb (f.size - size) 0 (λ e. omega arith))
