-- Laws of the clusters that an append takes.
use Prim.Native.Nat.{ℕ, ◌+◌, ◌-◌, ◌*◌, ◌<◌, ◌≤◌}
use native.Mathlib.Omega.{arith}
use mathlib.Core.Path.{◌≡◌, sym}
use Rattle.model.specs.Chain.{needed}
use Rattle.model.specs.declared.Layout.{Layout}
use Rattle.model.specs.declared.File.{File}
use Rattle.model.proofs.Needed.{needed_none, needed_is, needed_mono, needed_tight, needed_enough}
use Rattle.operations.specs.Plan.{added}

module _ (l : Layout) (one : 1 ≤ l.factor) (f : File) (n : ℕ) where
  pub added_sum : needed l f.size + added l f n ≡ needed l (f.size + n)
  unfolding added
  added_sum = let h : needed l f.size ≤ needed l (f.size + n) = needed_mono l one f.size (f.size + n) (omega arith) in omega arith

  -- By the bytes to spare in the clusters that there are.
  module _ (spare : ℕ) (is : spare ≡ needed l f.size * (512 * l.factor) - f.size) where
    pub added_none : n ≤ spare → added l f n ≡ 0
    unfolding added
    added_none h =
        let lo = needed_enough l one f.size in
        let hi = needed_tight l one f.size in
        let e : needed l (f.size + n) ≡ needed l f.size = needed_is l one (f.size + n) (needed l f.size) (omega arith) (omega arith) in
        omega arith

    pub added_some : spare < n → added l f n ≡ needed l (n - spare)
    unfolding added
    added_some h =
        let b : ℕ = 512 * l.factor in
        let m : ℕ = needed l (n - spare) in
        let lo = needed_enough l one f.size in
        let up = needed_enough l one (n - spare) in
        let down = needed_tight l one (n - spare) in
        let s : (needed l f.size + m) * b ≡ needed l f.size * b + m * b = omega arith in
        let e : needed l (f.size + n) ≡ needed l f.size + m = needed_is l one (f.size + n) (needed l f.size + m) (omega arith) (omega arith) in
        omega arith

  -- To a file of no bytes.
  pub added_empty : f.size ≡ 0 → added l f n ≡ needed l n
  unfolding added
  added_empty none = let z : 0 + n ≡ n = omega arith in rw (none, z, needed_none l one) (omega arith)

  -- The same, with these numbers as code has them.
  module _ (x y z : ℕ) (ex : x ≡ needed l f.size) (ey : y ≡ l.factor) (ez : z ≡ f.size) where
    pub spare_high : x * (512 * y) < f.size + 512 * l.factor
    spare_high = rw (ex, ey) (needed_tight l one f.size)

    pub spare_low : z ≤ x * (512 * y)
    spare_low = rw (ex, ey, ez) (needed_enough l one f.size)

    pub spare_none : n ≤ x * (512 * y) - z → 0 ≡ added l f n
    spare_none h = sym (added_none (x * (512 * y) - z) (rw (ex, ey, ez)) h)

    pub spare_some : x * (512 * y) - z < n → needed l (n - (x * (512 * y) - z)) ≡ added l f n
    spare_some h = sym (added_some (x * (512 * y) - z) (rw (ex, ey, ez)) h)
