-- The clusters that a size needs, as a quotient rounded up.
use Prim.Native.Nat.{ℕ, ◌*◌, ◌≤◌}
use native.Mathlib.Omega.{arith}
use mathlib.Core.Path.{◌≡◌}
use Rattle.std.specs.Int.{div_ceil}
use Rattle.std.proofs.lemmas.Grind.{div_ceil_times}
use Rattle.model.specs.Chain.{needed}
use Rattle.model.specs.declared.Layout.{Layout}
use Rattle.model.proofs.Needed.{needed_is}

pub needed_ceil : (l : Layout) → 1 ≤ l.factor → (n : ℕ) → needed l n ≡ div_ceil n (512 * l.factor)
needed_ceil l one n = let t = div_ceil_times n (512 * l.factor) (omega arith) in needed_is l one n (div_ceil n (512 * l.factor)) t.0 t.1
