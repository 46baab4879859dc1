-- Laws of an append's data sectors: the old bytes, the new, and zeros after the end.
use Prim.Native.Nat.{ℕ, ◌+◌, ◌-◌, ◌*◌, ◌<◌, ◌≤◌}
use native.Mathlib.Omega.{arith}
use mathlib.Core.Path.{◌≡◌}
use borrow.Author.Tests.{lt-ltb, le-ltb}
use Rattle.model.specs.Bytes.{Bytes, Span}
use Rattle.operations.specs.Plan.{appended}

module _ (b : Bytes) (old : ℕ) (d : Span) (q j : ℕ) where
  pub appended_old : 512 * q + j < old → appended b old d q j ≡ b j
  unfolding appended
  appended_old h = rw (lt-ltb (512 * q + j) old h)

  pub appended_new : old ≤ 512 * q + j → 512 * q + j < old + d.size → appended b old d q j ≡ d.byte (512 * q + j - old)
  unfolding appended
  appended_new h l = rw (le-ltb (512 * q + j) old h, lt-ltb (512 * q + j) (old + d.size) l)

  pub appended_zero : old + d.size ≤ 512 * q + j → appended b old d q j ≡ 0
  unfolding appended
  appended_zero h = rw (le-ltb (512 * q + j) old (omega arith), le-ltb (512 * q + j) (old + d.size) h)
