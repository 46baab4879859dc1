use Prim.Native.Nat.{ℕ, ◌*◌, ◌<◌}
use mathlib.Core.Path.{◌≡◌}
use lib.ListN.{length, get_or}
use Rattle.formatting.specs.Fresh.{fresh_fat}
use Rattle.call_format.proofs.fill_fat.Given as goal

abbrev pub invariant-loop-k : goal.invariant-loop-k
invariant-loop-k l = (length l.buf ≡ 512) × ((m : ℕ) → m < 2 * l.k → get_or l.buf m 0 ≡ fresh_fat l.n 0 m)
