use mathlib.Core.Path.{◌≡◌}
use mathlib.Core.Bool.{false}
use Prim.Native.Nat.{ℕ, ◌+◌, ◌/◌, ◌<◌}
use lib.ListN.{get_or}
use Rattle.fat_release.proofs.has_mark.Given as goal

abbrev pub invariant-loop-i : goal.invariant-loop-i
invariant-loop-i l = l.seen ≡ false → (m : ℕ) → m < l.i → get_or l.marks (l.at / 8 + m) 0 ≡ 0
