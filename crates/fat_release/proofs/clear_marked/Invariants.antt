use mathlib.Core.Path.{◌≡◌}
use Prim.Native.Nat.{ℕ, ◌+◌, ◌*◌, ◌/◌, ◌<◌, ◌≤◌}
use lib.Dec.{eqb}
use lib.ListN.{get_or}
use Rattle.model.specs.Bytes.{pick}
use Rattle.fat_release.specs.Release.{mark_of}
use Rattle.fat_release.proofs.clear_marked.Given as goal

abbrev pub invariant-loop-k : goal.invariant-loop-k
invariant-loop-k l = record {
  done : (j : ℕ) → j < 16 * l.k → get_or l.buf j 0 ≡ pick (eqb (mark_of l.marks (l.at + j / 2)) 0) (get_or l.initial.buf j 0) 0;
  rest : (j : ℕ) → 16 * l.k ≤ j → get_or l.buf j 0 ≡ get_or l.initial.buf j 0;
}
