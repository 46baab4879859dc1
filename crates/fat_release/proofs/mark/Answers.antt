use Prim.Native.Nat.{◌-◌}
use native.Mathlib.Omega.{arith}
use Rattle.fat_release.proofs.Laws.{mark_set, mark_at}
use Rattle.fat_release.proofs.mark.Goals as goal

pub returns-then-k-from-lt8192 : goal.returns-then-k-from-lt8192
returns-then-k-from-lt8192 c =
    let a = c.args in
    λ i h. rw (← mark_at a.from a.k i (omega arith)) (mark_set a.marks.now (a.k - a.from) (omega arith) i)
