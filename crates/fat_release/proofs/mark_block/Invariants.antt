use Prim.Native.Nat.{◌-◌}
use Rattle.model.specs.Fat.{entry}
use Rattle.model.specs.Chain.{chain}
use Rattle.fat_copy.specs.Change.{own_fat}
use Rattle.fat_release.specs.Release.{Inside}
use Rattle.fat_release.proofs.Laws.{Marking}
use Rattle.fat_release.proofs.mark_block.Given as goal

abbrev pub invariant-loop : goal.invariant-loop
invariant-loop l = record {
  inside : Inside l.l (chain (entry (own_fat l.l l.w)) (l.m - l.counter) l.k);
  marked : Marking (entry (own_fat l.l l.w)) l.from l.first l.m l.marks l.k (l.m - l.counter);
}
