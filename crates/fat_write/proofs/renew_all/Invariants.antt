use mathlib.Core.Path.{◌≡◌}
use Prim.Native.Nat.{◌*◌, ◌/◌, ◌%◌}
use Rattle.std.proofs.Common.{Ok}
use Rattle.model.specs.Sector.{card_of}
use Rattle.model.specs.Fat.{fat2_of, entry}
use Rattle.model.specs.Chain.{chain}
use Rattle.model.specs.Promises.{Spent, up_to}
use Rattle.fat_copy.specs.Change.{own_fat}
use Rattle.fat_copy.proofs.Laws.{renewals}
use Rattle.fat_release.specs.Release.{Marked}
use Rattle.fat_write.specs.Allocate.{Above, Moved}
use Rattle.fat_write.specs.Renew.{passed}
use Rattle.fat_write.proofs.renew_all.Given as goal

abbrev pub invariant-loop-s : goal.invariant-loop-s
invariant-loop-s l = record {
  stored : Spent l.initial.limit l.limit (up_to (renewals l.l (passed l.l (own_fat l.l l.initial.w) l.last l.value l.initial.next.at l.initial.next.left
      l.m l.old) (fat2_of l.l (card_of l.initial.w))) l.s) l.initial.w l.w (Ok tt);
  marked : (l.s % 32 ≡ 0 → ⊥) → Marked (chain (entry (own_fat l.l l.initial.w)) l.m l.old) (8192 * (l.s / 32)) l.marks;
  moved : Moved l.l (own_fat l.l l.initial.w) l.s l.initial.next.at l.initial.next.left l.next.at l.next.left;
  above : Above l.s l.next.at l.next.left;
}
