use Rattle.fat_copy.specs.Change.{lead, own_fat}
use Rattle.fat_write.proofs.Passes.{Linking}
use Rattle.fat_write.proofs.link_sector.Given as goal

abbrev pub invariant-loop-next : goal.invariant-loop-next
invariant-loop-next l = Linking l.l (own_fat l.l l.w) (lead l.last l.first (own_fat l.l l.w)) l.s
    l.initial.next.at l.initial.next.left l.buf l.next.at l.next.left

abbrev pub decreases-loop-next : goal.decreases-loop-next
decreases-loop-next l = l.next.left
