use Prim.Native.Nat.{◌+◌}
use native.Mathlib.Omega.{arith}
use Rattle.model.specs.Sector.{card_of}
use Rattle.model.specs.Fat.{fat_at}
use Rattle.model.proofs.Scan.{count_none}
use Rattle.fat_read.specs.Located.{holds}
use Rattle.fat_read.proofs.Laws.{flat, unseen}
use Rattle.fat_read.proofs.is_among.Goals as goal

pub loop-i-init : goal.loop-i-init
loop-i-init c = λ _. count_none _ _

pub loop-i-preserved : goal.loop-i-preserved
loop-i-preserved c =
    let o = c.loop-i in
    let a = c.args in
    let p = holds a.v (fat_at (card_of a.w.now) a.fat) in
    let e = flat a.w.now a.fat (a.k + o.i) _ _ (omega arith) c.pair.ensures.is in
    λ h. unseen p a.k o.i (a.k + o.i) o.seen (omega arith) o.invariant (rw e at h)
