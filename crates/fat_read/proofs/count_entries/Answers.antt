use mathlib.Core.Path.{sym, ◌∙◌}
use Prim.Native.Nat.{◌+◌}
use native.Mathlib.Omega.{arith}
use borrow.Author.Tests.{eq-eqb, ne_eqb}
use Rattle.model.specs.Sector.{card_of}
use Rattle.model.specs.Fat.{fat_at}
use Rattle.model.proofs.Scan.{count_none}
use Rattle.model.proofs.Searches.{count_hit, count_miss}
use Rattle.fat_read.specs.Located.{holds}
use Rattle.fat_read.proofs.Laws.{flat}
use Rattle.fat_read.proofs.count_entries.Goals as goal
use Rattle.fat_read.proofs.count_entries.Goals.{then-pair-v, else-pair-v}

pub loop-i-init : goal.loop-i-init
loop-i-init c = (omega arith, sym (count_none _ _))

pub loop-i-preserved : goal.loop-i-preserved
loop-i-preserved c =
    let o = c.loop-i in
    let a = c.args in
    let p = holds a.v (fat_at (card_of a.w.now) a.fat) in
    let k = a.k + o.i in
    let e = flat a.w.now a.fat k _ _ (omega arith) c.pair.ensures.is in
    elim c.if-pair-v.branch [
      | then-pair-v u ↦ (omega arith, u.found-is ∙ count_hit p a.k o.i o.found k o.invariant.1 (omega arith) (eq-eqb _ _ (sym e ∙ u.if-pair-v.true)))
      | else-pair-v u ↦ (omega arith, u.found-is ∙ count_miss p a.k o.i o.found k o.invariant.1 (omega arith) (ne_eqb _ _ (λ q. u.if-pair-v.false (e ∙ q))))
    ]
