use mathlib.Core.Path.{sym}
use Prim.Native.Nat.{◌<◌}
use native.Mathlib.Omega.{arith}
use borrow.Author.Tests.{eq-eqb, ne_eqb, lt-leb}
use Rattle.model.specs.Sector.{card_of}
use Rattle.model.specs.Fat.{fat1_of, entry}
use Rattle.model.specs.Chain.{needed, keeps_chain}
use Rattle.model.proofs.Walks.{ends_many}
use Rattle.fat_chain.proofs.keeps.Goals as goal

pub returns-then-size-eq0 : goal.returns-then-size-eq0
unfolding keeps_chain
returns-then-size-eq0 c = rw (eq-eqb _ _ c.if-size-eq0.true)

pub returns-then-n-l : goal.returns-then-n-l
unfolding keeps_chain
returns-then-n-l c = rw (ne_eqb _ _ c.if-size-eq0.false, ← c.clusters_for-n.ensures) c.ends.ensures

pub returns-else-n-l : goal.returns-else-n-l
unfolding keeps_chain
returns-else-n-l c =
    let a = c.args in
    let more : a.l.clusters < needed a.l a.size = omega (arith, c.clusters_for-n.ensures) in
    rw (ne_eqb _ _ c.if-size-eq0.false, lt-leb _ _ c.if-n-l.false)
    (sym (ends_many a.l (omega arith) (entry (fat1_of a.l (card_of a.w.now))) (needed a.l a.size) a.first more))
