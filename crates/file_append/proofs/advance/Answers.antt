use Rattle.model.specs.Sector.{card_of}
use native.Mathlib.Omega.{arith}
use Rattle.model.specs.Fat.{fat1_of}
use Rattle.file_append.proofs.Clusters.{moved_not, moved_on}
use Rattle.file_append.proofs.advance.Goals as goal

pub returns-then-x-p : goal.returns-then-x-p
returns-then-x-p c =
    let a = c.args in
    moved_not a.l (fat1_of a.l (card_of a.w.now)) a.p a.x c.if-x-p.true

pub returns : goal.returns
returns c =
    let a = c.args in
    moved_on a.l (fat1_of a.l (card_of a.w.now)) a.p a.x c.next_free-cluster.result (omega arith) c.next_free-cluster.ensures.0
