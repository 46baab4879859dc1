use native.Mathlib.Omega.{arith}
use Rattle.model.specs.Sector.{card_of}
use Rattle.file_append.proofs.Clusters.{first_is_free}
use Rattle.file_append.proofs.first_new.Goals as goal

pub returns : goal.returns
returns c =
    let pre = c.requires in
    let a = c.args in
    first_is_free a.l (card_of a.w.now) a.n c.next_free.result (omega arith) pre.1 c.next_free.ensures.0
