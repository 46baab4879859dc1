use native.Mathlib.Omega.{arith}
use Rattle.model.specs.Sector.{card_of}
use Rattle.call_outcome.proofs.Ends.{did_refused, did_none, did_spent}
use Rattle.call_truncate.proofs.Laws.{as_longer, as_same, as_shorter}
use Rattle.call_truncate.proofs.truncate_as.Goals as goal

pub returns-then-present-size : goal.returns-then-present-size
returns-then-present-size c =
    let a = c.args in rw (as_longer (card_of a.w.now) a.v a.f a.size a.stamp (omega arith)) (did_refused a.limit _ a.w.now)

pub returns-then-present-size-2 : goal.returns-then-present-size-2
returns-then-present-size-2 c =
    let a = c.args in
    rw (as_same (card_of a.w.now) a.v a.f a.size a.stamp (omega arith)) (did_none a.limit a.w.now)

pub truncate_file-stored-requires : goal.truncate_file-stored-requires
truncate_file-stored-requires c = record { ready = c.requires.ready; chained = (c.requires.chained, omega arith) }

pub returns : goal.returns
returns c =
    let a = c.args in
    rw (as_shorter (card_of a.w.now) a.v a.f a.size a.stamp (omega arith), c.ended.ensures) (did_spent _ c.truncate_file-stored.ensures)
