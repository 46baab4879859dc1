use native.Mathlib.Omega.{arith}
use Rattle.model.specs.Sector.{card_of}
use Rattle.operations.specs.Finish.{edits, operation_edits}
use Rattle.call_truncate.proofs.Cuts.{truncate_is}
use Rattle.call_truncate.proofs.truncate_file.Goals as goal

pub cut_at-c-requires : goal.cut_at-c-requires
cut_at-c-requires c = (c.requires.ready.held, c.requires.chained.0.chain, omega arith)

pub shorten-requires : goal.shorten-requires
unfolding edits operation_edits
shorten-requires c =
    let slot = c.requires.chained.0.seated.slot in
    record { ready = c.requires.ready; inside = c.cut_at-c.ensures.inside; slots = ((slot, slot), tt) }

pub returns : goal.returns
returns c =
    let a = c.args in rw (truncate_is a.v (card_of a.w.now) a.f a.size a.stamp _ c.cut_at-c.ensures) c.shorten.ensures
