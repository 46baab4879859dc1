use mathlib.Core.Path.{ap, ◌∙◌}
use Rattle.model.specs.Sector.{card_of}
use Rattle.model.specs.Root.{slot_holds, lookup}
use Rattle.operations.specs.Calls.{slot_of}
use Rattle.root_lookup.proofs.look_up.Goals as goal

pub returns : goal.returns
unfolding lookup slot_of
returns c =
    let a = c.args in
    c.look_in.ensures ∙ ap (slot_holds a.v.layout (card_of a.w.now)) c.slot_of.ensures.0
