use mathlib.Core.Path.{ap, ◌∙◌}
use native.Mathlib.Omega.{arith}
use Rattle.model.specs.Sector.{card_of}
use Rattle.model.specs.Root.{find}
use Rattle.operations.specs.Calls.{slot_of}
use Rattle.root_lookup.proofs.Laws.{name_length}
use Rattle.root_lookup.proofs.slot_of.Goals as goal

pub name_of-requires : goal.name_of-requires
name_of-requires c = let e = name_length c.args.name.now c.requires.1 in omega arith

pub returns : goal.returns
unfolding slot_of
returns c =
    let a = c.args in
    (c.find_slot.ensures.0 ∙ ap (find a.v.layout (card_of a.w.now)) c.name_of.ensures, c.find_slot.ensures.1)
