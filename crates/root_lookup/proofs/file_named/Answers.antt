use mathlib.Core.Path.{ap, ◌∙◌}
use Rattle.model.specs.Bytes.{view}
use Rattle.model.specs.Sector.{card_of}
use Rattle.operations.specs.Calls.{admit, file_named}
use Rattle.root_lookup.proofs.Laws.{sits}
use Rattle.root_lookup.proofs.file_named.Goals as goal

pub returns : goal.returns
unfolding file_named
returns c =
    let a = c.args in
    let e = c.admit.ensures ∙ ap (admit a.a) c.look_up.ensures in
    record { answer = e; seated = sits a.v (card_of a.w.now) a.a (view a.name.now) c.admit.result e }
