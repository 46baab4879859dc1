-- Steps 3 to 6 of an operation, on the card that the steps before have left.
use Rattle.std.specs.Prelude.{List, ◌∷◌, ◌++◌}
use Rattle.model.specs.Sector.{Card, Store, put, after}
use Rattle.model.specs.Log.{log_of}
use Rattle.model.specs.declared.Layout.{Layout}
use Rattle.model.specs.Record.{Change, Group}
use Rattle.model.specs.declared.Volume.{Volume}
use Rattle.operations.specs.Program.{stores}
use Rattle.operations.specs.Finish.{redo}
use Rattle.operations.specs.Plan.{clearing, new_group, group_store}

-- The group's store, and what it makes to be done.
unfoldable pub group_steps : Layout → Group → Card → List Store
group_steps l g c = group_store g ∷ stores (redo l g (put c (group_store g)))

-- The log is cleared, if needed, before.
unfoldable pub log_steps : Volume → Change → Card → List Store
log_steps v o c =
    clearing v.log (log_of v.log c)
    ++ group_steps v.layout (new_group v.log c o) (after (clearing v.log (log_of v.log c)) c)
