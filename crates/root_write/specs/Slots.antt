-- Bytes of an edited slot, and the stores of one root sector.
use Rattle.std.specs.Prelude.{ℕ, Bool, List, [], ◌∷◌}
use Rattle.model.specs.Bytes.{Bytes, pick}
use Rattle.model.specs.Sector.{Card, Store, store}
use Rattle.model.specs.Root.{root_place, slot_at}
use Rattle.model.specs.declared.Layout.{Layout}
use Rattle.model.specs.Record.{Change}
use Rattle.operations.specs.Finish.{set_first, set_size, effect, root_sector, concerns}

-- An entry with a new size, and with another first cluster where that changes.
abbrev pub resized : Bytes → Bool → ℕ → ℕ → Bytes
resized b moves first size = set_size size (pick moves (set_first first b) b)

-- Root sector r after a change's edits is stored, where the change concerns it.
abbrev pub root_store : Layout → Change → Card → ℕ → Store
root_store l x c r = store (root_place l r) (root_sector (effect x (slot_at l c)) r)

abbrev pub root_turn : Layout → Change → Card → ℕ → List Store
root_turn l x c r = pick (concerns x r) (root_store l x c r ∷ []) []
