-- Sectors copied onto others where they differ.
use Rattle.std.specs.Prelude.{ℕ, ◌+◌, List}
use Rattle.model.specs.Sector.{Card, Store}
use Rattle.model.specs.Promises.{up_to}
use Rattle.fat_copy.specs.Change.{renewal}

-- The n sectors from a sector on onto those from another on, rising.
abbrev pub copies : Card → ℕ → ℕ → ℕ → List Store
copies c from to n = up_to (λ s. renewal (to + s) (c (from + s)) (c (to + s))) n
