-- Where a log lies in a lent window.
use Rattle.std.specs.Prelude.{ℕ, ◌+◌, ◌*◌, ◌<◌, ◌≤◌, List, length}
use Rattle.model.specs.declared.Area.{Area}

-- The sectors of a log are within the window, and have numbers of 32 bits.
pub record Within (a : Area) (xs : List ℕ) : Type 0 where
  pub window : 512 * (a.sector + a.sectors) ≤ length xs
  pub numbers : a.sector + a.sectors < 4294967296
