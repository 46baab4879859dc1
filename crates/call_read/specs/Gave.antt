-- What read and list answer, and what they leave of the lent buffer.
use Rattle.std.specs.Prelude.{ℕ, ◌≡◌, List, get_or, Result}
use Rattle.model.specs.Bytes.{bytes_of}
use Rattle.model.specs.Ground.{Answer}
use Rattle.model.specs.Outcome.{outcome_of}
use Rattle.model.specs.declared.Ground.{Ground}
use Rattle.model.specs.declared.Ended.{Ended}
use Rattle.operations.specs.Reading.{Filled, buffer_after, filled_outcome}

pub record Gave (a : Answer Filled) (entry exit : List ℕ) (r : Result Ended Ground) : Type 0 where
  pub answer : outcome_of r ≡ filled_outcome a
  pub bytes : (i : ℕ) → get_or exit i 0 ≡ buffer_after a (bytes_of entry) i
