-- Words that the contracts of the calls use: the answer, and every byte of the window or of the lent buffer.
use Rattle.std.specs.Prelude.{ℕ, ◌≡◌, List, get_or}
use Rattle.model.specs.Bytes.{bytes_of, overlay}
use Rattle.model.specs.Sector.{card_of, after}
use Rattle.model.specs.Ground.{Answer}
use Rattle.operations.specs.Program.{Program}
use Rattle.operations.specs.Outcome.{outcome, made, outcome_number}
use Rattle.operations.specs.Reading.{Filled, buffer_after, filled_outcome}

-- A call that stores: the window `entry` has become `exit`, and the call has answered `number`.
pub record Called (limit : ℕ) (a : Answer Program) (entry exit : List ℕ) (number : ℕ) : Type 0 where
  pub answer : number ≡ outcome_number (outcome limit a)
  pub card : card_of exit ≡ after (made limit a) (card_of entry)

-- Read and list: the lent buffer `entry` has become `exit`.
pub record Answered (a : Answer Filled) (entry exit : List ℕ) (number : ℕ) : Type 0 where
  pub answer : number ≡ outcome_number (filled_outcome a)
  pub bytes : (i : ℕ) → get_or exit i 0 ≡ buffer_after a (bytes_of entry) i

-- What read and list put into a lent buffer: it has been filled as f says, with no byte after touched; `count` is f's.
pub record Fills (f : Filled) (entry exit : List ℕ) (count : ℕ) : Type 0 where
  pub counted : count ≡ f.count
  pub bytes : (i : ℕ) → get_or exit i 0 ≡ overlay f.bytes.size f.bytes.byte 0 (bytes_of entry) i
