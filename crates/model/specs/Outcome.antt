-- How calls end.
use Rattle.std.specs.Prelude.{ℕ, Result, Ok, Err}
use Rattle.model.specs.declared.Ground.{Ground}
use Rattle.model.specs.declared.Ended.{Ended}

-- Refused on a ground; done, with its count (of stores, of bytes read, of entries) or the cluster that it gives; a no; or stopped by the
-- limit, with the stores made.
pub data Outcome : Type 0 where
  Refused : Ground → Outcome
  Done : ℕ → Outcome
  No : Outcome
  Stopped : ℕ → Outcome

-- The end that a call's result tells.
abbrev pub outcome_of : Result Ended Ground → Outcome
outcome_of (Err g) = Refused g
outcome_of (Ok (Ended.Done n)) = Done n
outcome_of (Ok Ended.No) = No
outcome_of (Ok (Ended.Stopped n)) = Stopped n
