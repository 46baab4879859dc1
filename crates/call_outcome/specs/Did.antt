-- What a call that stores answers, and what it leaves of the window.
use Rattle.std.specs.Prelude.{ℕ, ◌≡◌, List, Result, Ok, Err}
use Rattle.model.specs.Sector.{card_of, after}
use Rattle.model.specs.Ground.{Answer}
use Rattle.model.specs.Outcome.{outcome_of}
use Rattle.model.specs.declared.Ground.{Ground}
use Rattle.model.specs.declared.Stopped.{Stopped}
use Rattle.model.specs.declared.Ended.{Ended}
use Rattle.operations.specs.Program.{Program}
use Rattle.operations.specs.Outcome.{outcome, made}

pub record Did (limit : ℕ) (a : Answer Program) (entry exit : List ℕ) (r : Result Ended Ground) : Type 0 where
  pub answer : outcome_of r ≡ outcome limit a
  pub card : card_of exit ≡ after (made limit a) (card_of entry)

-- DONE if all stores were made, else STOPPED, with how many were.
abbrev pub ended_as : Result Unit Stopped → ℕ → Ended
ended_as (Ok _) n = Ended.Done n
ended_as (Err _) n = Ended.Stopped n
