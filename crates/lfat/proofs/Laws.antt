-- From a call's outcome to the number that C gets.
use Prim.Native.Nat.{ℕ}
use mathlib.Core.Path.{◌≡◌, ap, ◌∙◌}
use mathlib.Core.List.{List}
use lib.ListN.{get_or}
use Rattle.model.specs.Bytes.{bytes_of}
use Rattle.model.specs.Sector.{card_of, after}
use Rattle.model.specs.Ground.{Answer}
use Rattle.model.specs.Outcome.{Outcome}
use Rattle.operations.specs.Program.{Program}
use Rattle.operations.specs.Outcome.{outcome, made, outcome_number}
use Rattle.operations.specs.Reading.{Filled, buffer_after, filled_outcome}
use Rattle.operations.specs.Promises.{Called, Answered}

pub called : {limit : ℕ} {a : Answer Program} {e x : List ℕ} {o : Outcome} {n : ℕ} → n ≡ outcome_number o → o ≡ outcome limit a
    → card_of x ≡ after (made limit a) (card_of e) → Called limit a e x n
called is answer card = record { answer = is ∙ ap outcome_number answer; card = card }

pub answered : {a : Answer Filled} {e x : List ℕ} {o : Outcome} {n : ℕ} → n ≡ outcome_number o → o ≡ filled_outcome a
    → ((i : ℕ) → get_or x i 0 ≡ buffer_after a (bytes_of e) i) → Answered a e x n
answered is answer bytes = record { answer = is ∙ ap outcome_number answer; bytes = bytes }
