-- What a refusal gives, and a count.
use mathlib.Core.Path.{◌≡◌, refl, ap}
use Rattle.std.proofs.Common.{ℕ, List, Ok, Err}
use Rattle.model.specs.Ground.{Answer, refused, granted}
use Rattle.model.specs.Outcome.{Done}
use Rattle.model.specs.declared.Ground.{Ground}
use Rattle.model.specs.declared.Ended.{Ended}
use Rattle.operations.specs.Reading.{Filled, buffer_after, filled_outcome}
use Rattle.operations.specs.Promises.{Fills}
use Rattle.call_read.specs.Gave.{Gave}

pub gave_refused : (g : Ground) {a : Answer Filled} (e : List ℕ) → refused g ≡ a → Gave a e e (Err g)
unfolding buffer_after filled_outcome
gave_refused g e h = record { answer = rw (← h); bytes = λ i. rw (← h) refl }

pub gave_filled : {a : Answer Filled} (f : Filled) {e x : List ℕ} {n : ℕ} → granted f ≡ a → Fills f e x n → Gave a e x (Ok (Ended.Done n))
unfolding buffer_after filled_outcome
gave_filled f h t = record { answer = rw (← h) (ap Done t.counted); bytes = λ i. rw (← h) (t.bytes i) }
