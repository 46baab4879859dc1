-- How calls end: the limit, DONE, STOPPED and the count; the number that crosses the C interface.
use Rattle.std.specs.Prelude.{ℕ, ◌+◌, ◌*◌, List, [], leb, take, length}
use Rattle.model.specs.Bytes.{pick}
use Rattle.model.specs.Sector.{Window, Store, after}
use Rattle.model.specs.Ground.{Answer, refused, granted, ground_number}
use Rattle.model.specs.Outcome.{Outcome, Refused, Done, No, Stopped}
use Rattle.operations.specs.Program.{Program, stores}
use Rattle.operations.specs.Calls.{Call, plan}

-- "It makes the first of them, up to the limit, and answers DONE if that was the whole list, else STOPPED. It also answers how many
-- it made."
unfoldable pub outcome : ℕ → Answer Program → Outcome
outcome limit (refused g) = Refused g
outcome limit (granted p) = let n = length (stores p) in pick (leb n limit) (Done n) (Stopped limit)

-- The stores that are made. "A refusal stores nothing".
unfoldable pub made : ℕ → Answer Program → List Store
made limit (refused g) = []
made limit (granted p) = take limit (stores p)

-- What these leave of the window; and what a call does.
abbrev pub leaves : ℕ → Answer Program → Window → Window
leaves limit a w = record { size = w.size; card = after (made limit a) w.card }

unfoldable pub left : ℕ → Call → Window → Window
left limit k w = leaves limit (plan k w) w

-- "the router passes the largest" limit of 32 bits.
abbrev pub largest : ℕ
largest = 4294967295

-- An outcome as one number: code × 2 ^ 32 + count. The code is 0 for DONE, the ground's number for a refusal and 254 for NO (their count
-- is 0), 255 for STOPPED.
abbrev pub outcome_code : Outcome → ℕ
outcome_code (Refused g) = ground_number g
outcome_code (Done n) = 0
outcome_code No = 254
outcome_code (Stopped n) = 255

abbrev pub outcome_count : Outcome → ℕ
outcome_count (Refused g) = 0
outcome_count (Done n) = n
outcome_count No = 0
outcome_count (Stopped n) = n

abbrev pub outcome_number : Outcome → ℕ
outcome_number r = outcome_code r * 4294967296 + outcome_count r
