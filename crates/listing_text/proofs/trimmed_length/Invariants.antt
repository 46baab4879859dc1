use Rattle.std.proofs.Common.{◌≡◌, ℕ, ◌+◌, ◌≤◌, ◌<◌, true}
use lib.ListN.{get_or}
use lib.Dec.{eqb}
use Rattle.listing_text.proofs.trimmed_length.Given as goal

abbrev pub invariant-loop-k : goal.invariant-loop-k
invariant-loop-k l = (j : ℕ) → l.k ≤ j → j < l.n → eqb (get_or l.s (l.from + j) 0) 32 ≡ true
