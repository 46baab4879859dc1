-- Laws of copies.
use Prim.Native.Nat.{ℕ, ◌+◌, ◌-◌, ◌<◌, ◌≤◌}
use native.Mathlib.Omega.{arith}
use mathlib.Core.Path.{◌≡◌}
use mathlib.Core.List.{List}
use Rattle.std.proofs.Common.{Result}
use Rattle.model.specs.Sector.{card_of}
use Rattle.model.specs.Promises.{Spent}
use Rattle.model.specs.declared.Stopped.{Stopped}
use Rattle.model.proofs.Runs.{spent_away, upto_away}
use Rattle.fat_copy.specs.Change.{renewal}
use Rattle.fat_copy.proofs.Laws.{renewal_away}
use Rattle.fat_copy.specs.Copy.{copies}

-- Turn k finds its two sectors as they were.
pub copy_turn : (from to n k : ℕ) {b left : ℕ} {e x : List ℕ} {r : Result Unit Stopped} → n ≤ (from - to) + (to - from) → k < n
    → Spent b left (copies (card_of e) from to k) e x r
    → renewal (to + k) (card_of x (from + k)) (card_of x (to + k)) ≡ renewal (to + k) (card_of e (from + k)) (card_of e (to + k))
copy_turn from to n k {b} {left} {e} {x} {r} apart less so = rw (kept (from + k) (λ j h q. omega arith), kept (to + k) (λ j h q. omega arith))
  where
    kept : (s : ℕ) → ((j : ℕ) → j < k → s ≡ to + j → ⊥) → card_of x s ≡ card_of e s
    kept s out = spent_away so s
        (upto_away (λ j. renewal (to + j) (card_of e (from + j)) (card_of e (to + j))) k s
        (λ j h. renewal_away (to + j) (card_of e (from + j)) (card_of e (to + j)) s (out j h)))
