-- What a function that was passed in computes.
use Rattle.std.specs.Prelude.{ℕ, ◌≡◌, ◌<◌, ◌^◌}

-- Each of its results is f of its argument.
abbrev pub Computes : (ℕ → ℕ → Type 0) → (ℕ → ℕ) → Type 0
Computes post f = (i r : ℕ) → i < 2 ^ 32 → post i r → r ≡ f i
