-- What a search of the slots asks of a test that it is given.
use Rattle.std.specs.Prelude.{ℕ, ◌<◌, ◌≡◌, Bool, true, false, eqb}
use Rattle.model.specs.Sector.{Card}
use Rattle.model.specs.Root.{slot_at}
use Rattle.model.specs.declared.Layout.{Layout}

-- Each of its results for a number below n is p of that number.
abbrev pub Tests : (ℕ → Bool → Type 0) → (ℕ → Bool) → ℕ → Type 0
Tests post p n = (k : ℕ) (r : Bool) → k < n → post k r → r ≡ p k

-- It takes no slot beginning 0.
abbrev pub Unwritten : Layout → Card → (ℕ → Bool) → Type 0
Unwritten l c p = (k : ℕ) → eqb (slot_at l c k 0) 0 ≡ true → p k ≡ false
