-- Links of a chain of clusters.
use Rattle.std.specs.Prelude.{ℕ, zero, suc, ◌+◌, ◌<◌, ◌≡◌}

-- The cluster n links after k, along the values e of a FAT's entries.
unfoldable pub links : (ℕ → ℕ) → ℕ → ℕ → ℕ
links e zero k = k
links e (suc n) k = e (links e n k)

-- The n clusters from k on along the chain lie one after another on the card.
abbrev pub Adjacent : (ℕ → ℕ) → ℕ → ℕ → Type 0
Adjacent e k n = (i : ℕ) → i < n → links e i k ≡ k + i
