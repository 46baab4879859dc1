-- Words that the contracts use: the chain rule, sectors along a chain, and what reading leaves of a lent buffer.
use Rattle.std.specs.Prelude.{ℕ, ◌+◌, ◌-◌, ◌/◌, ◌%◌, ◌≤◌, ◌<◌, min, ◌≡◌, true, List, get_or}
use Rattle.model.specs.Bytes.{Bytes, bytes_of, overlay, part}
use Rattle.model.specs.Sector.{Card}
use Rattle.model.specs.Fat.{entry, fat1_of}
use Rattle.model.specs.Chain.{keeps_chain, cluster_sector}
use Rattle.model.specs.declared.Layout.{Layout}
use Rattle.model.specs.declared.File.{File}
use Rattle.fat_chain.specs.Links.{links}

-- The file keeps the chain rule.
abbrev pub Proper : Layout → Card → File → Type 0
Proper l c f = keeps_chain l (entry (fat1_of l c)) f.first f.size ≡ true

-- The m sectors of a file from the one number q on, which is in cluster k, lie one after another on the card.
abbrev pub Adjoining : Layout → (ℕ → ℕ) → ℕ → ℕ → ℕ → Type 0
Adjoining l e k q m = (y : ℕ) → y < m
    → cluster_sector l (links e ((q % l.factor + y) / l.factor) k) + (q % l.factor + y) % l.factor ≡ cluster_sector l k + q % l.factor + y

-- The cluster k and those up to n links after it are clusters of the card.
abbrev pub Reaches : Layout → (ℕ → ℕ) → ℕ → ℕ → Type 0
Reaches l e k n = (i : ℕ) → i ≤ n → (2 ≤ links e i k) × (links e i k < 2 + l.clusters)

-- The bytes of a card from sector s on.
abbrev pub bytes_from : Card → ℕ → Bytes
bytes_from c s j = c (s + j / 512) (j % 512)

-- The bytes b, `size` in number, from an offset on, have been laid over a buffer from `done` to r: up to their end, or to count.
pub record Read (b : Bytes) (size from done count : ℕ) (entry exit : List ℕ) (r : ℕ) : Type 0 where
  pub reached : r ≡ done + min (size - from) (count - done)
  pub bytes : (i : ℕ) → get_or exit i 0 ≡ overlay (r - done) (part b from) done (bytes_of entry) i
