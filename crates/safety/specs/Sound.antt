-- Sound cards.
use Rattle.std.specs.Prelude.{ℕ, ◌<◌, ◌≡◌, Bool, true}
use mathlib.Core.List.{List, Memᴰ}
use Rattle.model.specs.Sector.{Card}
use Rattle.model.specs.Fat.{entry, fat1_of}
use Rattle.model.specs.Chain.{keeps_chain}
use Rattle.model.specs.Root.{slot_at, is_file, first_cluster, file_size, file_at}
use Rattle.model.specs.declared.Layout.{Layout}
use Rattle.operations.specs.Plan.{clusters_of}

-- The chain of the file in a slot, in FAT1.
unfoldable pub chain_of : Layout → Card → ℕ → List ℕ
chain_of l c s = clusters_of l (fat1_of l c) (file_at l c s)

-- "A proper chain keeps the chain rule".
unfoldable pub proper : Layout → Card → ℕ → Bool
proper l c s = keeps_chain l (entry (fat1_of l c)) (first_cluster (slot_at l c s)) (file_size (slot_at l c s))

-- "A card is sound if all root files (bits 0x08 and 0x10 clear) keep the chain rule and no two share a cluster."
pub record Sound (l : Layout) (c : Card) : Type 0 where
  pub chains : (s : ℕ) → s < l.entries → is_file (slot_at l c s) ≡ true → proper l c s ≡ true
  pub apart : (s t : ℕ) → s < l.entries → t < l.entries
      → is_file (slot_at l c s) ≡ true → is_file (slot_at l c t) ≡ true → (s ≡ t → ⊥)
      → (k : ℕ) → Memᴰ k (chain_of l c s) → Memᴰ k (chain_of l c t) → ⊥
