-- Chains of clusters, along the values e of a FAT's entries, whatever their width.
use Rattle.std.specs.Prelude.{ℕ, zero, suc, ◌+◌, ◌-◌, ◌*◌, ◌/◌, ◌%◌, List, [], ◌∷◌, Bool, false, eqb, get_or}
use Rattle.model.specs.Bytes.{pick}
use Rattle.model.specs.Fat.{in_range, is_end}
use Rattle.model.specs.declared.Layout.{Layout}

unfoldable pub cluster_bytes : Layout → ℕ
cluster_bytes l = 512 * l.factor

-- "size / cluster bytes, rounded up, clusters"
unfoldable pub needed : Layout → ℕ → ℕ
needed l size = (size + (cluster_bytes l - 1)) / cluster_bytes l

-- The n clusters from k on.
unfoldable pub chain : (ℕ → ℕ) → ℕ → ℕ → List ℕ
chain e zero k = []
chain e (suc n) k = k ∷ chain e n (e k)

-- Exactly n clusters from k on, "all within range, the last holding an end value".
unfoldable pub ends_after : Layout → (ℕ → ℕ) → ℕ → ℕ → Bool
ends_after l e zero k = false
ends_after l e (suc zero) k = pick (in_range l k) (is_end (e k)) false
ends_after l e (suc (suc n)) k = pick (in_range l k) (ends_after l e (suc n) (e k)) false

-- "Chain rule: a file of size 0 has first cluster 0; any other has exactly" the clusters that its size needs.
unfoldable pub keeps_chain : Layout → (ℕ → ℕ) → ℕ → ℕ → Bool
keeps_chain l e k size = pick (eqb size 0) (eqb k 0) (ends_after l e (needed l size) k)

-- "Cluster c starts (c − 2) × sectors per cluster into the data."
unfoldable pub cluster_sector : Layout → ℕ → ℕ
cluster_sector l k = l.start + (k - 2) * l.factor

-- The sector of a file's 512 bytes number q, along the clusters ks.
unfoldable pub file_sector : Layout → List ℕ → ℕ → ℕ
file_sector l ks q = cluster_sector l (get_or ks (q / l.factor) 0) + q % l.factor
