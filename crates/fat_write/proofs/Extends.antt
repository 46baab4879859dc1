-- The FAT of an append is the one that `extend_fat` writes.
use Prim.Native.Nat.{ℕ, zero, suc, ◌≤◌}
use native.Mathlib.Omega.{arith}
use mathlib.Core.Path.{◌≡◌, refl}
use mathlib.Core.List.{List, [], ◌∷◌, ◌++◌}
use lib.Dec.{eqb}
use lib.ListN.{length, take}
use borrow.Author.Tests.{ne_eqb}
use Rattle.model.specs.Bytes.{pick}
use Rattle.model.specs.Fat.{Fat, free_clusters, link}
use Rattle.model.specs.declared.Layout.{Layout}
use Rattle.model.proofs.All.{All}
use Rattle.operations.specs.Plan.{extend, last_cluster}
use Rattle.operations.proofs.Lasts.{last_list}
use Rattle.fat_write.specs.Allocate.{grown}

module _ (old : List ℕ) (used : All (λ k. k ≡ 0 → ⊥) old) (t : Fat) where
  taken : (n : ℕ) (ks : List ℕ) → n ≤ length ks
      → extend old (take n ks) t ≡ pick (eqb n 0) t (link (pick (eqb (last_cluster old) 0) [] (last_cluster old ∷ []) ++ take n ks) t)
  unfolding extend
  taken zero ks h = refl
  taken (suc n) [] h = absurd (omega arith)
  taken (suc n) (k ∷ ks) h = rw (ne_eqb (suc n) 0 (λ e. omega arith), last_list old used)

  pub extend_grown : (l : Layout) (n : ℕ) → n ≤ length (free_clusters l t) → extend old (take n (free_clusters l t)) t ≡ grown l t (last_cluster old) n
  unfolding grown
  extend_grown l n h = taken n (free_clusters l t) h
