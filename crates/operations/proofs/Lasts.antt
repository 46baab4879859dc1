-- The last of a list of clusters that are not 0, as a list and as a number.
use Prim.Native.Nat.{ℕ, suc, ◌-◌}
use native.Mathlib.Omega.{arith}
use mathlib.Core.Path.{◌≡◌, refl}
use mathlib.Core.List.{List, [], ◌∷◌}
use lib.Dec.{eqb}
use lib.ListN.{length}
use borrow.Author.Tests.{ne_eqb}
use Rattle.model.specs.Bytes.{pick}
use Rattle.model.proofs.All.{All}
use Rattle.operations.specs.Plan.{last_of, last_cluster}

pub last_list : (ks : List ℕ) → All (λ k. k ≡ 0 → ⊥) ks → last_of ks ≡ pick (eqb (last_cluster ks) 0) [] (last_cluster ks ∷ [])
last_list [] h = refl
last_list (k ∷ []) h = rw (ne_eqb k 0 h.0)
last_list (k ∷ (j ∷ ks)) h =
    let e : length (k ∷ (j ∷ ks)) - 1 ≡ suc (length (j ∷ ks) - 1) = omega arith in
    rw e (last_list (j ∷ ks) h.1)
