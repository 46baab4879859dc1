-- The premises of demand 3 hold of card K: its window, that of the rows, is genuine and clean.
use Prim.Native.Nat.{ℕ, ◌%◌, ◌<◌}
use native.Mathlib.Omega.{arith}
use mathlib.Core.Path.{◌≡◌, refl}
use mathlib.Core.List.{List}
use mathlib.Core.Bool.{◌||◌}
use lib.Dec.{eqb}
use Rattle.model.specs.Bytes.{Bytes, pick, zeros}
use Rattle.model.specs.Ground.{granted}
use Rattle.model.specs.Volume.{clean}
use Rattle.operations.specs.Calls.{Call}
use Rattle.operations.specs.Outcome.{left}
use Rattle.safety.specs.Demand3.{Genuine, Settles, group_stored, recoveries}
use Rattle.model.proofs.Tests.{by_pick}
use Rattle.model.proofs.Cards.{clip_clip}
use Rattle.formatting.specs.Fresh.{with_fats, write_fields, log_mark}
use Rattle.formatting.proofs.Boot.{fields_small}
use Rattle.formatting.proofs.Fat.{fat_small}
use Rattle.safety.proofs.Theorem.{demand3}
use Rattle.worked.specs.CardK.{log_fat, card_k, window_k, k}
use Rattle.worked.specs.Worked.{volume_k}
use Rattle.worked.proofs.Compute.{compute}

-- M1.
pub first_row : clean k ≡ granted volume_k
unfolding compute
first_row = refl

abbrev boot_k : Bytes
boot_k = write_fields (with_fats 4150 1 16) zeros

abbrev sector_k : ℕ → Bytes
sector_k n = pick (eqb n 0) boot_k (pick (eqb n 1 || eqb n 17) log_fat zeros)

sector_small : (n j : ℕ) → sector_k n j < 256
unfolding log_fat
sector_small n j = by_pick (λ (b : Bytes). b j < 256) (eqb n 0) boot_k _ (λ _. fields_small (with_fats 4150 1 16) zeros (λ i. omega arith) j)
    (λ _. by_pick (λ (b : Bytes). b j < 256) (eqb n 1 || eqb n 17) log_fat zeros (λ _. fat_small (log_mark 8) 0 j) (λ _. omega arith))

pub k_genuine : Genuine k
unfolding k window_k card_k
k_genuine = record {
  sectors = λ n. clip_clip (sector_k n);
  bytes = λ n j. sector_small n (j % 512);
}

-- So demand 3 speaks of every call on card K, under every limit.
pub at_k : (call : Call) (limit : ℕ) (limits : List ℕ) (once : ℕ)
    → Settles (group_stored limit call k) call k volume_k once (recoveries limits (left limit call k))
at_k call limit limits once = demand3 call k volume_k k_genuine first_row limit limits once
