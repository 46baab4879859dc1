-- Stores that copy sectors of a card onto others, and those that write a FAT.
use Prim.Native.Nat.{ℕ, ◌+◌, ◌<◌, ◌≤◌}
use native.Mathlib.Omega.{arith}
use mathlib.Core.Path.{◌≡◌}
use mathlib.Core.Bool.{not}
use mathlib.Core.List.{[], ◌∷◌}
use Rattle.model.specs.Bytes.{pick}
use Rattle.model.specs.Sector.{store}
use Rattle.model.specs.Fat.{Fat, same, differing, write_fat}
use Rattle.model.specs.Promises.{up_to}
use Rattle.model.specs.declared.Layout.{Layout}
use Rattle.model.proofs.Cards.{Away}
use Rattle.model.proofs.Turns.{map_indices, map_away}

-- The stores that write a FAT, as turns over its sectors.
pub write_fat_turns : (l : Layout) (at : ℕ) (new old : Fat)
    → write_fat l at new old ≡ up_to (λ s. pick (not (same (new s) (old s))) (store (at + s) (new s) ∷ []) []) l.fatsize
unfolding write_fat differing
write_fat_turns l at new old = map_indices (λ s. store (at + s) (new s)) (λ s. not (same (new s) (old s))) l.fatsize

-- They leave alone what is no sector of that FAT.
pub write_fat_away : (l : Layout) (at : ℕ) (new old : Fat) (s : ℕ) → (at ≤ s → s < at + l.fatsize → ⊥) → Away (write_fat l at new old) s
unfolding write_fat differing
write_fat_away l at new old s out =
    map_away (λ s. store (at + s) (new s)) (λ s. not (same (new s) (old s))) l.fatsize s (λ k l e. out (omega arith) (omega arith))
