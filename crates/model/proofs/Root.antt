-- Laws of the root directory.
use Prim.Native.Nat.{ℕ, ◌+◌, ◌-◌}
use native.Mathlib.Omega.{arith}
use mathlib.Core.Path.{◌≡◌, refl, ap, ◌∙◌}
use mathlib.Core.Bool.{Bool, true, false}
use Rattle.model.specs.Bytes.{pick}
use Rattle.model.specs.Scan.{walk, first, all_from}
use Rattle.model.specs.Sector.{Card}
use Rattle.model.specs.Root.{slot_at, vacant, lowest_slot, free_run, free_slot}
use Rattle.model.specs.declared.Layout.{Layout}
use Rattle.model.proofs.Scan.{first_same}

-- A run of one number.
pub all_one : (p : ℕ → Bool) (i : ℕ) → all_from p i 1 ≡ p i
unfolding all_from walk
all_one p i = go (p i)
  where
    go : (b : Bool) → pick b true false ≡ b
    go true = refl
    go false = refl

-- A free slot is the lowest vacant one; as many as there are slots where there is none.
pub free_slot_is : (l : Layout) (c : Card) → free_slot l c ≡ lowest_slot l c vacant
unfolding free_run lowest_slot
free_slot_is l c =
    let p : ℕ → Bool = λ k. all_from (λ i. vacant (slot_at l c i)) k 1 in
    let e : l.entries + 1 - 1 ≡ l.entries = omega arith in
    ap (first p) e ∙ first_same p (λ k. vacant (slot_at l c k)) 0 l.entries (λ k lo hi. all_one (λ i. vacant (slot_at l c i)) k)
