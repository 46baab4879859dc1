-- Laws of the clusters that a size needs.
use Prim.Native.Nat.{ℕ, suc, ◌+◌, ◌-◌, ◌*◌, ◌/◌, ◌%◌, ◌≤◌, ◌<◌}
use native.Mathlib.Nat.{le-div_iff_mul-le, div-lt_iff_lt-mul, div-mul-le_self, div-add-mod', mod-lt}
use native.Mathlib.Omega.{arith}
use mathlib.Core.Path.{◌≡◌}
use Rattle.model.specs.Chain.{needed, cluster_bytes}
use Rattle.model.specs.declared.Layout.{Layout}
use Rattle.model.proofs.Chains.{needed_holds}

pub div_mono : (f a b : ℕ) → 1 ≤ f → a ≤ b → a / f ≤ b / f
div_mono f a b one h = (le-div_iff_mul-le {k = f} {x = a / f} {y = b} (omega arith)).1 (omega (arith, div-mul-le_self a f))

-- m clusters hold n bytes, and one less does not.
pub needed_is : (l : Layout) → 1 ≤ l.factor → (n m : ℕ) → n ≤ m * (512 * l.factor) → m * (512 * l.factor) < n + 512 * l.factor → needed l n ≡ m
unfolding needed cluster_bytes
needed_is l one n m lo hi =
    let b : ℕ = 512 * l.factor in
    let pos : 0 < b = omega arith in
    let up : m ≤ (n + (b - 1)) / b = (le-div_iff_mul-le pos).1 (omega arith) in
    let down : (n + (b - 1)) / b < suc m = (div-lt_iff_lt-mul pos).1 (omega arith) in
    omega arith

pub needed_none : (l : Layout) → 1 ≤ l.factor → needed l 0 ≡ 0
needed_none l one = needed_is l one 0 0 (omega arith) (omega arith)

pub needed_some : (l : Layout) → 1 ≤ l.factor → (n : ℕ) → 0 < n → needed l n ≡ (n - 1) / (512 * l.factor) + 1
needed_some l one n h =
    let b : ℕ = 512 * l.factor in
    let d : (n - 1) / b * b + (n - 1) % b ≡ n - 1 = div-add-mod' (n - 1) b in
    let m : (n - 1) % b < b = mod-lt (n - 1) (omega arith) in
    let s : ((n - 1) / b + 1) * b ≡ (n - 1) / b * b + b = omega arith in
    needed_is l one n ((n - 1) / b + 1) (omega arith) (omega arith)

module _ (l : Layout) (one : 1 ≤ l.factor) where
  pub needed_mono : (n m : ℕ) → n ≤ m → needed l n ≤ needed l m
  unfolding needed cluster_bytes
  needed_mono n m h = div_mono (512 * l.factor) (n + (512 * l.factor - 1)) (m + (512 * l.factor - 1)) (omega arith) (omega arith)

  -- No cluster too many, and none too few.
  pub needed_tight : (n : ℕ) → needed l n * (512 * l.factor) < n + 512 * l.factor
  unfolding needed cluster_bytes
  needed_tight n = omega (arith, div-mul-le_self (n + (512 * l.factor - 1)) (512 * l.factor))

  pub needed_enough : (n : ℕ) → n ≤ needed l n * (512 * l.factor)
  needed_enough n = needed_holds l one n (needed l n) (omega arith)
