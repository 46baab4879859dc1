-- The bytes of a number one after the other.
use Prim.Native.Nat.{ℕ, ◌+◌, ◌/◌, ◌^◌}
use native.Mathlib.Nat.{pow-suc, div-div-eq-div-mul}
use native.Mathlib.Numerals.{add-one}
use mathlib.Core.Path.{◌≡◌, ap, ◌∙◌}

-- What is left of a number after k + 1 bytes.
pub rest_next : (v k x : ℕ) → x ≡ v / 256 ^ k → x / 256 ≡ v / 256 ^ (k + 1)
rest_next v k x e = ap (λ (y : ℕ). y / 256) e ∙ div-div-eq-div-mul v (256 ^ k) 256 ∙ ap (λ (y : ℕ). v / y) (rw (add-one k, pow-suc))
