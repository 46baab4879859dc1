-- A `match` on a number with ranges, against a Bool of specs/: each return asks it on an interval without the single numbers among
-- the patterns, or of those numbers.
use mathlib.Core.Path.{◌≡◌, refl, sym}
use mathlib.Core.Logic.{inl, inr}
use mathlib.Core.Bool.{Bool, true, false, ◌&&◌, ◌||◌, not}
use mathlib.Core.List.{List, [], ◌∷◌}
use Prim.Native.Nat.{ℕ, ◌+◌, ◌-◌, ◌<◌, ◌≤◌}
use native.Mathlib.Omega.{arith}
use types.Run.{OneOf, hit}
use mir.Val.{has_key}
use Rattle.model.specs.Scan.{all}
use Rattle.model.proofs.Scan.{all_at}
use Rattle.model.proofs.Tests.{and_left, and_right}

-- b is v
abbrev pub like : Bool → Bool → Bool
like true b = b
like false b = not b

like_is : (v b : Bool) → like v b ≡ true → b ≡ v
like_is true b h = h
like_is false true h = sym h
like_is false false h = refl

or_left : (v a : Bool) (ks : List ℕ) (b : ℕ) → (like v a || has_key ks b) ≡ true → (OneOf ks b → ⊥) → a ≡ v
or_left v a ks b h ne = go (like v a) refl (has_key ks b) refl
  where
    go : (l : Bool) → like v a ≡ l → (k : Bool) → has_key ks b ≡ k → a ≡ v
    go true e k f = like_is v a e
    go false e true f = absurd (ne (hit ks b (rw f tt)))
    go false e false f = absurd (let z : ◌≡◌ {A = Bool} false true = rw (e, f) at h in let y : ◌≡◌ {A = ℕ} 0 1 = cc in omega arith)

module _ (p : ℕ → Bool) (v : Bool) where
  -- p is v at each of the n numbers from lo but for those of ks, by a test that computes
  pub ranged : (ks : List ℕ) (lo n : ℕ) → all (λ k. like v (p (lo + k)) || has_key ks (lo + k)) n ≡ true → (b : ℕ) → (OneOf ks b → ⊥) → lo ≤ b
      → b < lo + n → p b ≡ v
  ranged ks lo n t b ne l h =
      let e : lo + (b - lo) ≡ b = omega arith in
      or_left v (p b) ks b (rw e at (all_at (λ k. like v (p (lo + k)) || has_key ks (lo + k)) 0 n t (b - lo) (omega arith) (omega arith))) ne

  -- p is v at each number of ks
  abbrev pub each : List ℕ → Bool
  each [] = true
  each (k ∷ ks) = like v (p k) && each ks

  pub keyed : (ks : List ℕ) → each ks ≡ true → (b : ℕ) → OneOf ks b → p b ≡ v
  keyed [] t b e = absurd e
  keyed (k ∷ []) t b e = rw e (like_is v (p k) (and_left (like v (p k)) true t))
  keyed (k ∷ k' ∷ ks) t b (inl e) = rw e (like_is v (p k) (and_left (like v (p k)) (each (k' ∷ ks)) t))
  keyed (k ∷ k' ∷ ks) t b (inr e) = keyed (k' ∷ ks) (and_right (like v (p k)) (each (k' ∷ ks)) t) b e
