-- Laws of the sectors of a FAT with entries changed, byte by byte.
use Prim.Native.Nat.{ℕ, ◌+◌, ◌-◌, ◌*◌, ◌/◌, ◌%◌, ◌^◌, ◌<◌, ◌≤◌}
use native.Mathlib.Nat.{zero-div}
use native.Mathlib.Omega.{arith}
use mathlib.Core.Path.{◌≡◌, refl, ap, ◌∙◌}
use mathlib.Core.Logic.{◌⊎◌, inl, inr, ⊎_elim}
use mathlib.Core.List.{List, [], ◌∷◌}
use mathlib.Core.Bool.{Bool, true, false, ◌&&◌, ◌||◌}
use lib.Dec.{eqb, leb, ltb}
use borrow.Author.Tests.{eq-eqb, ne_eqb}
use Rattle.model.specs.Bytes.{Bytes, overlay, patch, byte_of, pick}
use Rattle.model.specs.Scan.{any}
use Rattle.model.specs.Fat.{Fat, set_entry, set_wide_entry, link, release, end_value}
use Rattle.model.proofs.Tests.{same?, less?}
use Rattle.model.proofs.All.{All}
use Rattle.model.proofs.Indices.{has}
use Rattle.model.proofs.Overlays.{overlay_in, overlay_below, overlay_above}

-- ---- one entry changed

module _ (k v : ℕ) (f : Fat) (s : ℕ) where
  pub set_here : s ≡ k / 256 → set_entry k v f s ≡ patch 2 v (2 * (k % 256)) (f s)
  unfolding set_wide_entry
  set_here e = rw (eq-eqb s (k / 256) e)

  pub set_away : (s ≡ k / 256 → ⊥) → set_entry k v f s ≡ f s
  unfolding set_wide_entry
  set_away e = rw (ne_eqb s (k / 256) e)

  -- Byte j of a sector is the new value's if it lies in the entry, else the old.
  pub set_byte : (j : ℕ) → j < 512 → set_entry k v f s j ≡ pick (eqb (256 * s + j / 2) k) (byte_of v (j % 2)) (f s j)
  set_byte j less = ⊎_elim here (λ ne. other ne (same? s (k / 256))) (same? (256 * s + j / 2) k)
    where
      here : 256 * s + j / 2 ≡ k → set_entry k v f s j ≡ pick (eqb (256 * s + j / 2) k) (byte_of v (j % 2)) (f s j)
      here e =
          let i : j - 2 * (k % 256) ≡ j % 2 = omega arith in
          rw (eq-eqb (256 * s + j / 2) k e)
          (ap (λ (b : Bytes). b j) (set_here (omega arith)) ∙ overlay_in (byte_of v) (2 * (k % 256)) (f s) 2 j (omega arith) (omega arith) ∙ ap (byte_of v) i)

      out : s ≡ k / 256 → (256 * s + j / 2 ≡ k → ⊥) → (j < 2 * (k % 256)) ⊎ (2 * (k % 256) ≤ j) → set_entry k v f s j ≡ f s j
      out e ne (inl h) = ap (λ (b : Bytes). b j) (set_here e) ∙ overlay_below (byte_of v) (2 * (k % 256)) (f s) 2 j h
      out e ne (inr h) = ap (λ (b : Bytes). b j) (set_here e) ∙ overlay_above (byte_of v) (2 * (k % 256)) (f s) 2 j (omega arith)

      other : (256 * s + j / 2 ≡ k → ⊥) → (s ≡ k / 256) ⊎ (s ≡ k / 256 → ⊥) → set_entry k v f s j ≡ pick (eqb (256 * s + j / 2) k) (byte_of v (j % 2)) (f s j)
      other ne (inl e) = rw (ne_eqb (256 * s + j / 2) k ne) (out e ne (less? j (2 * (k % 256))))
      other ne (inr e) = rw (ne_eqb (256 * s + j / 2) k ne) (ap (λ (b : Bytes). b j) (set_away e))

-- ---- a byte of a changed FAT depends on the same byte of the FAT before

over_local : (n at : ℕ) (p a b : Bytes) (j : ℕ) → a j ≡ b j → overlay n p at a j ≡ overlay n p at b j
unfolding overlay
over_local n at p a b j e = ap (λ (z : ℕ). pick (leb at j && ltb j (at + n)) (p (j - at)) z) e

pub set_local : (k v : ℕ) (f g : Fat) (s j : ℕ) → f s j ≡ g s j → set_entry k v f s j ≡ set_entry k v g s j
unfolding set_wide_entry
set_local k v f g s j e = go (eqb s (k / 256))
  where
    go : (t : Bool) → pick t (patch 2 v (2 * (k % 256)) (f s)) (f s) j ≡ pick t (patch 2 v (2 * (k % 256)) (g s)) (g s) j
    go true = over_local 2 (2 * (k % 256)) (byte_of v) (f s) (g s) j e
    go false = e

pub link_local : (ks : List ℕ) (f g : Fat) (s j : ℕ) → f s j ≡ g s j → link ks f s j ≡ link ks g s j
unfolding link
link_local [] f g s j e = e
link_local (a ∷ []) f g s j e = set_local a end_value f g s j e
link_local (a ∷ (b ∷ r)) f g s j e = link_local (b ∷ r) (set_entry a b f) (set_entry a b g) s j (set_local a b f g s j e)

pub release_local : (ks : List ℕ) (f g : Fat) (s j : ℕ) → f s j ≡ g s j → release ks f s j ≡ release ks g s j
unfolding release
release_local [] f g s j e = e
release_local (a ∷ r) f g s j e = release_local r (set_entry a 0 f) (set_entry a 0 g) s j (set_local a 0 f g s j e)

-- ---- many entries changed

byte_zero : (i : ℕ) → byte_of 0 i ≡ 0
unfolding byte_of
byte_zero i = ap (λ (z : ℕ). z % 256) (zero-div (256 ^ i))

pub link_away : (ks : List ℕ) (f : Fat) (s : ℕ) → All (λ k. s ≡ k / 256 → ⊥) ks → link ks f s ≡ f s
unfolding link
link_away [] f s h = refl
link_away (a ∷ []) f s h = set_away a end_value f s h.0
link_away (a ∷ (b ∷ r)) f s h = link_away (b ∷ r) (set_entry a b f) s h.1 ∙ set_away a b f s h.0

-- The bytes of freed entries are 0.
pub release_byte : (ks : List ℕ) (f : Fat) (s j : ℕ) → j < 512 → release ks f s j ≡ pick (has ks (256 * s + j / 2)) 0 (f s j)
unfolding release any
release_byte [] f s j less = refl
release_byte (k ∷ ks) f s j less =
    release_byte ks (set_entry k 0 f) s j less ∙ ap (λ (z : ℕ). pick (has ks (256 * s + j / 2)) 0 z) (set_byte k 0 f s j less ∙ zeroed (j % 2))
    ∙ go (eqb (256 * s + j / 2) k) (has ks (256 * s + j / 2))
  where
    zeroed : (i : ℕ) → pick (eqb (256 * s + j / 2) k) (byte_of 0 i) (f s j) ≡ pick (eqb (256 * s + j / 2) k) 0 (f s j)
    zeroed i = ap (λ (z : ℕ). pick (eqb (256 * s + j / 2) k) z (f s j)) (byte_zero i)

    go : (a b : Bool) → pick b 0 (pick a 0 (f s j)) ≡ pick (a || b) 0 (f s j)
    go true true = refl
    go true false = refl
    go false b = refl
