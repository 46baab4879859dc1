-- Laws of long entries as they are written: their order byte, attributes and checksum, and the characters in their places.
use Prim.Native.Nat.{ℕ, zero, suc, ◌+◌, ◌/◌, ◌%◌, ◌^◌, ◌≤◌, ◌<◌}
use native.Mathlib.Omega.{arith}
use mathlib.Core.Path.{◌≡◌, refl, sym, ap, ◌∙◌}
use mathlib.Core.Logic.{⊎_elim}
use mathlib.Core.List.{[], ◌∷◌}
use mathlib.Core.Bool.{Bool, true, ◌||◌}
use lib.Dec.{leb}
use borrow.Author.Tests.{eq-eqb, leb-true, lt-leb}
use Rattle.model.specs.Bytes.{Bytes, le, overlay, byte_of, patch}
use Rattle.model.specs.Scan.{all, all_from, walk}
use Rattle.model.specs.Long.{is_long}
use Rattle.model.specs.LongName.{place, fill, long_entry}
use Rattle.model.proofs.Tests.{same?, each_every, ◌also◌}
use Rattle.model.proofs.Scan.{all_at0}
use Rattle.model.proofs.Numbers.{read_back, le_over_below}

-- The places rise by two at least.
rises : ℕ → ℕ → Bool
rises j k = leb j k || leb (place k + 2) (place j)

places_tested : all (λ j. all (rises j) 13) 13 ≡ true
unfolding all_from walk rises
places_tested = refl

pub places_rise : (j k : ℕ) → k < j → j < 13 → place k + 2 ≤ place j
unfolding rises
places_rise j k less few =
    let t = all_at0 (rises j) 13 (all_at0 (λ j. all (rises j) 13) 13 places_tested j few) k (omega arith) in
    leb-true (place k + 2) (place j) (rw (lt-leb j k less) at t)

-- A character is read from its place.
pub fill_read : (f : ℕ → ℕ) (b : Bytes) (n k : ℕ) → n ≤ 13 → k < n → f k < 256 ^ 2 → le 2 (fill f b n) (place k) ≡ f k
unfolding fill
fill_read f b zero k few less small = absurd (omega arith)
fill_read f b (suc n) k few less small = ⊎_elim
    (λ e. let at : place k ≡ place n + 0 = (let same : place k ≡ place n = ap place e in omega arith) in
    ap (le 2 (patch 2 (f n) (place n) (fill f b n))) at ∙ read_back 2 (f n) (place n) (fill f b n) (rw (← e) small) ∙ ap f (sym e))
    (λ ne. le_over_below 2 2 (place n) (place k) (byte_of (f n)) (fill f b n) (places_rise n k (omega arith) (omega arith))
    ∙ fill_read f b n k (omega arith) (omega arith) small) (same? k n)

module _ (sum order : ℕ) (f : ℕ → ℕ) where
  pub entry_order : long_entry sum order f 0 ≡ order / 1 % 256
  unfolding long_entry fill overlay byte_of
  entry_order = refl

  pub entry_attributes : long_entry sum order f 11 ≡ 0x0F
  unfolding long_entry fill overlay byte_of
  entry_attributes = refl

  pub entry_sum : long_entry sum order f 13 ≡ sum / 1 % 256
  unfolding long_entry fill overlay byte_of
  entry_sum = refl

  -- So it is a long entry with that order byte, for that checksum.
  pub entry_long : sum < 256 → order < 256 → is_long sum order (long_entry sum order f) ≡ true
  unfolding is_long
  entry_long s o =
      each_every _ (eq-eqb (long_entry sum order f 0) order (omega (arith, entry_order)) also eq-eqb (long_entry sum order f 11) 0x0F entry_attributes
      also eq-eqb (long_entry sum order f 13) sum (omega (arith, entry_sum)) also tt)

  -- "bytes 12, 26 and 27 are 0"
  entry_zeros : long_entry sum order f 12 ∷ long_entry sum order f 26 ∷ long_entry sum order f 27 ∷ [] ≡ 0 ∷ 0 ∷ 0 ∷ []
  unfolding long_entry fill overlay byte_of
  entry_zeros = refl
