-- The rows of fits on card K, by computation. The free clusters of each card are computed once.
use Prim.Native.Nat.{ℕ}
use native.Mathlib.Omega.{arith}
use mathlib.Core.Path.{◌≡◌, refl, ap, ◌∙◌}
use mathlib.Core.List.{List, [], ◌∷◌, map}
use Rattle.model.specs.Bytes.{Bytes}
use Rattle.model.specs.Scan.{range}
use Rattle.model.specs.Sector.{Window}
use Rattle.model.specs.Fat.{fat1_of, free_clusters}
use Rattle.model.specs.Chain.{needed}
use Rattle.model.specs.Ground.{granted}
use Rattle.model.specs.Volume.{clean}
use Rattle.model.specs.Outcome.{Outcome, Refused, Done, No}
use Rattle.model.specs.declared.Ground.TheVariants as Ground
use Rattle.operations.specs.Outcome.{left, outcome_number}
use Rattle.operations.specs.Fitting.{fit, fits_on, fit_outcome}
use Rattle.operations.proofs.Fits.{fits_clean}
use Rattle.worked.specs.CardK.{k, window_k, morning, afternoon}
use Rattle.worked.specs.Worked.{volume_k, k3, k4, m4}
use Rattle.worked.specs.Fitting.{full_fat, full, asked, Fitting}
use Rattle.worked.proofs.Compute.{compute}
use Rattle.worked.proofs.Instance.{first_row}
use Rattle.worked.proofs.Grown.{cut_window, new_at, new_is, growing, is_growing, grown_at, grown_is, grown_clean}

-- On a clean card, by its free clusters.
unfoldable computed : List ℕ → List ℕ → List Outcome
computed ns ks = map (λ n. fit_outcome (granted (fit (needed volume_k.layout n) ks))) ns

abbrev free_in : Window → List ℕ
free_in w = free_clusters volume_k.layout (fat1_of volume_k.layout w.card)

by_free : (w : Window) → clean w ≡ granted volume_k → {ks : List ℕ} → free_in w ≡ ks → (ns : List ℕ) → asked ns w ≡ computed ns ks
unfolding asked computed fits_on
by_free w is free ns = (λ t. map (λ n. fit_outcome (fits_clean w n volume_k is t)) ns) ∙ ap (computed ns) free

free_k : free_in k ≡ range 10 4077
unfolding compute
free_k = refl

full_clean : clean full ≡ granted volume_k
unfolding compute full full_fat
full_clean = refl

free_full : free_in full ≡ []
unfolding compute full full_fat
free_full = refl

-- After M4.
grown_row : (d : Bytes) → free_in (grown_at morning afternoon d) ≡ range 13 4074
unfolding compute
grown_row d = refl

free_4 : (d : Bytes) → free_in (k4 d) ≡ range 13 4074
free_4 d = ap free_in (grown_is morning afternoon (omega arith) (omega arith) d) ∙ grown_row d

computed_k : computed (0 ∷ 1 ∷ 512 ∷ 513 ∷ 2087424 ∷ 2087425 ∷ 18446744073709551615 ∷ []) (range 10 4077)
    ≡ Done 0 ∷ Done 10 ∷ Done 10 ∷ Done 11 ∷ Done 4086 ∷ No ∷ No ∷ []
unfolding compute computed
computed_k = refl

computed_4 : computed (0 ∷ 1 ∷ 513 ∷ 2085888 ∷ 2085889 ∷ []) (range 13 4074) ≡ Done 0 ∷ Done 13 ∷ Done 14 ∷ Done 4086 ∷ No ∷ []
unfolding compute computed
computed_4 = refl

computed_full : computed (0 ∷ 1 ∷ []) [] ≡ Done 0 ∷ No ∷ []
unfolding compute computed
computed_full = refl

computed_numbers : map (λ n. outcome_number n) (computed (513 ∷ 2087425 ∷ []) (range 10 4077)) ≡ 11 ∷ 1090921693184 ∷ []
unfolding compute computed
computed_numbers = refl

boot_row : asked (0 ∷ []) (window_k 4149) ≡ Refused Ground.Boot ∷ []
unfolding compute asked
boot_row = refl

abbrev cut_from : Bytes → Window → Window
cut_from d w = cut_window 4 (growing afternoon d w) w

unclean_computed : (d : Bytes) → asked (0 ∷ []) (cut_from d (new_at morning)) ≡ Refused Ground.Unclean ∷ []
unfolding compute asked
unclean_computed d = refl

unclean_row : (d : Bytes) → asked (0 ∷ []) (left 4 (m4 d) k3) ≡ Refused Ground.Unclean ∷ []
unfolding left
unclean_row d =
    ap (λ p. asked (0 ∷ []) (cut_window 4 p k3)) (is_growing morning afternoon (omega arith) d)
    ∙ ap (λ w. asked (0 ∷ []) (cut_from d w)) (new_is morning (omega arith)) ∙ unclean_computed d

pub fitting : (d : Bytes) → Fitting d
fitting d = record {
  on_k = by_free k first_row free_k _ ∙ computed_k;
  after_m4 = by_free (k4 d) (grown_clean morning afternoon d) (free_4 d) _ ∙ computed_4;
  on_full = by_free full full_clean free_full _ ∙ computed_full;
  numbers = ap (λ os. map (λ n. outcome_number n) os) (by_free k first_row free_k _) ∙ computed_numbers;
  boot = boot_row;
  unclean = unclean_row d;
}
