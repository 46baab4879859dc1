-- Fits by its parts: grounds, and the n-th free cluster.
use Prim.Native.Nat.{ℕ, ◌+◌, ◌<◌, ◌≤◌}
use native.Mathlib.Omega.{arith}
use mathlib.Core.Path.{◌≡◌, sym, ap, ◌∙◌}
use Rattle.model.specs.Scan.{nth_from}
use Rattle.model.specs.Sector.{Window}
use Rattle.model.specs.Fat.{Fat, fat1_of, free_clusters}
use Rattle.model.specs.Chain.{needed}
use Rattle.model.specs.Ground.{refused, granted}
use Rattle.model.specs.Volume.{clean}
use Rattle.model.specs.declared.Ground.{Ground}
use Rattle.model.specs.declared.Layout.{Layout}
use Rattle.model.specs.declared.Volume.{Volume}
use Rattle.model.specs.Outcome.{Outcome, Refused, Done, No}
use Rattle.model.proofs.Grounds.{ends}
use Rattle.model.proofs.Indices.{indices_length}
use Rattle.operations.specs.Fitting.{Fit, fit, fits_on, fits, fit_outcome}
use Rattle.operations.proofs.Fits.{fits_clean, fit_none, fit_few, fit_found, fit_past}
use Rattle.fat_read.specs.Located.{holds}

-- ---- grounds

module _ (w : Window) (bytes : ℕ) where
  pub fits_refused : (g : Ground) → clean w ≡ refused g → Refused g ≡ fit_outcome (fits w bytes)
  unfolding fits fit_outcome
  fits_refused g e = sym (ap fit_outcome (ends (clean w) _ g e))

  pub fits_granted : (v : Volume) → clean w ≡ granted v
      → fit_outcome (granted (fit (needed v.layout bytes) (free_clusters v.layout (fat1_of v.layout w.card)))) ≡ fit_outcome (fits w bytes)
  unfolding fits_on
  fits_granted v e = sym (ap fit_outcome (fits_clean w bytes v e))

-- ---- n clusters, on a clean card

module _ (l : Layout) (t : Fat) (n : ℕ) where
  abbrev answer : Outcome
  answer = fit_outcome (granted (fit n (free_clusters l t)))

  pub fits_none : n ≡ 0 → Done 0 ≡ answer
  unfolding fit_outcome
  fits_none e = sym (ap (λ m. fit_outcome (granted (fit m (free_clusters l t)))) e ∙ ap (λ (f : Fit). fit_outcome (granted f)) (fit_none (free_clusters l t)))

  -- More than the card has.
  pub fits_over : l.clusters < n → No ≡ answer
  unfolding fit_outcome free_clusters
  fits_over more =
      sym (ap (λ (f : Fit). fit_outcome (granted f)) (fit_few n (free_clusters l t) (omega (arith, indices_length (holds 0 t) 2 l.clusters))))

  -- By the n-th free cluster.
  module _ (k : ℕ) (some : 1 ≤ n) (is : k ≡ nth_from (holds 0 t) 2 l.clusters n) where
    pub fits_found : k < l.clusters + 2 → Done k ≡ answer
    unfolding fit_outcome free_clusters
    fits_found less =
        ap Done is
        ∙ sym (ap (λ (f : Fit). fit_outcome (granted f)) (fit_found (holds 0 t) 2 l.clusters n some (omega (arith, is))))

    pub fits_past : l.clusters + 2 ≤ k → No ≡ answer
    unfolding fit_outcome free_clusters
    fits_past past = sym (ap (λ (f : Fit). fit_outcome (granted f)) (fit_past (holds 0 t) 2 l.clusters n some (omega (arith, is))))
