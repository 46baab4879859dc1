-- Laws of fits: on a clean card; by how many clusters are free; by the last of those that are taken.
use Prim.Native.Nat.{ℕ, ◌+◌, ◌-◌, ◌≤◌, ◌<◌}
use native.Mathlib.Omega.{arith}
use mathlib.Core.Path.{◌≡◌, ap, ◌∙◌}
use mathlib.Core.Logic.{⊎_elim}
use mathlib.Core.List.{List}
use mathlib.Core.Bool.{Bool}
use lib.ListN.{length, get_or, take}
use lib.Seq.{length-take-le, get_or-take}
use borrow.Author.Tests.{lt-ltb, le-ltb}
use Rattle.model.specs.Scan.{count_from, indices_from, nth_from}
use Rattle.model.specs.Sector.{Window}
use Rattle.model.specs.Ground.{granted}
use Rattle.model.specs.Volume.{clean}
use Rattle.model.specs.declared.Volume.{Volume}
use Rattle.model.proofs.Tests.{less?}
use Rattle.model.proofs.Grounds.{then}
use Rattle.model.proofs.Searches.{indices_count}
use Rattle.model.proofs.Nths.{get_or_any, nth_end, nth_inside}
use Rattle.operations.specs.Plan.{last_cluster}
use Rattle.operations.specs.Fitting.{fit, fits, fits_on, yes, no}

pub fits_clean : (w : Window) (bytes : ℕ) (v : Volume) → clean w ≡ granted v → fits w bytes ≡ granted (fits_on v w.card bytes)
unfolding fits
fits_clean w bytes v is = then (clean w) _ v is

module _ (n : ℕ) (ks : List ℕ) where
  pub fit_few : length ks < n → fit n ks ≡ no
  unfolding fit
  fit_few few = rw (lt-ltb (length ks) n few)

  pub fit_enough : n ≤ length ks → fit n ks ≡ yes (last_cluster (take n ks))
  unfolding fit
  fit_enough enough = rw (le-ltb (length ks) n enough)

  -- The last of the first n, where there are so many.
  pub last_taken : 1 ≤ n → n ≤ length ks → last_cluster (take n ks) ≡ get_or ks (n - 1) 0
  last_taken some enough =
      ap (λ m. get_or (take n ks) (m - 1) 0) (length-take-le n ks enough) ∙ get_or-take n ks (n - 1) 0 (omega arith)

pub fit_none : (ks : List ℕ) → fit 0 ks ≡ yes 0
fit_none ks = fit_enough 0 ks (omega arith)

-- By the n-th number that a scan finds: there is one before the end, or there are fewer.
module _ (p : ℕ → Bool) (i m n : ℕ) (some : 1 ≤ n) where
  abbrev k : ℕ
  k = nth_from p i m n

  pub fit_found : k < i + m → fit n (indices_from p i m) ≡ yes k
  unfolding nth_from
  fit_found less =
      ⊎_elim
      (λ few. absurd (omega (arith, nth_end p i m n few)))
      (λ enough.
      let ks = indices_from p i m in
      let long : n ≤ length ks = omega (arith, indices_count p i m) in
      fit_enough n ks long ∙ ap yes (last_taken n ks some long ∙ get_or_any ks (n - 1) 0 (i + m) (omega arith)))
      (less? (count_from p i m) n)

  pub fit_past : i + m ≤ k → fit n (indices_from p i m) ≡ no
  fit_past past =
      ⊎_elim
      (λ few. fit_few n (indices_from p i m) (omega (arith, indices_count p i m)))
      (λ enough. absurd (omega (arith, nth_inside p i m n some enough)))
      (less? (count_from p i m) n)
