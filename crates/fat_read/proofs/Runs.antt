-- The log's run, by the first cluster marked, the first after it that is not, and the next marked after that.
use Prim.Native.Nat.{ℕ, ◌+◌, ◌-◌, ◌*◌, ◌<◌, ◌≤◌}
use native.Mathlib.Nat.{mul-le-mul, mul-le-mul_right, add-mul}
use native.Mathlib.Omega.{arith}
use mathlib.Core.Path.{◌≡◌}
use mathlib.Core.Logic.{⊎_elim}
use mathlib.Core.List.{[], ◌∷◌}
use lib.Dec.{leb}
use mathlib.Core.Bool.{Bool, true, false}
use borrow.Author.Tests.{le-leb, lt-leb, not-true, not-false}
use Rattle.model.specs.Scan.{every, first_from, all_from, count_from}
use Rattle.model.specs.Fat.{Fat}
use Rattle.model.specs.Chain.{cluster_sector}
use Rattle.model.specs.Log.{marked, run, run_ok, area}
use Rattle.model.specs.Promises.{Fits}
use Rattle.model.specs.declared.Layout.{Layout}
use Rattle.model.proofs.Tests.{less?, clash, every_not, each_every}
use Rattle.model.proofs.Scan.{all_of, all_not, first_before, first_has, first_ge, first_le, count_none}
use Rattle.model.proofs.Searches.{count_add, count_all, count_zero, count_some}
use Rattle.fat_read.specs.Located.{lacks, located}
use Rattle.std.specs.Prelude.{Some, None}

-- A product of a count of clusters and sectors per cluster.
pub product : (n f : ℕ) → n ≤ 65526 → f ≤ 64 → n * f ≤ 4193664
product n f a b = mul-le-mul a b

pub positive : (n f : ℕ) → 1 ≤ n → 1 ≤ f → 1 ≤ n * f
positive n f a b = mul-le-mul a b

-- n clusters from k on lie on the card.
pub on_card : (l : Layout) (k n : ℕ) → Fits l → 2 ≤ k → k + n ≤ l.clusters + 2 → cluster_sector l k + n * l.factor ≤ l.total
unfolding cluster_sector
on_card l k n h a b =
    let e : (k - 2 + n) * l.factor ≤ l.clusters * l.factor = mul-le-mul_right l.factor (omega arith) in
    omega (arith, e, add-mul (k - 2) n l.factor, h.shape.data_end)

module _ (l : Layout) (f : Fat) (start stop : ℕ)
    (a : start ≡ first_from (marked f) 2 l.clusters) (b : stop ≡ first_from (lacks 0xFFF6 f) start (l.clusters + 2 - start)) where
  abbrev p : ℕ → Bool
  p = marked f

  abbrev end : ℕ
  end = l.clusters + 2

  low : 2 ≤ start
  low = rw a (first_ge p 2 l.clusters)

  high : start ≤ end
  high = omega (arith, a, first_le p 2 l.clusters)

  up : start ≤ stop
  up = rw b (first_ge (lacks 0xFFF6 f) start (end - start))

  down : stop ≤ end
  down = let h = high in omega (arith, b, first_le (lacks 0xFFF6 f) start (end - start))

  below : (k : ℕ) → 2 ≤ k → k < start → p k ≡ false
  below k l' h = first_before p 2 l.clusters k l' (omega (arith, a))

  within : (k : ℕ) → start ≤ k → k < stop → p k ≡ true
  within k l' h = not-false _ (first_before (lacks 0xFFF6 f) start (end - start) k l' (omega (arith, b)))

  after : stop < end → p stop ≡ false
  after h =
      let z = high in
      not-true _ (rw (← b) at (first_has (lacks 0xFFF6 f) start (end - start) (omega (arith, b))))

  -- The clusters marked are those of the run, and those after it.
  counted : count_from p 2 l.clusters ≡ stop - start + count_from p stop (end - stop)
  counted =
      let lo = low in let hi = high in let u = up in let d = down in
      let e : start - 2 + (stop - start + (end - stop)) ≡ l.clusters = omega arith in
      let s : 2 + (start - 2) ≡ start = omega arith in
      let t : start + (stop - start) ≡ stop = omega arith in
      let x : count_from p 2 (start - 2) ≡ 0 = count_zero p 2 (start - 2) (λ k x y. below k x (omega arith)) in
      let y : count_from p start (stop - start) ≡ stop - start = count_all p start (stop - start) (λ k x y. within k x (omega arith)) in
      let c = rw (e, s) at (count_add p 2 (start - 2) (stop - start + (end - stop))) in
      let d = rw t at (count_add p start (stop - start) (end - stop)) in
      omega (arith, c, d, x, y)

  pub nothing : stop - start ≡ 0 → located l f ≡ None
  unfolding located run run_ok
  nothing h =
      let lo = low in let hi = high in let u = up in let d = down in
      let same : stop ≡ start = omega arith in
      ⊎_elim
      (λ less. clash (rw (← a) at (first_has p 2 l.clusters (omega (arith, a)))) (rw same at (after (omega arith))))
      (λ none.
      let z : end - stop ≡ 0 = omega arith in
      let c = rw z at counted in
      let e : count_from p 2 l.clusters < 1 = omega (arith, c, count_none p stop) in
      rw (every_not _ 0 (lt-leb _ _ e)))
      (less? start end)

  pub too_long : 128 < (stop - start) * l.factor → located l f ≡ None
  unfolding located run run_ok
  too_long h =
      let e : (stop - start) * l.factor ≤ count_from p 2 l.clusters * l.factor = mul-le-mul_right l.factor (omega (arith, counted)) in
      let more : 128 < count_from p 2 l.clusters * l.factor = omega arith in
      rw (every_not _ 1 (lt-leb _ _ more))

  module _ (rest : ℕ) (c : rest ≡ first_from p stop (end - stop)) where
    pub another : rest < end → located l f ≡ None
    unfolding located run run_ok
    another h =
        let u = up in let d = down in
        let g : stop ≤ rest = rw c (first_ge p stop (end - stop)) in
        let is : p rest ≡ true = rw (← c) at (first_has p stop (end - stop) (omega (arith, c))) in
        let one : 1 ≤ count_from p stop (end - stop) = count_some p stop (end - stop) rest g (omega arith) is in
        let n : stop < start + count_from p 2 l.clusters = omega (arith, counted) in
        let gap : all_from p (first_from p 2 l.clusters) (count_from p 2 l.clusters) ≡ false =
        rw (← a) (all_not p start (count_from p 2 l.clusters) stop u n (after (omega arith))) in
        rw (every_not _ 2 gap)

    pub only : end ≤ rest → 1 ≤ stop - start → (stop - start) * l.factor ≤ 128
        → located l f ≡ Some (record { sector = cluster_sector l start; sectors = (stop - start) * l.factor })
    unfolding located run run_ok area
    only h some few =
        let u = up in let d = down in
        let none : count_from p stop (end - stop) ≡ 0 = count_zero p stop (end - stop) (λ k x y. first_before p stop (end - stop) k x (omega (arith, c))) in
        let size : count_from p 2 l.clusters ≡ stop - start = omega (arith, counted) in
        let whole : all_from p start (stop - start) ≡ true = all_of p start (stop - start) (λ k x y. within k x (omega arith)) in
        let ok : every (leb 1 (stop - start) ∷ leb ((stop - start) * l.factor) 128 ∷ all_from p start (stop - start) ∷ []) ≡ true =
        each_every (leb 1 (stop - start) ∷ leb ((stop - start) * l.factor) 128 ∷ all_from p start (stop - start) ∷ [])
        (le-leb _ _ some, (le-leb _ _ few, (whole, tt))) in
        rw (size, ← a, ok)
