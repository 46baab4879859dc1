-- Sectors per cluster as a power of two, and layouts judged by their sizes.
use Prim.Native.Nat.{ℕ, ◌+◌, ◌-◌, ◌/◌, ◌^◌, ◌<◌, ◌≤◌}
use native.Mathlib.Omega.{arith}
use native.Mathlib.Nat.{div-le_self}
use mathlib.Core.Path.{◌≡◌, refl}
use mathlib.Core.Bool.{Bool, true, ◌&&◌}
use lib.Dec.{eqb, ltb}
use lib.Count.{ones, ones_in, count_trailing_zeros}
use borrow.Author.Tests.{eqb-true, ltb-true, leb-true}
use Rattle.model.specs.Bytes.{pick}
use Rattle.model.specs.Scan.{all, all_from, walk}
use Rattle.model.specs.Boot.{fields_ok, size_ok, fat_holds, arrange, data_start}
use Rattle.model.specs.Promises.{Fits}
use Rattle.model.specs.declared.Fields.{Fields}
use Rattle.model.proofs.Tests.{and_left, and_right, every_at, each_every, between_is}
use Rattle.model.proofs.Scan.{all_at}
use Rattle.model.proofs.Boot.{arranged}
use Rattle.boot.specs.Booted.{sized, Narrow}
use Rattle.std.specs.Prelude.{Some}

-- Of the numbers to 64, each with one bit set is 2 to the power of its trailing zeros.
abbrev test : ℕ → Bool
test n = pick (eqb (ones n) 1) (eqb (2 ^ count_trailing_zeros 32 n) n && ltb (count_trailing_zeros 32 n) 7) true

tested : all test 65 ≡ true
unfolding all_from walk ones ones_in count_trailing_zeros
tested = refl

module _ (f : Fields) (ok : fields_ok f ≡ true) where
  both : (eqb (2 ^ count_trailing_zeros 32 f.factor) f.factor && ltb (count_trailing_zeros 32 f.factor) 7) ≡ true
  unfolding fields_ok
  both =
      let low : f.factor ≤ 64 = leb-true _ _ (every_at _ ok 1) in
      rw (every_at _ ok 0) at (all_at test 0 65 tested f.factor (omega arith) (omega arith))

  pub power : 2 ^ count_trailing_zeros 32 f.factor ≡ f.factor
  power = eqb-true _ _ (and_left (eqb (2 ^ count_trailing_zeros 32 f.factor) f.factor) (ltb (count_trailing_zeros 32 f.factor) 7) both)

  pub exponent : count_trailing_zeros 32 f.factor < 7
  exponent = ltb-true _ _ (and_right (eqb (2 ^ count_trailing_zeros 32 f.factor) f.factor) (ltb (count_trailing_zeros 32 f.factor) 7) both)

-- A layout of n clusters.
module _ (f : Fields) where
  abbrev n : ℕ
  n = (arrange f).clusters

  -- There are not more of them than sectors after the first three.
  pub few_clusters : fields_ok f ≡ true → f.total < 4294967296 → n + 2 < 4294967296
  unfolding fields_ok arrange
  few_clusters ok total =
      let one : 1 ≤ f.reserved = leb-true _ _ (every_at _ ok 2) in
      let two : 1 ≤ f.fatsize = leb-true _ _ (every_at _ ok 5) in
      let d : (f.total - data_start f) / f.factor ≤ f.total - data_start f = div-le_self (f.total - data_start f) f.factor in
      omega arith

  module _ (low : 4085 ≤ n) (high : n ≤ 65524) (wide : fat_holds (arrange f) ≡ true) where
    ok : size_ok (arrange f) ≡ true
    unfolding size_ok
    ok = each_every _ (between_is 4085 65524 n low high, (wide, tt))

    pub right : sized (arrange f) ≡ Some (arrange f)
    unfolding sized
    right = rw ok

    pub fits : Narrow f → fields_ok f ≡ true → Fits (arrange f)
    unfolding arrange
    fits s p = record { shape = arranged f p ok; fat1_high = s.reserved; fatsize_high = s.fatsize; entries_high = s.entries }
