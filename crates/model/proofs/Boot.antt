-- Laws of the boot rule: where the regions of an accepted card lie, and the bounds on its clusters.
use Prim.Native.Nat.{ℕ, zero, suc, ◌+◌, ◌-◌, ◌*◌, ◌/◌, ◌≤◌, ◌<◌}
use native.Mathlib.Omega.{arith}
use native.Mathlib.Nat.{div-mul-le_self, zero-div}
use mathlib.Core.Path.{◌≡◌, refl, ap, ◌∙◌}
use mathlib.Core.Logic.{◌⊎◌, inl, inr}
use mathlib.Core.Bool.{Bool, true, false}
use lib.Count.{ones, ones_in}
use borrow.Author.Tests.{eqb-true, leb-true}
use Rattle.model.specs.Bytes.{Bytes}
use Rattle.model.specs.Scan.{every, between}
use Rattle.model.specs.Boot.{fields, fields_ok, arrange, layout, size_ok, boot_ok}
use Rattle.model.specs.Promises.{Shape}
use Rattle.model.specs.declared.Fields.{Fields}
use Rattle.model.proofs.Tests.{less?, every_at, between_true}

pub one_bit : (n : ℕ) → ones n ≡ 1 → 1 ≤ n
unfolding ones ones_in
one_bit zero h = absurd (omega arith)
one_bit (suc n) h = omega arith

data_within : (total start per : ℕ) → 4085 ≤ (total - start) / per → start + (total - start) / per * per ≤ total
data_within total start per h = go (less? start total)
  where
    go : (start < total) ⊎ (total ≤ start) → start + (total - start) / per * per ≤ total
    go (inl k) = let m : (total - start) / per * per ≤ total - start = div-mul-le_self (total - start) per in omega arith
    go (inr k) =
        let z : total - start ≡ 0 = omega arith in
        let n : (total - start) / per ≡ 0 = ap (λ x. x / per) z ∙ zero-div per in
        absurd (omega arith)

pub arranged : (f : Fields) → fields_ok f ≡ true → size_ok (arrange f) ≡ true → Shape (arrange f)
unfolding fields_ok size_ok arrange
arranged f h s =
    let r = every_at _ h in
    let c = between_true _ _ _ (every_at _ s 0) in
    record {
      factor_low = one_bit f.factor (eqb-true _ _ (r 0));
      factor_high = leb-true _ _ (r 1);
      fat1_low = leb-true _ _ (r 2);
      fat2_at = refl;
      root_at = omega arith;
      start_at = refl;
      whole_sectors = eqb-true _ _ (r 3);
      many = c.0;
      few = c.1;
      enough = leb-true _ _ (every_at _ s 1);
      data_end = data_within f.total (arrange f).start f.factor c.0;
    }

pub shape : (b : Bytes) → boot_ok b ≡ true → Shape (layout b)
unfolding boot_ok layout
shape b h = arranged (fields b) (every_at _ h 1) (every_at _ h 2)

-- A card with 1 sector per cluster and FATs as large as they can be used, by its number of clusters.
abbrev accepts : ℕ → Bool
accepts clusters = size_ok (arrange (record { factor = 1; reserved = 1; fatsize = 256; entries = 512; total = 545 + clusters }))

-- The least and the largest number of clusters.
pub bounds : (accepts 4084 ≡ false) × (accepts 4085 ≡ true) × (accepts 65524 ≡ true) × (accepts 65525 ≡ false)
unfolding size_ok arrange every between
bounds = (refl, refl, refl, refl)
