-- What SIZE has asked of the numbers of a fresh card.
use Prim.Native.Nat.{ℕ, ◌+◌, ◌-◌, ◌*◌, ◌/◌, ◌%◌, ◌≤◌, ◌<◌}
use native.Mathlib.Omega.{arith}
use native.Mathlib.Nat.{mul-le-mul_left, mul-le-mul_right, div-add-mod', mod-lt}
use mathlib.Core.Path.{◌≡◌}
use mathlib.Core.Logic.{◌⊎◌, inl, inr}
use mathlib.Core.Bool.{Bool, true, false, not}
use lib.Dec.{ltb}
use borrow.Author.Tests.{leb-true, not-false, ltb-false}
use Rattle.model.specs.Scan.{first_from}
use Rattle.model.specs.Sector.{Window}
use Rattle.model.specs.Boot.{arrange, fields_ok, size_ok, fat_holds}
use Rattle.model.specs.Log.{most_sectors}
use Rattle.model.specs.Ground.{refused, granted, ◌when◌, ◌>>◌}
use Rattle.model.specs.Promises.{Shape}
use Rattle.model.specs.declared.Fields.{Fields}
use Rattle.model.specs.declared.Ground.TheVariants as Ground
use Rattle.model.proofs.Tests.{told, every_at}
use Rattle.model.proofs.Scan.{first_le, first_ge}
use Rattle.model.proofs.Boot.{arranged}
use Rattle.model.proofs.Grounds.{asked}
use Rattle.operations.specs.Program.{Program}
use Rattle.formatting.specs.Fresh.{with_fats, fewest, fresh_fields}
use Rattle.formatting.specs.Format.{form_ok, format_stores, format}
use Rattle.formatting.proofs.Boot.{Stands}

-- A FAT has at least one sector, and at most 65,535.
pub fewest_low : (total factor : ℕ) → 1 ≤ fewest total factor
unfolding fewest
fewest_low total factor = first_ge _ 1 65534

pub fewest_high : (total factor : ℕ) → fewest total factor < 65536
unfolding fewest
fewest_high total factor =
    let high : first_from (λ f. fat_holds (arrange (with_fats total factor f))) 1 65534 ≤ 65535 = first_le _ 1 65534 in
    omega arith

module _ (f : Fields) (n : ℕ) (ok : form_ok f n ≡ true) where
  pub plain : fields_ok f ≡ true
  unfolding form_ok
  plain = every_at _ ok 0

  pub sized : size_ok (arrange f) ≡ true
  unfolding form_ok
  sized = every_at _ ok 1

  pub some_log : 1 ≤ n
  unfolding form_ok
  some_log = leb-true 1 n (every_at _ ok 2)

  pub short_log : n * f.factor ≤ most_sectors
  unfolding form_ok
  short_log = leb-true (n * f.factor) most_sectors (every_at _ ok 3)

  pub form_shape : Shape (arrange f)
  form_shape = arranged f plain sized

  -- The log has no more clusters than sectors.
  pub few_log : n ≤ most_sectors
  unfolding arrange
  few_log =
      let one : 1 ≤ f.factor = form_shape.factor_low in
      let m : n * 1 ≤ n * f.factor = mul-le-mul_left n one in
      let s : n * f.factor ≤ most_sectors = short_log in
      omega arith

-- So few clusters have few sectors.
few_sectors : (total start factor : ℕ) → 1 ≤ factor → factor ≤ 64 → start < 131104 → (total - start) / factor ≤ 65524 → total < 16777216
few_sectors total start factor one short low few =
    let d : (total - start) / factor * factor + (total - start) % factor ≡ total - start = div-add-mod' (total - start) factor in
    let m : (total - start) / factor * factor ≤ 65524 * factor = mul-le-mul_right factor few in
    let r : (total - start) % factor < factor = mod-lt (total - start) one in
    omega arith

-- A fresh card's numbers can be written.
module _ (total factor n : ℕ) (ok : form_ok (fresh_fields total factor) n ≡ true) where
  pub few_total : total < 16777216
  unfolding arrange
  few_total =
      let sh = form_shape (fresh_fields total factor) n ok in
      let e : 1 + 2 * fewest total factor + 32 ≡ 33 + 2 * fewest total factor = omega arith in
      few_sectors total (33 + 2 * fewest total factor) factor sh.factor_low sh.factor_high (omega (arith, fewest_high total factor)) (rw e at sh.few)

  pub fresh_stands : Stands (fresh_fields total factor)
  unfolding arrange
  fresh_stands =
      let high : factor ≤ 64 = (form_shape (fresh_fields total factor) n ok).factor_high in
      record {
        factor = omega arith;
        reserved = omega arith;
        fatsize = fewest_high total factor;
        entries = omega arith;
        total = omega (arith, few_total);
      }

-- What a format that was granted tells.
pub formed : (w : Window) (total factor n : ℕ) (p : Program) → format w total factor n ≡ granted p
    → (form_ok (fresh_fields total factor) n ≡ true) × (512 * total ≤ w.size) × (p ≡ format_stores (fresh_fields total factor) n)
unfolding format
formed w total factor n p h =
    let h1 = asked Ground.Size (not (form_ok (fresh_fields total factor) n)) _ p h in
    let h2 = asked Ground.Window (ltb w.size (512 * total)) _ p h1.1 in
    let e : granted (format_stores (fresh_fields total factor) n) ≡ granted p = h2.1 in
    (not-false (form_ok (fresh_fields total factor) n) h1.0, ltb-false w.size (512 * total) h2.0, (cc))

-- One that was refused as SIZE tells that of its numbers.
pub unformed : (w : Window) (total factor n : ℕ) → format w total factor n ≡ refused Ground.Size → form_ok (fresh_fields total factor) n ≡ false
unfolding format ◌when◌ ◌>>◌
unformed w total factor n h = go (told (form_ok (fresh_fields total factor) n))
  where
    other : (b : Bool) → ((Ground.Window when b) >> granted (format_stores (fresh_fields total factor) n)) ≡ refused Ground.Size → ⊥
    other true e = let z : ◌≡◌ {A = ℕ} 0 1 = cc in omega arith
    other false e = let z : ◌≡◌ {A = ℕ} 0 1 = cc in omega arith

    go : (form_ok (fresh_fields total factor) n ≡ true) ⊎ (form_ok (fresh_fields total factor) n ≡ false) → form_ok (fresh_fields total factor) n ≡ false
    go (inl e) = absurd (other (ltb w.size (512 * total)) (rw e at h))
    go (inr e) = e
