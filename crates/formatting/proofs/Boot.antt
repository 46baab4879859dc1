-- The boot sector of a fresh card is read as it was written.
use Prim.Native.Nat.{ℕ, ◌<◌, ◌≤◌}
use native.Mathlib.Omega.{arith}
use mathlib.Core.Path.{◌≡◌, refl, sym, ap, ◌∙◌}
use mathlib.Core.Logic.{◌⊎◌, inl, inr}
use mathlib.Core.Bool.{true, false}
use lib.Dec.{eqb}
use borrow.Author.Tests.{lt-ltb, le-ltb, ne_eqb, eq-eqb}
use Rattle.model.specs.Bytes.{Bytes, pick, le, byte_of, overlay, zeros}
use Rattle.model.specs.Scan.{every}
use Rattle.model.specs.Sector.{clip}
use Rattle.model.specs.Boot.{total_sectors, fields, signed, boot_ok, layout, arrange, fields_ok, size_ok}
use Rattle.model.specs.declared.Fields.{Fields}
use Rattle.model.proofs.Tests.{less?, same?, each_every}
use Rattle.model.proofs.Numbers.{Small, patched, le_over_above, read_back}
use Rattle.formatting.specs.Fresh.{total_at_19, total_at_32, write_fields, fresh_boot}

-- Fields that their bytes can hold.
pub record Stands (f : Fields) : Type 0 where
  pub factor : f.factor < 256
  pub reserved : f.reserved < 65536
  pub fatsize : f.fatsize < 65536
  pub entries : f.entries < 65536
  pub total : f.total < 4294967296

-- The number of sectors, from where it stands.
told_total : (t : ℕ) → pick (eqb (total_at_19 t) 0) (total_at_32 t) (total_at_19 t) ≡ t
told_total t = go (less? t 65536)
  where
    small : (t ≡ 0) ⊎ (t ≡ 0 → ⊥) → pick (eqb t 0) 0 t ≡ t
    small (inl e) = rw (eq-eqb t 0 e) (sym e)
    small (inr e) = rw (ne_eqb t 0 e)

    go : (t < 65536) ⊎ (65536 ≤ t) → pick (eqb (total_at_19 t) 0) (total_at_32 t) (total_at_19 t) ≡ t
    go (inl h) = rw (lt-ltb t 65536 h) (small (same? t 0))
    go (inr h) = rw (le-ltb t 65536 h)

-- What holds of a total of either kind, where it stands in 2 bytes and in 4.
total_fits : (t : ℕ) → t < 4294967296 → (total_at_19 t < 65536) × (total_at_32 t < 4294967296)
total_fits t h = go (less? t 65536)
  where
    go : (t < 65536) ⊎ (65536 ≤ t) → (total_at_19 t < 65536) × (total_at_32 t < 4294967296)
    go (inl k) = rw (lt-ltb t 65536 k) (k, omega arith)
    go (inr k) = rw (le-ltb t 65536 k) (omega arith, h)

module _ (f : Fields) (b : Bytes) (h : Stands f) where
  abbrev x : Bytes
  x = clip (write_fields f b)

  at_13 : x 13 ≡ f.factor
  unfolding write_fields overlay byte_of
  at_13 = omega (arith, h.factor)

  at_14 : le 2 x 14 ≡ f.reserved
  unfolding le write_fields overlay byte_of
  at_14 = omega (arith, h.reserved)

  at_17 : le 2 x 17 ≡ f.entries
  unfolding le write_fields overlay byte_of
  at_17 = omega (arith, h.entries)

  at_22 : le 2 x 22 ≡ f.fatsize
  unfolding le write_fields overlay byte_of
  at_22 = omega (arith, h.fatsize)

  at_19 : le 2 x 19 ≡ total_at_19 f.total
  unfolding le write_fields overlay byte_of
  at_19 = let u = total_fits f.total h.total in omega (arith, u.0)

  unclipped : le 4 x 32 ≡ le 4 (write_fields f b) 32
  unfolding le
  unclipped = refl

  at_32 : le 4 x 32 ≡ total_at_32 f.total
  unfolding write_fields
  at_32 =
      unclipped ∙ le_over_above 4 2 11 32 _ _ (omega arith) ∙ le_over_above 4 1 13 32 _ _ (omega arith) ∙ le_over_above 4 2 14 32 _ _ (omega arith)
      ∙ le_over_above 4 1 16 32 _ _ (omega arith) ∙ le_over_above 4 2 17 32 _ _ (omega arith) ∙ le_over_above 4 2 19 32 _ _ (omega arith)
      ∙ le_over_above 4 2 22 32 _ _ (omega arith) ∙ read_back 4 (total_at_32 f.total) 32 _ (total_fits f.total h.total).1

  total_read : total_sectors x ≡ f.total
  unfolding total_sectors
  total_read = rw (at_19, at_32) (told_total f.total)

  pub fields_read : fields x ≡ f
  unfolding fields
  fields_read = λ t. record { factor = at_13 t; reserved = at_14 t; fatsize = at_22 t; entries = at_17 t; total = total_read t }

  pub signed_read : signed x ≡ true
  unfolding signed every le write_fields overlay byte_of
  signed_read = refl

  -- So BOOT judges the fields, and the layout is theirs.
  pub layout_read : layout x ≡ arrange f
  unfolding layout
  layout_read = ap arrange fields_read

  pub boot_read : fields_ok f ≡ true → size_ok (arrange f) ≡ true → boot_ok x ≡ true
  unfolding boot_ok
  boot_read ok sized = each_every _ (signed_read, (ap fields_ok fields_read ∙ ok, (ap size_ok layout_read ∙ sized, tt)))

-- Its bytes are bytes.
pub fields_small : (f : Fields) (b : Bytes) → Small b → Small (write_fields f b)
unfolding write_fields
fields_small f b h = patched 2 512 11 _ (patched 1 f.factor 13 _ (patched 2 f.reserved 14 _ (patched 1 2 16 _ (patched 2 f.entries 17 _
    (patched 2 (total_at_19 f.total) 19 _ (patched 2 f.fatsize 22 _ (patched 4 (total_at_32 f.total) 32 _ (patched 2 0xAA55 510 b h))))))))

pub boot_small : (f : Fields) → Small (fresh_boot f)
unfolding fresh_boot
boot_small f = fields_small f _ (patched 3 0x903CEB 0 _ (patched 1 0xF8 21 zeros (λ j. omega arith)))

-- A boot sector of zeros is refused.
pub zeros_refused : boot_ok (clip zeros) ≡ false
unfolding boot_ok signed every le
zeros_refused = refl
