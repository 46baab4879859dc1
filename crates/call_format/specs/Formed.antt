-- The layout of a fresh card, and its boot sector and its stores as the code makes them.
use Rattle.std.specs.Prelude.{ℕ, List, [], ◌∷◌, ◌++◌, Option, Some, None}
use Rattle.model.specs.Bytes.{Bytes, pick, patch}
use Rattle.model.specs.Sector.{Store, store}
use Rattle.model.specs.Boot.{arrange}
use Rattle.model.specs.declared.Fields.{Fields}
use Rattle.model.specs.declared.Layout.{Layout}
use Rattle.formatting.specs.Fresh.{with_fats, fresh_fields, fresh_boot, total_at_19, total_at_32}
use Rattle.formatting.specs.Format.{form_ok, fresh_tables}

-- The layout, or none where SIZE refuses.
unfoldable pub formed : ℕ → ℕ → ℕ → Option Layout
formed total factor n = pick (form_ok (fresh_fields total factor) n) (Some (arrange (fresh_fields total factor))) None

-- The fields that a layout came from.
abbrev pub fields_in : Layout → Fields
fields_in l = with_fats l.total l.factor l.fatsize

-- A boot sector in three parts.
abbrev pub with_marks : Bytes → Bytes
with_marks b = patch 2 0xAA55 510 (patch 3 0x903CEB 0 (patch 1 0xF8 21 b))

abbrev pub with_sizes : ℕ → ℕ → Bytes → Bytes
with_sizes total fatsize b = patch 2 (total_at_19 total) 19 (patch 2 fatsize 22 (patch 4 (total_at_32 total) 32 b))

abbrev pub with_shape : ℕ → Bytes → Bytes
with_shape factor b = patch 2 512 11 (patch 1 factor 13 (patch 2 1 14 (patch 1 2 16 (patch 2 512 17 b))))

-- The stores after the first.
unfoldable pub rest_stores : Layout → ℕ → List Store
rest_stores l n = fresh_tables l n ++ store 0 (fresh_boot (fields_in l)) ∷ []
