-- The call that writes a fresh card: its grounds and its stores. What the window holds is not looked at.
use Rattle.std.specs.Prelude.{ℕ, ◌+◌, ◌-◌, ◌*◌, List, [], ◌∷◌, map, Bool, not, leb, ltb}
use Rattle.model.specs.Bytes.{Bytes, pick, zeros}
use Rattle.model.specs.Scan.{every, range}
use Rattle.model.specs.Sector.{Window, Store, store}
use Rattle.model.specs.Boot.{arrange, fields_ok, size_ok}
use Rattle.model.specs.Log.{area, most_sectors}
use Rattle.model.specs.Ground.{Answer, granted, ◌when◌, ◌>>◌}
use Rattle.model.specs.declared.Fields.{Fields}
use Rattle.model.specs.declared.Layout.{Layout}
use Rattle.model.specs.declared.Volume.{Volume}
use Rattle.model.specs.declared.Pending.TheVariants as Pending
use Rattle.model.specs.declared.Ground.TheVariants as Ground
use Rattle.operations.specs.Program.{Program, ending, segment}
use Rattle.formatting.specs.Fresh.{fresh_fields, fresh_boot, fresh_fat}

-- The card of these fields with a log of n clusters passes BOOT, and LOGAREA: "at most 128 sectors", and not none.
unfoldable pub form_ok : Fields → ℕ → Bool
form_ok f n = every (fields_ok f ∷ size_ok (arrange f) ∷ leb 1 n ∷ leb (n * f.factor) most_sectors ∷ [])

-- Its volume: nothing is pending.
abbrev pub fresh_volume : Fields → ℕ → Volume
fresh_volume f n = record { layout = arrange f; log = area (arrange f) (record { start = 2; size = n }); pending = Pending.Nothing }

-- Sector k of it, counted from FAT1's first: the FATs, and zeros after them.
unfoldable pub fresh_table : Layout → ℕ → ℕ → Bytes
fresh_table l n k = pick (ltb k l.fatsize) (fresh_fat n k) (pick (ltb k (2 * l.fatsize)) (fresh_fat n (k - l.fatsize)) zeros)

-- "then both FATs, the root and the log sectors, rising": they lie one after the other, since the log's clusters are the first.
unfoldable pub fresh_tables : Layout → ℕ → List Store
fresh_tables l n = map (λ k. store (l.fat1 + k) (fresh_table l n k)) (range 0 (l.start - l.fat1 + n * l.factor))

-- "An all-zero boot sector is stored first, then both FATs, the root and the log sectors, rising, and the true boot sector last. No others
-- are stored." No store passes one of the boot sector.
unfoldable pub format_stores : Fields → ℕ → Program
format_stores f n = segment [] (store 0 zeros) (segment (fresh_tables (arrange f) n) (store 0 (fresh_boot f)) (ending []))

-- "19 SIZE, no card of this form with the given numbers would pass BOOT and LOGAREA, asked first; then WINDOW for the given total, and no
-- other ground."
unfoldable pub format : Window → ℕ → ℕ → ℕ → Answer Program
format w total factor n = do
  Ground.Size when not (form_ok (fresh_fields total factor) n)
  Ground.Window when ltb w.size (512 * total)
  granted (format_stores (fresh_fields total factor) n)
