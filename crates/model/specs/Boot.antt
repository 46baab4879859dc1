-- The boot sector: its fields, what is accepted, and where each region lies.
use Rattle.std.specs.Prelude.{ℕ, ◌+◌, ◌-◌, ◌*◌, ◌/◌, ◌%◌, [], ◌∷◌, Bool, leb, eqb}
use Rattle.std.specs.Int.Count.{ones}
use Rattle.model.specs.Bytes.{Bytes, le, pick}
use Rattle.model.specs.Scan.{every, between}
use Rattle.model.specs.declared.Fields.{Fields}
use Rattle.model.specs.declared.Layout.{Layout}

-- "total sectors 19 (2 bytes), or where that is 0, 32 (4)"
unfoldable pub total_sectors : Bytes → ℕ
total_sectors b = pick (eqb (le 2 b 19) 0) (le 4 b 32) (le 2 b 19)

-- "sectors per cluster 13 (1 byte), reserved sectors 14 (2), root entries 17 (2), sectors per FAT 22 (2)"
unfoldable pub fields : Bytes → Fields
fields b = record { factor = b 13; reserved = le 2 b 14; fatsize = le 2 b 22; entries = le 2 b 17; total = total_sectors b }

-- "Order on the card: reserved, FAT1, FAT2, root (entries / 16 sectors), data."
abbrev pub data_start : Fields → ℕ
data_start f = f.reserved + 2 * f.fatsize + f.entries / 16

-- "Clusters = data sectors divided by sectors per cluster, rounded down"
unfoldable pub arrange : Fields → Layout
arrange f = record {
  factor = f.factor;
  fatsize = f.fatsize;
  fat1 = f.reserved;
  fat2 = f.reserved + f.fatsize;
  root = f.reserved + 2 * f.fatsize;
  entries = f.entries;
  start = data_start f;
  total = f.total;
  clusters = (f.total - data_start f) / f.factor;
}

unfoldable pub layout : Bytes → Layout
layout b = arrange (fields b)

-- "bytes 510 and 511 are 0x55, 0xAA"; "512 bytes per sector"; "2 FATs"
unfoldable pub signed : Bytes → Bool
signed b = every (eqb (b 510) 0x55 ∷ eqb (b 511) 0xAA ∷ eqb (le 2 b 11) 512 ∷ eqb (b 16) 2 ∷ [])

-- "sectors per cluster has exactly one bit set and is at most 64; reserved sectors at least 1; root entries a multiple of
-- 16, not 0; sectors per FAT not 0"
unfoldable pub fields_ok : Fields → Bool
fields_ok f =
    every (
    eqb (ones f.factor) 1 ∷ leb f.factor 64
    ∷ leb 1 f.reserved
    ∷ eqb (f.entries % 16) 0 ∷ leb 1 f.entries
    ∷ leb 1 f.fatsize ∷ [])

-- "A FAT must have at least clusters + 2 entries of 16 bits."
abbrev pub fat_holds : Layout → Bool
fat_holds l = leb (l.clusters + 2) (256 * l.fatsize)

-- "from 4,085 to 65,524"
unfoldable pub size_ok : Layout → Bool
size_ok l = every (between 4085 65524 l.clusters ∷ fat_holds l ∷ [])

unfoldable pub boot_ok : Bytes → Bool
boot_ok b = every (signed b ∷ fields_ok (fields b) ∷ size_ok (layout b) ∷ [])
