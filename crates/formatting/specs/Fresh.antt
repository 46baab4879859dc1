-- A fresh card: its numbers, its boot sector and its FATs.
use Rattle.std.specs.Prelude.{ℕ, ◌+◌, ◌*◌, ◌/◌, ◌%◌, ◌&&◌, leb, ltb, eqb}
use Rattle.model.specs.Bytes.{Bytes, pick, patch, byte_of, zeros}
use Rattle.model.specs.Scan.{first_from}
use Rattle.model.specs.Boot.{arrange, fat_holds}
use Rattle.model.specs.Fat.{Fat}
use Rattle.model.specs.declared.Fields.{Fields}

-- ---- the numbers

-- "1 reserved sector, 512 root entries, 2 FATs of the fewest sectors that hold clusters + 2 entries": with FATs of so many sectors, and of the
-- fewest. (A FAT has at most 65,535.)
abbrev pub with_fats : ℕ → ℕ → ℕ → Fields
with_fats total factor fatsize = record { factor = factor; reserved = 1; fatsize = fatsize; entries = 512; total = total }

unfoldable pub fewest : ℕ → ℕ → ℕ
fewest total factor = first_from (λ f. fat_holds (arrange (with_fats total factor f))) 1 65534

abbrev pub fresh_fields : ℕ → ℕ → Fields
fresh_fields total factor = with_fats total factor (fewest total factor)

-- ---- the boot sector

-- "total sectors stands at 19 if it is below 65,536, else at 32"
abbrev pub total_at_19 : ℕ → ℕ
total_at_19 total = pick (ltb total 65536) total 0

abbrev pub total_at_32 : ℕ → ℕ
total_at_32 total = pick (ltb total 65536) 0 total

-- The fields by offset, and the other bytes that the boot sector rules give, written over b.
unfoldable pub write_fields : Fields → Bytes → Bytes
write_fields f b =
    patch 2 512 11 (patch 1 f.factor 13 (patch 2 f.reserved 14 (patch 1 2 16 (patch 2 f.entries 17
    (patch 2 (total_at_19 f.total) 19 (patch 2 f.fatsize 22 (patch 4 (total_at_32 f.total) 32 (patch 2 0xAA55 510 b))))))))

-- "The jump is 0xEB, 0x3C, 0x90, media byte 0xF8 at offset 21, every stored byte that neither this nor the boot sector rules give is zero"
unfoldable pub fresh_boot : Fields → Bytes
fresh_boot f = write_fields f (patch 3 0x903CEB 0 (patch 1 0xF8 21 zeros))

-- ---- the FATs

-- The FAT with given entries, of a width in bytes.
unfoldable pub wide_fat : ℕ → (ℕ → ℕ) → Fat
wide_fat w e s j = byte_of (e (512 / w * s + j / w)) (j % w)

-- "the log in the clusters from 2 on": n of them are marked.
unfoldable pub log_mark : ℕ → ℕ → ℕ
log_mark n k = pick (leb 2 k && ltb k (2 + n)) 0xFFF6 0

-- "FAT entries 0 and 1 are 0xFFF8 and 0xFFFF"
unfoldable pub fresh_entry : ℕ → ℕ → ℕ
fresh_entry n k = pick (eqb k 0) 0xFFF8 (pick (eqb k 1) 0xFFFF (log_mark n k))

abbrev pub fresh_fat : ℕ → Fat
fresh_fat n = wide_fat 2 (fresh_entry n)
