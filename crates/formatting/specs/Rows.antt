-- Fresh cards worked out by hand, as numbers: sizes, sectors stored, bytes, grounds.
use Rattle.std.specs.Prelude.{ℕ, ◌≡◌, List, [], ◌∷◌, ◌++◌, map, Bool, true, false, get_or, replicate}
use Rattle.model.specs.Bytes.{zeros, le}
use Rattle.model.specs.Scan.{range}
use Rattle.model.specs.Sector.{Card, Window, Store, store}
use Rattle.model.specs.Boot.{arrange}
use Rattle.model.specs.declared.Ground.TheVariants as Ground
use Rattle.model.specs.Outcome.{Outcome, Refused, Done, Stopped}
use Rattle.operations.specs.Program.{stores}
use Rattle.operations.specs.Outcome.{outcome, largest, outcome_number}
use Rattle.formatting.specs.Fresh.{fewest, fresh_fields, fresh_boot}
use Rattle.formatting.specs.Format.{form_ok, format_stores, format}

-- The FAT size of a card of so many sectors, so many to a cluster, and its clusters; whether there is such a card, with so long a log.
pub record Sizes : Type 0 where
  pub fat_sectors : ℕ
  pub clusters : ℕ

abbrev pub sizes : ℕ → ℕ → Sizes
sizes total factor = record { fat_sectors = fewest total factor; clusters = (arrange (fresh_fields total factor)).clusters }

abbrev pub these : ℕ → ℕ → Sizes
these f n = record { fat_sectors = f; clusters = n }

abbrev pub possible : ℕ → ℕ → ℕ → Bool
possible total factor n = form_ok (fresh_fields total factor) n

-- How a call ends on a window of so many bytes, whatever they are.
abbrev pub window : ℕ → Card → Window
window size c = record { size = size; card = c }

abbrev pub answers : ℕ → Card → ℕ → ℕ → ℕ → Outcome
answers size c total factor n = outcome largest (format (window size c) total factor n)

-- The stores of 4,150 sectors, 1 per cluster, 8 log clusters: store i, its bytes from an offset on.
abbrev pub small : List Store
small = stores (format_stores (fresh_fields 4150 1) 8)

abbrev pub bytes_at : ℕ → ℕ → ℕ → List ℕ
bytes_at i at n = map (get_or small i (store 0 zeros)).bytes (range at n)

-- The numbers at 19 and at 32 of a card of so many sectors, 1 per cluster.
abbrev pub totals : ℕ → List ℕ
totals total = let b = fresh_boot (fresh_fields total 1) in le 2 b 19 ∷ le 4 b 32 ∷ []

pub record Rows (c : Card) : Type 0 where
  -- 4,150: 4,150 - 33 - 2 x 16 = 4,085 clusters, and 16 x 256 = 4,096 entries hold 4,087; 15 sectors hold 3,840 and would leave 4,087.
  -- 4,159: 4,094 clusters, all 4,096 entries. 4,160 with 16: 4,095 clusters, one entry too many; with 17: 4,093. 4,161: 4,094.
  pub least : sizes 4150 1 ≡ these 16 4085
  pub full_fat : sizes 4159 1 ≡ these 16 4094
  pub one_more : sizes 4160 1 ≡ these 17 4093
  pub two_more : sizes 4161 1 ≡ these 17 4094
  -- 65,535 and 65,536: 254 sectors hold 65,024 entries; 64,994 + 2 and 64,995 + 2 of them are used.
  pub last_small : sizes 65535 1 ≡ these 254 64994
  pub first_large : sizes 65536 1 ≡ these 254 64995
  pub fields_19_32 : (totals 65535 ≡ 65535 ∷ 0 ∷ []) × (totals 65536 ≡ 0 ∷ 65536 ∷ [])
  -- 64 sectors per cluster: 545 + 65,524 x 64 + 63 = 4,194,144 is the largest. One sector more makes 65,525 clusters, which no FAT16 card has.
  pub largest_card : sizes 4194144 64 ≡ these 256 65524
  pub too_large : sizes 4194145 64 ≡ these 256 65525
  -- Which numbers give a card: least and most sectors; "257 sectors per cluster are not 1"; 0, 128 and 129 log sectors, and 2^26 x 64 = 2^32.
  pub totals_possible : map (λ t. possible t 1 8) (4149 ∷ 4150 ∷ 4160 ∷ 4161 ∷ 66069 ∷ 66070 ∷ []) ≡ false ∷ true ∷ true ∷ true ∷ true ∷ false ∷ []
  pub largest_possible : map (λ t. possible t 64 1) (4194144 ∷ 4194145 ∷ []) ≡ true ∷ false ∷ []
  pub factors_possible : map (λ k. possible 300000 k 1) (0 ∷ 3 ∷ 4 ∷ 8 ∷ 16 ∷ 32 ∷ 64 ∷ 128 ∷ 256 ∷ 257 ∷ [])
      ≡ false ∷ false ∷ false ∷ true ∷ true ∷ true ∷ true ∷ false ∷ false ∷ false ∷ []
  pub not_one : possible 5000 257 8 ≡ false
  pub logs_possible : map (possible 4150 1) (0 ∷ 1 ∷ 128 ∷ 129 ∷ []) ≡ false ∷ true ∷ true ∷ false ∷ []
  pub log_sectors_possible : map (possible 4194144 64) (0 ∷ 2 ∷ 3 ∷ 67108864 ∷ []) ≡ false ∷ true ∷ false ∷ false ∷ []
  -- 74 stores: sector 0, those from 1 to 72 (FAT1 1 to 16, FAT2 17 to 32, root 33 to 64, log 65 to 72), and sector 0 again.
  pub sectors : map (λ s. s.sector) small ≡ 0 ∷ (range 1 72 ++ 0 ∷ [])
  pub first_zeros : bytes_at 0 0 512 ≡ replicate 512 0
  -- The true boot sector: 0xEB 0x3C 0x90, no name, 512 (2 bytes), 1, 1 (2), 2, 512 (2), 4,150 = 0x1036 (2), 0xF8, 16 (2), zeros; 0x55 0xAA.
  pub boot_head : bytes_at 73 0 36
      ≡ 0xEB ∷ 0x3C ∷ 0x90 ∷ 0 ∷ 0 ∷ 0 ∷ 0 ∷ 0 ∷ 0 ∷ 0 ∷ 0 ∷ 0x00 ∷ 0x02 ∷ 1 ∷ 1 ∷ 0 ∷ 2 ∷ 0x00 ∷ 0x02 ∷ 0x36 ∷ 0x10 ∷ 0xF8 ∷ 16 ∷ 0 ∷ replicate 12 0
  pub boot_rest : bytes_at 73 36 476 ≡ replicate 474 0 ++ 0x55 ∷ 0xAA ∷ []
  -- Both FATs begin 0xFFF8, 0xFFFF, then eight times 0xFFF6; all else is zero.
  pub fat1_head : bytes_at 1 0 20 ≡ 0xF8 ∷ 0xFF ∷ 0xFF ∷ 0xFF ∷ 0xF6 ∷ 0xFF ∷ 0xF6 ∷ 0xFF ∷ 0xF6 ∷ 0xFF ∷ 0xF6 ∷ 0xFF
      ∷ 0xF6 ∷ 0xFF ∷ 0xF6 ∷ 0xFF ∷ 0xF6 ∷ 0xFF ∷ 0xF6 ∷ 0xFF ∷ []
  pub fat1_rest : (bytes_at 1 20 492 ≡ replicate 492 0) × (bytes_at 2 0 512 ≡ replicate 512 0) × (bytes_at 16 0 512 ≡ replicate 512 0)
  pub fat2_same : bytes_at 17 0 512 ≡ bytes_at 1 0 512
  pub root_and_log : (bytes_at 33 0 512 ≡ replicate 512 0) × (bytes_at 64 0 512 ≡ replicate 512 0) × (bytes_at 65 0 512 ≡ replicate 512 0)
      × (bytes_at 72 0 512 ≡ replicate 512 0)
  -- "SHORT is not asked: a window of 100 bytes, or none, is WINDOW." SIZE is asked first, and no other ground after them.
  pub windows : map (λ size. answers size c 4150 1 8) (0 ∷ 100 ∷ 512 ∷ 2124799 ∷ 2124800 ∷ [])
      ≡ Refused Ground.Window ∷ Refused Ground.Window ∷ Refused Ground.Window ∷ Refused Ground.Window ∷ Done 74 ∷ []
  pub size_first : answers 0 c 4149 1 8 ≡ Refused Ground.Size
  pub number : outcome_number (Refused Ground.Size) ≡ 81604378624
  -- A limit of 73 lets all but the true boot sector through.
  pub stopped : outcome 73 (format (window 2124800 c) 4150 1 8) ≡ Stopped 73
