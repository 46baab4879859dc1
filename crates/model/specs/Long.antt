-- Long names: the entries that belong to a slot, and the slots that a name takes.
use Rattle.std.specs.Prelude.{ℕ, zero, suc, ◌+◌, ◌-◌, ◌*◌, ◌/◌, ◌%◌, List, [], ◌∷◌, Bool, ◌&&◌, leb, eqb}
use Rattle.model.specs.Bytes.{Bytes, pick}
use Rattle.model.specs.Scan.{every, first_from, all_from}
use Rattle.model.specs.Root.{Directory, attributes}

-- The slots of a name: the n directly before slot s, for entries of its long name, then s itself.
unfoldable pub name_slots : ℕ → ℕ → List ℕ
name_slots s zero = s ∷ []
name_slots s (suc n) = (s - suc n) ∷ name_slots s n

-- "The checksum is the FAT paper's: begin with 0; for each of the 11 name bytes turn the sum right by one bit and add the byte, keeping
-- the low eight bits": a sum turned, the sum after n bytes, and after all.
unfoldable pub turned : ℕ → ℕ
turned sum = sum / 2 + 128 * (sum % 2)

unfoldable pub sum_of : ℕ → Bytes → ℕ
sum_of zero b = 0
sum_of (suc n) b = (turned (sum_of n b) + b n) % 256

abbrev pub checksum : Bytes → ℕ
checksum b = sum_of 11 b

-- A long entry that begins with this order byte, of a slot with this checksum: "all with attributes 0x0F, .. and the slot's checksum at
-- offset 13".
unfoldable pub is_long : ℕ → ℕ → Bytes → Bool
is_long sum order b = every (eqb (b 0) order ∷ eqb (attributes b) 0x0F ∷ eqb (b 13) sum ∷ [])

-- "order numbers 1, 2, 3 going back, bit 0x40 set on the last of these only": the first byte of number i of n.
abbrev pub order_byte : ℕ → ℕ → ℕ
order_byte n i = pick (eqb i n) (0x40 + i) i

-- "Long entries belong to a slot if they stand directly before it, ..": the n before slot s do.
unfoldable pub belong : Directory → ℕ → ℕ → Bool
belong d s n = leb n s && all_from (λ i. is_long (checksum (d s)) (order_byte n i) (d (s - i))) 1 n

-- "If any of that fails, or there are over 20, none belong": how many there are.
abbrev pub most_long : ℕ
most_long = 20

unfoldable pub long_count : Directory → ℕ → ℕ
long_count d s =
    let n = first_from (belong d s) 1 most_long in
    pick (leb n most_long) n 0
