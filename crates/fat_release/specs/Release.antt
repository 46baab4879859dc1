-- The FAT in which the end of a chain is freed, and the marks of freed clusters by which it is made.
use Rattle.std.specs.Prelude.{ℕ, ◌+◌, ◌*◌, ◌/◌, ◌%◌, ◌^◌, ◌<◌, ◌≡◌, List, [], ◌∷◌, eqb, get_or}
use Rattle.model.specs.Bytes.{pick}
use Rattle.model.specs.Scan.{among}
use Rattle.model.specs.Fat.{Fat, entry, link, release}
use Rattle.model.specs.Chain.{chain}
use Rattle.model.specs.declared.Layout.{Layout}

-- The m clusters from `first` on are freed, and `kept`, the last one kept, ends its chain; 0 where none is kept.
unfoldable pub cut : Fat → ℕ → ℕ → ℕ → Fat
cut t kept first m = pick (eqb m 0) t (release (chain (entry t) m first) (link (pick (eqb kept 0) [] (kept ∷ [])) t))

-- No cluster lies after the last.
abbrev pub Inside : Layout → List ℕ → Type 0
Inside l [] = Unit {0}
Inside l (k ∷ ks) = (k < l.clusters + 2) × Inside l ks

-- Bit i of a byte, and mark i: bit i % 8 of byte i / 8.
unfoldable pub bit_of : ℕ → ℕ → ℕ
bit_of b i = b / 2 ^ i % 2

abbrev pub mark_of : List ℕ → ℕ → ℕ
mark_of marks i = bit_of (get_or marks (i / 8) 0) (i % 8)

-- Mark i says whether cluster from + i is one of a list.
abbrev pub Marked : List ℕ → ℕ → List ℕ → Type 0
Marked ks from marks = (i : ℕ) → i < 8192 → mark_of marks i ≡ pick (among ks (from + i)) 1 0

-- A FAT with the marked entries 0, the marks being those of the 32 sectors that sector s is one of.
unfoldable pub cleared : List ℕ → Fat → Fat
cleared marks f s j = pick (eqb (mark_of marks (256 * (s % 32) + j / 2)) 0) (f s j) 0
