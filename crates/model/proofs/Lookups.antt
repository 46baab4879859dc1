-- What finding a name answers: rows on a root directory of two slots, which refuse wrong definitions, and laws.
use Prim.Native.Nat.{ℕ, ◌+◌, ◌/◌, ◌%◌, ◌≤◌, ◌<◌}
use mathlib.Core.Path.{◌≡◌, refl}
use mathlib.Core.List.{List, [], ◌∷◌, map}
use mathlib.Core.Bool.{true, false}
use lib.Dec.{ltb, eqb}
use borrow.Author.Tests.{lt-ltb, le-ltb}
use Rattle.model.specs.Bytes.{Bytes, pick, le}
use Rattle.model.specs.Scan.{first_from, walk}
use Rattle.model.specs.Sector.{Card}
use Rattle.model.specs.Root.{slot_at, file_at, entry_at, is_directory, is_label, is_locked, vacant, listed, bears, same_name, find, lowest_slot}
use Rattle.model.specs.Root.{slot_holds, lookup}
use Rattle.model.specs.declared.Layout.{Layout}
use Rattle.model.specs.declared.Name.{Name}
use Rattle.model.specs.declared.Lookup.{Lookup}

-- ---- rows

abbrev two_slots : Layout
two_slots = record { factor = 1; fatsize = 1; fat1 = 0; fat2 = 0; root = 1; entries = 2; start = 2; total = 3; clusters = 1 }

-- Both slots have the name A. Their attributes are a and b, their sizes 1 and 2.
abbrev name_a : Name
name_a = record { stem = 0x2020202020202041; extension = 0x202020 }

abbrev slot_bytes : ℕ → ℕ → Bytes
slot_bytes a size j = pick (eqb j 0) 65 (pick (ltb j 11) 32 (pick (eqb j 11) a (pick (eqb j 28) size 0)))

abbrev root_with : ℕ × ℕ → Card
root_with (a, b) s j = slot_bytes (pick (ltb j 32) a b) (1 + j / 32) (j % 32)

-- A file by its slot, its size, and 1 if it is locked; 10 for a directory.
abbrev told : Lookup → List ℕ
told Lookup.Absent = []
told Lookup.Directory = 10 ∷ []
told (Lookup.File f locked) = f.entry.slot ∷ f.size ∷ pick locked 1 0 ∷ []

-- The mark is that of the lowest slot with the name, not of the other one; bit 0x01 and no other; a label with the name is not found,
-- whatever its mark, and a directory is one.
found_rows : map (λ p. told (lookup two_slots (root_with p) name_a))
    ((0x20, 0x21) ∷ (0x21, 0x20) ∷ (0xE6, 0xE7) ∷ (0xE7, 0xE6) ∷ (0x09, 0x20) ∷ (0x08, 0x21) ∷ (0x0F, 0x0F) ∷ (0x11, 0x20) ∷ [])
    ≡ (0 ∷ 1 ∷ 0 ∷ []) ∷ (0 ∷ 1 ∷ 1 ∷ []) ∷ (0 ∷ 1 ∷ 0 ∷ []) ∷ (0 ∷ 1 ∷ 1 ∷ []) ∷ (1 ∷ 2 ∷ 0 ∷ []) ∷ (1 ∷ 2 ∷ 1 ∷ []) ∷ [] ∷ (10 ∷ []) ∷ []
unfolding lookup slot_holds find lowest_slot first_from walk bears same_name listed vacant is_label is_directory is_locked slot_at file_at entry_at le
found_rows = refl

-- ---- laws

module _ (l : Layout) (c : Card) (s : ℕ) where
  pub holds_none : l.entries ≤ s → slot_holds l c s ≡ Lookup.Absent
  unfolding slot_holds
  holds_none h = rw (le-ltb s l.entries h)

  module _ (less : s < l.entries) where
    pub holds_directory : is_directory (slot_at l c s) ≡ true → slot_holds l c s ≡ Lookup.Directory
    unfolding slot_holds
    holds_directory d = rw (lt-ltb s l.entries less, d)

    pub holds_file : is_directory (slot_at l c s) ≡ false → slot_holds l c s ≡ Lookup.File (file_at l c s) (is_locked (slot_at l c s))
    unfolding slot_holds
    holds_file d = rw (lt-ltb s l.entries less, d)
