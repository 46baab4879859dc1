-- Delete and rename of a file with a long name, on a card of 8 clusters with 64 root slots, by computation. FAT1 is sector 1, FAT2 2, the root
-- 3 to 6, the log 7 and 8. The edits in must-fail are refused here.
use Prim.Native.Nat.{ℕ, ◌+◌, ◌-◌, ◌*◌, ◌/◌, ◌%◌}
use mathlib.Core.Path.{◌≡◌, refl}
use mathlib.Core.List.{List, [], ◌∷◌, map}
use mathlib.Core.Bool.{◌&&◌, ◌||◌}
use lib.Dec.{leb, ltb, eqb}
use lib.ListN.{get_or}
use Rattle.model.specs.Bytes.{Bytes, Span, pick, part, patch, zeros}
use Rattle.model.specs.Scan.{range}
use Rattle.model.specs.Sector.{Card, Store, store, put, after}
use Rattle.model.specs.Root.{Directory, slot_at, file_at, file_size, free_slot, name_in}
use Rattle.model.specs.Record.{r_count, r_number, r_slot, plain, encode}
use Rattle.model.specs.Pending.{pending}
use Rattle.model.specs.Ground.{granted}
use Rattle.model.specs.declared.Area.{Area}
use Rattle.model.specs.declared.Layout.{Layout}
use Rattle.model.specs.declared.Name.{Name}
use Rattle.model.specs.declared.File.{File}
use Rattle.model.specs.declared.Volume.{Volume}
use Rattle.model.specs.declared.Pending.{Pending}
use Rattle.model.specs.declared.Operation.TheVariants.{Delete}
use Rattle.operations.specs.Program.{Program, stores}
use Rattle.operations.specs.Plan.{delete_stores, rename_stores, recover_stores}
use Rattle.operations.specs.Calls.{creates, appends, deletes, renames, recovers, changed_by}
use Rattle.operations.specs.Outcome.{made}
use Rattle.operations.proofs.Compute.{compute}

abbrev pub l : Layout
l = record { factor = 1; fatsize = 1; fat1 = 1; fat2 = 2; root = 3; entries = 64; start = 7; total = 15; clusters = 8 }

abbrev pub log : Area
log = record { sector = 7; sectors = 2 }

abbrev pub v : Volume
v = record { layout = l; log = log; pending = Pending.Nothing }

-- Clusters 2 and 3 are the log, 4 leads to 5, which ends a chain.
abbrev fat : Bytes
fat j = get_or (0 ∷ 0 ∷ 0 ∷ 0 ∷ 0xF6 ∷ 0xFF ∷ 0xF6 ∷ 0xFF ∷ 5 ∷ 0 ∷ 0xFF ∷ 0xFF ∷ []) j 0

-- A name of one letter; A is a file of 600 bytes from cluster 4 on, and its checksum is 128.
abbrev pub letter : ℕ → Bytes
letter b j = pick (eqb j 0) b (pick (ltb j 12) 32 0)

abbrev file : Bytes
file = patch 2 4 26 (patch 4 600 28 (letter 65))

abbrev pub name : ℕ → Name
name b = name_in (letter b)

abbrev pub span : ℕ → Span
span b = record { size = 11; byte = letter b }

abbrev long : ℕ → Bytes
long order j = pick (eqb j 0) order (pick (eqb j 11) 0x0F (pick (eqb j 13) 128 0xFF))

-- A card with a directory.
abbrev pub with_root : Directory → Card
with_root d s =
    pick (eqb s 1 || eqb s 2) fat
    (pick (leb 3 s && ltb s 7) (λ j. d (16 * (s - 3) + j / 32) (j % 32)) (pick (leb 9 s) (λ j. 0xAA) zeros))

-- n long entries of A, which is in slot s; a file Z in every other slot before `used`, and slots never used from there on.
abbrev root : ℕ → ℕ → ℕ → Directory
root n s used k =
    pick (leb used k) zeros (pick (eqb k s) file (pick (leb (s - n) k && ltb k s) (long (pick (eqb (s - k) n) (0x40 + n) (s - k))) (letter 90)))

-- ---- two entries, in slots 15 and 16, and A in slot 17: they lie on both sides of a root sector's border

abbrev two : Card
two = with_root (root 2 17 18)

abbrev A : File
A = file_at l two 17

abbrev deletion : Program
deletion = delete_stores v two A

abbrev renaming : Program
renaming = rename_stores v two A 18 (name 66)

abbrev pub sectors : List Store → List ℕ
sectors ss = map (λ s. s.sector) ss

abbrev pub bytes_at : List Store → ℕ → Bytes
bytes_at ss i = (get_or ss i (store 0 zeros)).bytes

-- Operation, long-name count and slot of a record.
abbrev told : Bytes → List ℕ
told b = r_number b ∷ r_count b ∷ r_slot b ∷ []

-- What slots 14 to 18 begin with.
abbrev begins : Card → List ℕ
begins c = map (λ k. slot_at l c k 0) (range 14 5)

abbrev pub finished : Program → Card → Card
finished p c = after (stores p) c

-- FAT2, group, FAT1, both root sectors, commit. The record tells of two entries. All three slots are marked, and no other byte changes.
deletion_row : (sectors (stores deletion) ≡ 2 ∷ 7 ∷ 1 ∷ 3 ∷ 4 ∷ 7 ∷ [])
    × (told (bytes_at (stores deletion) 1) ≡ 3 ∷ 2 ∷ 17 ∷ [])
    × (begins two ≡ 90 ∷ 0x42 ∷ 1 ∷ 65 ∷ 0 ∷ []) × (begins (finished deletion two) ≡ 90 ∷ 0xE5 ∷ 0xE5 ∷ 0xE5 ∷ 0 ∷ [])
    × (map (slot_at l (finished deletion two) 16) (range 0 14) ≡ 0xE5 ∷ map (λ j. long 1 j) (range 1 13))
unfolding compute
deletion_row = (refl, refl, refl, refl, refl)

-- Group, both root sectors, commit. Both records have the count; the new slot has the file.
renaming_row : (sectors (stores renaming) ≡ 7 ∷ 3 ∷ 4 ∷ 7 ∷ [])
    × (told (bytes_at (stores renaming) 0) ≡ 5 ∷ 2 ∷ 17 ∷ []) × (told (part (bytes_at (stores renaming) 0) 32) ≡ 0 ∷ 2 ∷ 18 ∷ [])
    × (begins (finished renaming two) ≡ 90 ∷ 0xE5 ∷ 0xE5 ∷ 0xE5 ∷ 66 ∷ []) × (file_size (slot_at l (finished renaming two) 18) ≡ 600)
unfolding compute
renaming_row = (refl, refl, refl, refl, refl)

-- ---- cut, and recovered

abbrev cut : ℕ → Program → Card
cut limit p = after (made limit (granted p)) two

abbrev pub recovery : Card → Program
recovery c = recover_stores l c (pending l log c)

abbrev recovered : Card → List ℕ
recovered c = begins (finished (recovery c) c)

-- Before the group's store nothing has happened; before the first root store, after it and after the second all of it is done. What the
-- first root store has marked is not judged again.
cut_rows : (map (λ k. recovered (cut k renaming)) (0 ∷ 1 ∷ 2 ∷ 3 ∷ []) ≡ (90 ∷ 0x42 ∷ 1 ∷ 65 ∷ 0 ∷ []) ∷ (90 ∷ 0xE5 ∷ 0xE5 ∷ 0xE5 ∷ 66 ∷ [])
    ∷ (90 ∷ 0xE5 ∷ 0xE5 ∷ 0xE5 ∷ 66 ∷ []) ∷ (90 ∷ 0xE5 ∷ 0xE5 ∷ 0xE5 ∷ 66 ∷ []) ∷ [])
    × (begins (cut 2 renaming) ≡ 90 ∷ 0xE5 ∷ 1 ∷ 65 ∷ 0 ∷ [])
    × (sectors (stores (recovery (cut 2 renaming))) ≡ 3 ∷ 4 ∷ 7 ∷ [])
    × (map (λ k. recovered (cut k deletion)) (1 ∷ 2 ∷ 4 ∷ []) ≡ (90 ∷ 0x42 ∷ 1 ∷ 65 ∷ 0 ∷ []) ∷ (90 ∷ 0xE5 ∷ 0xE5 ∷ 0xE5 ∷ 0 ∷ [])
    ∷ (90 ∷ 0xE5 ∷ 0xE5 ∷ 0xE5 ∷ 0 ∷ []) ∷ [])
unfolding compute
cut_rows = (refl, refl, refl, refl)

-- A group that tells of three entries, where two belong: recovery marks three slots, a file's among them.
crafted_row : recovered (put two (store 7 (encode (plain (Delete A.entry 3 4 600))))) ≡ 0xE5 ∷ 0xE5 ∷ 0xE5 ∷ 0xE5 ∷ 0 ∷ []
unfolding compute
crafted_row = refl

-- ---- 20 entries, in slots 15 to 34, with A in slot 35 and the new slot 48: four root sectors. 21 of them: none belong.

abbrev many : ℕ → List ℕ
many n =
    let c = with_root (root n 35 48) in
    sectors (stores (rename_stores v c (file_at l c 35) (free_slot l c) (name 66)))

many_rows : (many 20 ≡ 7 ∷ 3 ∷ 4 ∷ 5 ∷ 6 ∷ 7 ∷ []) × (many 19 ≡ 7 ∷ 4 ∷ 5 ∷ 6 ∷ 7 ∷ []) × (many 21 ≡ 7 ∷ 5 ∷ 6 ∷ 7 ∷ []) × (many 0 ≡ 7 ∷ 5 ∷ 6 ∷ 7 ∷ [])
unfolding compute
many_rows = (refl, refl, refl, refl)

-- ---- the slots that calls change

changed_rows : map (λ k. changed_by v two k) (deletes (span 65) ∷ renames (span 65) (span 66) ∷ creates (span 66) 0 ∷ appends (span 65) (span 66) 0 ∷ recovers
    ∷ [])
    ≡ (15 ∷ 16 ∷ 17 ∷ []) ∷ (15 ∷ 16 ∷ 17 ∷ 18 ∷ []) ∷ (18 ∷ []) ∷ (17 ∷ []) ∷ [] ∷ []
unfolding compute
changed_rows = refl
