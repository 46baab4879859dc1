-- Steps 4 to 6: what is left of an operation once its group is on the card. An operation and the recovery of its group share it.
use Rattle.std.specs.Prelude.{ℕ, ◌+◌, ◌-◌, ◌*◌, ◌/◌, ◌%◌, ◌<◌, List, [], ◌∷◌, ◌++◌, map, Bool, ltb, eqb}
use Rattle.model.specs.Bytes.{Bytes, pick, patch, zeros}
use Rattle.model.specs.Scan.{any, indices}
use Rattle.model.specs.Promises.{All}
use Rattle.model.specs.Sector.{Card, Store, store}
use Rattle.model.specs.Fat.{fat1_of, fat2_of, write_fat}
use Rattle.model.specs.Root.{Directory, root_place, slot_at}
use Rattle.model.specs.Long.{name_slots, checksum}
use Rattle.model.specs.LongName.{name_entry}
use Rattle.model.specs.Calendar.{stamp_time, stamp_date}
use Rattle.model.specs.Record.{Change, Group, text_length, commit}
use Rattle.model.specs.Pending.{fills}
use Rattle.model.specs.declared.Layout.{Layout}
use Rattle.model.specs.declared.Name.{Name}
use Rattle.model.specs.declared.Entry.{Entry}
use Rattle.model.specs.declared.Operation.{Operation}
use Rattle.model.specs.declared.Operation.TheVariants.{Create, Update, Delete, Truncate, Rename, Replace}
use Rattle.operations.specs.Program.{Program, ending, segment}

-- An edit gives a slot what it makes of a slot's bytes: of its own, or of another's. The directory after a list of edits, each made
-- of the directory as it was.
pub record Edit : Type 0 where
  pub slot : ℕ
  pub source : ℕ
  pub change : Bytes → Bytes

abbrev pub edit : ℕ → (Bytes → Bytes) → Edit
edit s f = record { slot = s; source = s; change = f }

abbrev pub edit_from : ℕ → ℕ → (Bytes → Bytes) → Edit
edit_from from s f = record { slot = s; source = from; change = f }

unfoldable pub set_slots : List Edit → Directory → Directory
set_slots [] d k = d k
set_slots (e ∷ es) d k = pick (eqb k e.slot) (e.change (d e.source)) (set_slots es d k)

-- Fields of an entry, set.
abbrev pub set_name : Name → Bytes → Bytes
set_name n b = patch 8 n.stem 0 (patch 3 n.extension 8 b)

abbrev pub set_first : ℕ → Bytes → Bytes
set_first k b = patch 2 k 26 b

abbrev pub set_size : ℕ → Bytes → Bytes
set_size n b = patch 4 n 28 b

-- "the others set write time, write date and access date": at 22, 24 and 18.
abbrev pub set_stamp : ℕ → Bytes → Bytes
set_stamp st b = patch 2 (stamp_time st) 22 (patch 2 (stamp_date st) 24 (patch 2 (stamp_date st) 18 b))

abbrev pub mark_deleted : Bytes → Bytes
mark_deleted b = patch 1 0xE5 0 b

-- Each slot of a list given what f makes of its number and its bytes; slots marked as deleted.
abbrev pub each : (ℕ → Bytes → Bytes) → List ℕ → List Edit
each f ks = map (λ k. edit k (f k)) ks

abbrev pub marks : List ℕ → List Edit
marks ks = each (λ k b. mark_deleted b) ks

-- "attributes 0x20, .. all else 0 but the name"; "A new file gets all its dates and times from it, tenths 0": creation time and date, at 14 and
-- 16, and those that every stamp sets.
unfoldable pub new_entry : Name → ℕ → Bytes
new_entry n st = set_name n (patch 1 0x20 11 (patch 2 (stamp_time st) 14 (patch 2 (stamp_date st) 16 (set_stamp st zeros))))

-- A slot of a new name, whose long name is a text: its entries, counted back from the short one, which is its last.
unfoldable pub name_slot : Entry → ℕ → Bytes → ℕ → Bytes
name_slot e st t k =
    pick (eqb k e.slot) (new_entry e.name st) (name_entry (checksum (new_entry e.name st)) t (text_length t) (e.slot - k))

-- "Root effect. Create: a new slot .. Update: size; first cluster becomes DIR_Cluster if the last was 0. Truncate: size; first
-- cluster 0 if size is 0. Delete: first byte 0xE5. Rename: the new slot gets the new name and bytes 11 to 31 of the old, the old
-- gets 0xE5." Delete and rename "also mark the old name's long entries with 0xE5", as many as the record's count says. Replace: "The root
-- slot gets that first cluster and size", those of the record. A create fills as many slots before its own as its count says. The dates are
-- those of the record's stamp: "Recovery gives that same stamp."
unfoldable pub operation_edits : Operation → Bytes → List Edit
operation_edits (Create e count st) t = each (λ k b. name_slot e st t k) (name_slots e.slot count)
operation_edits (Update e last from size st) t = edit e.slot (λ b. set_stamp st (set_size size (pick (eqb last 0) (set_first from b) b))) ∷ []
operation_edits (Delete e count first size) t = marks (name_slots e.slot count)
operation_edits (Truncate e first from size st) t = edit e.slot (λ b. set_stamp st (set_size size (pick (eqb size 0) (set_first 0 b) b))) ∷ []
operation_edits (Rename e count first size to renamed) t =
    marks (name_slots e.slot count) ++ (edit_from e.slot to (λ b. set_name renamed b) ∷ [])
operation_edits (Replace e first from size st) t = edit e.slot (λ b. set_stamp st (set_size size (set_first from b))) ∷ []

unfoldable pub edits : Change → List Edit
edits x = operation_edits x.operation x.text

unfoldable pub effect : Change → Directory → Directory
effect x d = set_slots (edits x) d

-- A change's edits are of slots below n, and made of such.
abbrev pub Slots : ℕ → Change → Type 0
Slots n x = All (λ e. (e.slot < n) × (e.source < n)) (edits x)

-- Root sector r of a directory, and whether a change edits a slot in it.
unfoldable pub root_sector : Directory → ℕ → Bytes
root_sector d r j = d (16 * r + j / 32) (j % 32)

unfoldable pub concerns : Change → ℕ → Bool
concerns x r = any (map (λ e. eqb (e.slot / 16) r) (edits x))

-- "5. Root sectors concerned, rising, one store each."
unfoldable pub root_stores : Layout → Change → Card → List Store
root_stores l x c =
    map (λ r. store (root_place l r) (root_sector (effect x (slot_at l c)) r)) (indices (concerns x) (l.entries / 16))

-- "4. The same FAT sectors into FAT1, rising": those of FAT2 that differ.
unfoldable pub finish : Layout → Change → Card → List Store
finish l x c = write_fat l l.fat1 (fat2_of l c) (fat1_of l c) ++ root_stores l x c

-- Stores of which each is on the card before the next is made, after others and before a last one.
unfoldable pub rising : List Store → List Store → Store → Program
rising ys [] m = segment ys m (ending [])
rising ys (r ∷ rs) m = segment ys r (rising [] rs m)

-- Steps 4 and 5, then 6: "the log sector again, each record of the group starting 0xE5". The slots of a long name are filled from the lowest
-- on, each root sector before the next, so that none that begins 0 stays before one that is filled.
unfoldable pub redo : Layout → Group → Card → Program
redo l g c =
    pick (ltb 0 (fills g.change.operation))
    (rising (write_fat l l.fat1 (fat2_of l c) (fat1_of l c)) (root_stores l g.change c) (commit c g))
    (segment (finish l g.change c) (commit c g) (ending []))
