-- Rows on a card that is small enough to compute quickly: 8 clusters, one sector to a FAT, 16 root slots, a log of two sectors, and 0xAA
-- in all other data sectors. No boot sector says so, and grounds 1 to 7 are not asked; what follows them is. The edits in must-fail are
-- refused here and in `Locked`. The rows of the requirements' own card stand in the crate `worked`.
use Prim.Native.Nat.{ℕ, ◌+◌, ◌*◌}
use mathlib.Core.Path.{◌≡◌, refl}
use mathlib.Core.List.{List, [], ◌∷◌, map}
use mathlib.Core.Bool.{◌||◌}
use lib.Dec.{leb, eqb}
use lib.ListN.{get_or}
use Rattle.model.specs.Bytes.{Bytes, Span, pick, patch, zeros}
use Rattle.model.specs.Sector.{Card, Store, store, put, after}
use Rattle.model.specs.Fat.{fat1_of, free_clusters}
use Rattle.model.specs.Root.{slot_at, file_at, file_size}
use Rattle.model.specs.Pending.{pending}
use Rattle.model.specs.Record.{r_number, r_from, r_cluster, r_size}
use Rattle.model.specs.Ground.{refused, granted}
use Rattle.model.specs.declared.Layout.{Layout}
use Rattle.model.specs.declared.Area.{Area}
use Rattle.model.specs.declared.Volume.{Volume}
use Rattle.model.specs.declared.Name.{Name}
use Rattle.model.specs.Outcome.{Done, Stopped}
use Rattle.model.specs.declared.Pending.TheVariants as Pending
use Rattle.model.specs.declared.Ground.TheVariants as Ground
use Rattle.operations.specs.Program.{Program, stores}
use Rattle.operations.specs.Plan.{no_text, create_stores, append_stores, truncate_stores, delete_stores, rename_stores, replace_stores, recover_stores}
use Rattle.operations.specs.Plan.{clusters_of}
use Rattle.operations.specs.Calls.{whole}
use Rattle.operations.specs.Outcome.{made, outcome}
use Rattle.operations.specs.Reading.{reading, file_byte}
use Rattle.operations.proofs.Compute.{compute}

abbrev pub l : Layout
l = record { factor = 1; fatsize = 1; fat1 = 1; fat2 = 2; root = 3; entries = 16; start = 4; total = 12; clusters = 8 }

abbrev log : Area
log = record { sector = 4; sectors = 2 }

abbrev pub v : Volume
v = record { layout = l; log = log; pending = Pending.Nothing }

-- Clusters 2 and 3 are the log.
abbrev marks : Bytes
marks j = pick (eqb j 4 || eqb j 6) 0xF6 (pick (eqb j 5 || eqb j 7) 0xFF 0)

abbrev pub blank : Card
blank s = pick (eqb s 1 || eqb s 2) marks (pick (leb 6 s) (λ j. 0xAA) zeros)

abbrev one : Name
one = record { stem = 0x2020202020202041; extension = 0x202020 }

abbrev pub two : Name
two = record { stem = 0x2020202020202042; extension = 0x202020 }

abbrev pub span : ℕ → Bytes → Span
span n b = record { size = n; byte = b }

-- Stamp i: its four bytes are 10 i + 1 to 10 i + 4.
abbrev pub stamp : ℕ → ℕ
stamp i = 0x04030201 + 0x0A0A0A0A * i

-- ---- the programs: create, append 600 bytes, append 100, truncate to 512, rename, delete, each after the ones before it

abbrev pub creation : Program
creation = create_stores v blank 0 one no_text (stamp 0)

abbrev pub created : Card
created = after (stores creation) blank

abbrev pub appending : Bytes → Program
appending d = append_stores v created (file_at l created 0) (span 600 d) (stamp 1)

abbrev pub appended : Bytes → Card
appended d = after (stores (appending d)) created

abbrev lengthening : Bytes → Bytes → Program
lengthening d e = append_stores v (appended d) (file_at l (appended d) 0) (span 100 e) (stamp 2)

abbrev pub shortening : Bytes → Program
shortening d = truncate_stores v (appended d) (file_at l (appended d) 0) 512 (stamp 2)

abbrev deletion : Bytes → Program
deletion d = delete_stores v (appended d) (file_at l (appended d) 0)

abbrev pub renaming : Bytes → Program
renaming d = rename_stores v (appended d) (file_at l (appended d) 0) 1 two

-- Replace of the 600 bytes by n others, and of no bytes by none.
abbrev pub replacing : Bytes → ℕ → Bytes → Program
replacing d n e = replace_stores v (appended d) (file_at l (appended d) 0) (span n e) (stamp 2)

abbrev replaced : Bytes → Bytes → Card
replaced d e = after (stores (replacing d 700 e)) (appended d)

abbrev replacing_none : Bytes → Program
replacing_none e = replace_stores v created (file_at l created 0) (span 0 e) (stamp 2)

-- ---- what is seen of them

abbrev sectors : List Store → List ℕ
sectors ss = map (λ s. s.sector) ss

-- A store of a list, by its place.
abbrev bytes_at : List Store → ℕ → Bytes
bytes_at ss i = (get_or ss i (store 0 zeros)).bytes

-- What a record's bytes tell: operation, first/last cluster, DIR_Cluster, size.
abbrev told : Bytes → List ℕ
told b = r_number b ∷ r_cluster b ∷ r_from b ∷ r_size b ∷ []

-- The size and the clusters of the file in a slot.
pub record Seen : Type 0 where
  size : ℕ
  chain : List ℕ

abbrev seen : ℕ → Card → Seen
seen s c = record { size = file_size (slot_at l c s); chain = clusters_of l (fat1_of l c) (file_at l c s) }

-- A program cut by a limit, and then recovered.
abbrev recovery : Card → Program
recovery c = recover_stores l c (pending l log c)

abbrev pub cut : ℕ → Program → Card → Card
cut limit p c = after (made limit (granted p)) c

abbrev pub recovered : Card → Card
recovered c = after (stores (recovery c)) c

-- ---- rows

creation_row : sectors (stores creation) ≡ 4 ∷ 3 ∷ 4 ∷ []
unfolding compute
creation_row = refl

-- A limit lets so many stores through, and no more; STOPPED gives their number, DONE that of all.
limit_row : (sectors (made 2 (granted creation)) ≡ 4 ∷ 3 ∷ []) × (outcome 2 (granted creation) ≡ Stopped 2) × (outcome 3 (granted creation) ≡ Done 3)
unfolding compute
limit_row = (refl, refl, refl)

-- Data, FAT2, group, FAT1, root, commit. The clusters are the lowest free ones, and DIR_Cluster is the first of them.
appending_row : (d : Bytes) → (sectors (stores (appending d)) ≡ 6 ∷ 7 ∷ 2 ∷ 5 ∷ 1 ∷ 3 ∷ 5 ∷ [])
    × (r_from (bytes_at (stores (appending d)) 3) ≡ 4) × (seen 0 (appended d) ≡ record { size = 600; chain = 4 ∷ 5 ∷ [] })
unfolding compute
appending_row d = (refl, refl, refl)

-- The bytes appended, to the last, and zeros after them.
bytes_row : (d : Bytes) → map (file_byte l (appended d) (file_at l (appended d) 0)) (0 ∷ 511 ∷ 512 ∷ 599 ∷ 600 ∷ 1023 ∷ [])
    ≡ d 0 ∷ d 511 ∷ d 512 ∷ d 599 ∷ 0 ∷ 0 ∷ []
unfolding compute
bytes_row d = refl

-- From an offset on, up to the end.
reading_row : (d : Bytes) → (map (reading l (appended d) (file_at l (appended d) 0) 510 200).bytes.byte (0 ∷ 1 ∷ 2 ∷ []) ≡ d 510 ∷ d 511 ∷ d 512 ∷ [])
    × ((reading l (appended d) (file_at l (appended d) 0) 510 200).count ≡ 90)
unfolding compute
reading_row d = (refl, refl)

-- The third group of a log of two sectors: both are cleared first, the higher one first. No cluster is needed, and the last one is recorded.
lengthening_row : (d e : Bytes) → (sectors (stores (lengthening d e)) ≡ 7 ∷ 5 ∷ 4 ∷ 4 ∷ 3 ∷ 4 ∷ [])
    × (r_cluster (bytes_at (stores (lengthening d e)) 3) ≡ 5) × (r_from (bytes_at (stores (lengthening d e)) 3) ≡ 0)
unfolding compute
lengthening_row d e = (refl, refl, refl)

shortening_row : (d : Bytes) → (sectors (stores (shortening d)) ≡ 2 ∷ 5 ∷ 4 ∷ 4 ∷ 1 ∷ 3 ∷ 4 ∷ [])
    × (r_from (bytes_at (stores (shortening d)) 3) ≡ 5) × (seen 0 (after (stores (shortening d)) (appended d)) ≡ record { size = 512; chain = 4 ∷ [] })
unfolding compute
shortening_row d = (refl, refl, refl)

deletion_row : (d : Bytes) → (sectors (stores (deletion d)) ≡ 2 ∷ 5 ∷ 4 ∷ 4 ∷ 1 ∷ 3 ∷ 4 ∷ [])
    × (slot_at l (after (stores (deletion d)) (appended d)) 0 0 ≡ 0xE5)
unfolding compute
deletion_row d = (refl, refl)

-- Cut before its group's store and recovered, an append has not happened: FAT1 goes over FAT2.
before_group : (d : Bytes) → (sectors (stores (recovery (cut 3 (appending d) created))) ≡ 2 ∷ [])
    × (seen 0 (recovered (cut 3 (appending d) created)) ≡ record { size = 0; chain = [] })
unfolding compute
before_group d = (refl, refl)

-- Cut after it, it has: FAT2 goes over FAT1, then root and commit.
after_group : (d : Bytes) → (sectors (stores (recovery (cut 4 (appending d) created))) ≡ 1 ∷ 3 ∷ 5 ∷ [])
    × (seen 0 (recovered (cut 4 (appending d) created)) ≡ record { size = 600; chain = 4 ∷ 5 ∷ [] })
unfolding compute
after_group d = (refl, refl)

-- An append within a cluster, cut after its group's store: the FATs agree, and the first cluster stays.
within_cluster : (d e : Bytes) → (sectors (stores (recovery (cut 4 (lengthening d e) (appended d)))) ≡ 3 ∷ 4 ∷ [])
    × (seen 0 (recovered (cut 4 (lengthening d e) (appended d))) ≡ record { size = 700; chain = 4 ∷ 5 ∷ [] })
unfolding compute
within_cluster d e = (refl, refl)

-- A rename may be redone after its root store: the new slot has the old one's size and chain.
redone : (d : Bytes) → (sectors (stores (renaming d)) ≡ 5 ∷ 4 ∷ 4 ∷ 3 ∷ 4 ∷ [])
    × (seen 1 (recovered (cut 4 (renaming d) (appended d))) ≡ record { size = 600; chain = 4 ∷ 5 ∷ [] })
unfolding compute
redone d = (refl, refl)

-- Replace: data to fresh clusters, FAT2 with new links and freed entries in one image, the log cleared (this is its third group), group,
-- FAT1, root, commit. The record has operation 6, the old first cluster, the new first cluster, the new size; the old clusters are free.
replacing_row : (d e : Bytes) → (sectors (stores (replacing d 700 e)) ≡ 8 ∷ 9 ∷ 2 ∷ 5 ∷ 4 ∷ 4 ∷ 1 ∷ 3 ∷ 4 ∷ [])
    × (told (bytes_at (stores (replacing d 700 e)) 5) ≡ 6 ∷ 4 ∷ 6 ∷ 700 ∷ [])
    × (seen 0 (replaced d e) ≡ record { size = 700; chain = 6 ∷ 7 ∷ [] })
    × (free_clusters l (fat1_of l (replaced d e)) ≡ 4 ∷ 5 ∷ 8 ∷ 9 ∷ [])
unfolding compute
replacing_row d e = (refl, refl, refl, refl)

-- The new bytes, to the last, and zeros after them.
replaced_bytes : (d e : Bytes) → map (file_byte l (replaced d e) (file_at l (replaced d e) 0))
    (0 ∷ 511 ∷ 512 ∷ 699 ∷ 700 ∷ 1023 ∷ []) ≡ e 0 ∷ e 511 ∷ e 512 ∷ e 699 ∷ 0 ∷ 0 ∷ []
unfolding compute
replaced_bytes d e = refl

-- By no bytes: no data sector, DIR_Cluster 0, and the file has no cluster. By as many bytes as it has, a group is written too, and of an
-- empty file by no bytes: three stores.
emptying_row : (d e : Bytes) → (sectors (stores (replacing d 0 e)) ≡ 2 ∷ 5 ∷ 4 ∷ 4 ∷ 1 ∷ 3 ∷ 4 ∷ [])
    × (r_from (bytes_at (stores (replacing d 0 e)) 3) ≡ 0) × (seen 0 (after (stores (replacing d 0 e)) (appended d)) ≡ record { size = 0; chain = [] })
    × (sectors (stores (replacing d 600 d)) ≡ 8 ∷ 9 ∷ 2 ∷ 5 ∷ 4 ∷ 4 ∷ 1 ∷ 3 ∷ 4 ∷ []) × (sectors (stores (replacing_none e)) ≡ 5 ∷ 3 ∷ 5 ∷ [])
unfolding compute
emptying_row d e = (refl, refl, refl, refl, refl)

-- Cut one store before its group's and recovered, the old file; cut at it, the new one.
replacing_cut : (d e : Bytes) → (seen 0 (recovered (cut 5 (replacing d 700 e) (appended d))) ≡ record { size = 600; chain = 4 ∷ 5 ∷ [] })
    × (seen 0 (recovered (cut 6 (replacing d 700 e) (appended d))) ≡ record { size = 700; chain = 6 ∷ 7 ∷ [] })
unfolding compute
replacing_cut d e = (refl, refl)

-- A file that has fewer clusters than its size needs, though the last of them holds an end value.
abbrev stretched : Bytes → Card
stretched d = put (appended d) (store 3 (patch 4 1536 28 (appended d 3)))

short_chain : (d : Bytes) → whole v (stretched d) (file_at l (stretched d) 0) ≡ refused Ground.Chain
unfolding compute
short_chain d = refl
