-- The stores of each operation and of recovery, on a card whose grounds have been asked.
use Rattle.std.specs.Prelude.{ℕ, ◌+◌, ◌-◌, ◌*◌, ◌/◌, List, [], ◌∷◌, ◌++◌, map, reverse, ltb, get_or, take, drop, length}
use Rattle.model.specs.Bytes.{Bytes, Span, pick, zeros}
use Rattle.model.specs.Scan.{range}
use Rattle.model.specs.Sector.{Card, Store, store, put, after}
use Rattle.model.specs.Fat.{Fat, entry, fat1_of, fat2_of, free_clusters, link, release, write_fat}
use Rattle.model.specs.Chain.{needed, chain, file_sector}
use Rattle.model.specs.Root.{slot_at}
use Rattle.model.specs.Long.{long_count}
use Rattle.model.specs.Log.{Log, log_of, unused}
use Rattle.model.specs.LongName.{long_slots}
use Rattle.model.specs.Record.{Change, Group, plain, encode, group_of, group_in}
use Rattle.model.specs.declared.Layout.{Layout}
use Rattle.model.specs.declared.Area.{Area}
use Rattle.model.specs.declared.Name.{Name}
use Rattle.model.specs.declared.File.{File}
use Rattle.model.specs.declared.Volume.{Volume}
use Rattle.model.specs.declared.Operation.TheVariants.{Create, Update, Delete, Truncate, Rename, Replace}
use Rattle.model.specs.declared.Pending.{Pending}
use Rattle.operations.specs.Program.{Program, ending, segment}
use Rattle.operations.specs.Finish.{redo}

-- "If there is none, all log sectors are first stored as 512 zeros, the highest first; then the lowest serves."
unfoldable pub clear_all : Area → List Store
clear_all a = map (λ s. store s zeros) (reverse (range a.sector a.sectors))

unfoldable pub clearing : Area → Log → List Store
clearing a g = pick (ltb (unused a.sectors g) a.sectors) [] (clear_all a)

unfoldable pub group_sector : Area → Log → ℕ
group_sector a g = let u = unused a.sectors g in a.sector + pick (ltb u a.sectors) u 0

-- The group of a change: "into the lowest log sector whose first byte is 0".
unfoldable pub new_group : Area → Card → Change → Group
new_group a c x = group_of (group_sector a (log_of a c)) x

unfoldable pub group_store : Group → Store
group_store g = store g.sector (encode g.change)

-- Steps 1 to 3 but for the group. "2. FAT2 sectors whose bytes change, rising." "3. Clearing of the log, if needed; then the group."
unfoldable pub prepare : Volume → Card → List Store → Fat → List Store
prepare v c data_stores f =
    data_stores ++ (write_fat v.layout v.layout.fat2 f (fat2_of v.layout c) ++ clearing v.log (log_of v.log c))

-- All stores of a group: after those before it and the group's own, what is left to do on the card that these leave.
unfoldable pub journal : Layout → Card → Group → List Store → Program
journal l c g prep = segment prep (group_store g) (redo l g (put (after prep c) (group_store g)))

unfoldable pub operate : Volume → Card → List Store → Fat → Change → Program
operate v c data_stores f x = journal v.layout c (new_group v.log c x) (prepare v c data_stores f)

-- The FAT as it is, on a clean card.
abbrev pub old_fat : Volume → Card → Fat
old_fat v c = fat1_of v.layout c

-- The characters that a call is given, with zeros after them; none.
abbrev pub text_of : Span → Bytes
text_of t i = pick (ltb i t.size) (t.byte i) 0

abbrev pub no_text : Span
no_text = record { size = 0; byte = zeros }

-- How many long slots they need.
abbrev pub slots_for : Span → ℕ
slots_for t = long_slots (t.size / 2)

unfoldable pub create_stores : Volume → Card → ℕ → Name → Span → ℕ → Program
create_stores v c s name t st =
    operate v c [] (old_fat v c)
    (record { operation = Create (record { slot = s; name = name; attributes = 0x20 }) (slots_for t) st; text = text_of t })

-- The clusters of a file.
unfoldable pub clusters_of : Layout → Fat → File → List ℕ
clusters_of l t f = chain (entry t) (needed l f.size) f.first

-- The last of a file's clusters, as a list and as a number (0 if it has none).
abbrev pub last_of : List ℕ → List ℕ
last_of ks = drop (length ks - 1) ks

abbrev pub last_cluster : List ℕ → ℕ
last_cluster ks = get_or ks (length ks - 1) 0

-- Sector q of a file, which held b, once d is appended to its first bytes, `old` in number: the old bytes, the new, and "bytes
-- after the new end in the last one are zero".
unfoldable pub appended : Bytes → ℕ → Span → ℕ → Bytes
appended b old d q j =
    let i = 512 * q + j in
    pick (ltb i old) (b j) (pick (ltb i (old + d.size)) (d.byte (i - old)) 0)

unfoldable pub append_sector : Card → ℕ → ℕ → Span → ℕ → Store
append_sector c s old d q = store s (appended (c s) old d q)

-- "1. Append only: the data sectors that get new bytes, by rising file offset."
unfoldable pub data_stores : Layout → Card → List ℕ → ℕ → Span → List Store
data_stores l c ks old d =
    map (λ q. append_sector c (file_sector l ks q) old d q) (range (old / 512) ((old + d.size + 511) / 512 - old / 512))

-- How many clusters an append of n bytes takes.
unfoldable pub added : Layout → File → ℕ → ℕ
added l f n = needed l (f.size + n) - needed l f.size

-- "New clusters are the lowest free ones, in rising order, linked after the old last."
unfoldable pub new_clusters : Volume → Card → File → ℕ → List ℕ
new_clusters v c f n = take (added v.layout f n) (free_clusters v.layout (old_fat v c))

unfoldable pub extend : List ℕ → List ℕ → Fat → Fat
extend old [] t = t
extend old (k ∷ ks) t = link (last_of old ++ (k ∷ ks)) t

-- An append along a file's old and new clusters.
unfoldable pub append_along : Volume → Card → File → Span → ℕ → List ℕ → List ℕ → Program
append_along v c f d st old new =
    operate v c (data_stores v.layout c (old ++ new) f.size d) (extend old new (old_fat v c))
    (plain (Update f.entry (last_cluster old) (get_or new 0 0) (f.size + d.size) st))

unfoldable pub append_stores : Volume → Card → File → Span → ℕ → Program
append_stores v c f d st = append_along v c f d st (clusters_of v.layout (old_fat v c) f) (new_clusters v c f d.size)

-- "Freed entries are 0; where any is freed, the last one kept gets the end value."
unfoldable pub shorten : List ℕ → List ℕ → Fat → Fat
shorten kept [] t = t
shorten kept (k ∷ ks) t = release (k ∷ ks) (link (last_of kept) t)

unfoldable pub truncate_along : Volume → Card → File → ℕ → ℕ → List ℕ → List ℕ → Program
truncate_along v c f size st kept freed =
    operate v c [] (shorten kept freed (old_fat v c)) (plain (Truncate f.entry f.first (get_or freed 0 0) size st))

unfoldable pub truncate_stores : Volume → Card → File → ℕ → ℕ → Program
truncate_stores v c f size st =
    let ks = clusters_of v.layout (old_fat v c) f in
    let n = needed v.layout size in
    truncate_along v c f size st (take n ks) (drop n ks)

-- How many entries of a long name belong to a file's slot.
abbrev pub long_entries : Volume → Card → File → ℕ
long_entries v c f = long_count (slot_at v.layout c) f.entry.slot

unfoldable pub delete_stores : Volume → Card → File → Program
delete_stores v c f =
    operate v c [] (release (clusters_of v.layout (old_fat v c) f) (old_fat v c)) (plain (Delete f.entry (long_entries v c f) f.first f.size))

unfoldable pub rename_stores : Volume → Card → File → ℕ → Name → Program
rename_stores v c f s name = operate v c [] (old_fat v c) (plain (Rename f.entry (long_entries v c f) f.first f.size s name))

-- Replace "takes new clusters, for which the old ones do not count as free": the lowest free ones, as many as n bytes need.
unfoldable pub fresh_clusters : Volume → Card → ℕ → List ℕ
fresh_clusters v c n = take (needed v.layout n) (free_clusters v.layout (old_fat v c))

-- It links them among themselves "and releases the old in the same group".
unfoldable pub exchange : List ℕ → List ℕ → Fat → Fat
exchange old new t = release old (link new t)

-- "Data sectors go first, as in append": from the file's first byte on, along the new clusters alone. "The record has .. the old first
-- cluster in first/last, the new first cluster (0 for no bytes) in DIR_Cluster, and the new size."
unfoldable pub replace_along : Volume → Card → File → Span → ℕ → List ℕ → List ℕ → Program
replace_along v c f d st old new =
    operate v c (data_stores v.layout c new 0 d) (exchange old new (old_fat v c))
    (plain (Replace f.entry f.first (get_or new 0 0) d.size st))

unfoldable pub replace_stores : Volume → Card → File → Span → ℕ → Program
replace_stores v c f d st = replace_along v c f d st (clusters_of v.layout (old_fat v c) f) (fresh_clusters v c d.size)

-- "Recovery, pending group: FAT2 sectors that differ go to FAT1, rising, then 5 and 6 from the record. No pending group: FAT1
-- sectors that differ go to FAT2, rising."
unfoldable pub recover_stores : Layout → Card → Pending → Program
recover_stores l c Pending.Nothing = ending (write_fat l l.fat2 (fat1_of l c) (fat2_of l c))
recover_stores l c Pending.Broken = ending []
recover_stores l c (Pending.Held s) = redo l (group_in s (c s)) c
