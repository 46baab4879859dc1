-- The calls that store: their grounds, in checking order, and what each then does.
use Rattle.std.specs.Prelude.{ℕ, ◌+◌, ◌-◌, List, [], ◌∷◌, ◌++◌, Bool, ◌&&◌, ◌||◌, not, ltb, eqb, drop, length}
use Rattle.model.specs.Bytes.{Span, pick}
use Rattle.model.specs.Sector.{Card, Window}
use Rattle.model.specs.Fat.{entry, free_clusters}
use Rattle.model.specs.Chain.{keeps_chain, needed}
use Rattle.model.specs.Root.{slot_at, name_ok, name_in, find, free_run, file_at, lookup}
use Rattle.model.specs.Long.{name_slots, long_count}
use Rattle.model.specs.LongName.{text_ok, find_text}
use Rattle.model.specs.Ground.{Answer, refused, granted, ◌when◌, ◌>>=◌, ◌>>◌}
use Rattle.model.specs.Calendar.{stamp_of}
use Rattle.model.specs.Volume.{examine, clean, clean_at}
use Rattle.model.specs.declared.Name.{Name}
use Rattle.model.specs.declared.File.{File}
use Rattle.model.specs.declared.Layout.{Layout}
use Rattle.model.specs.declared.Volume.{Volume}
use Rattle.model.specs.declared.Ground.TheVariants as Ground
use Rattle.model.specs.declared.Lookup.{Lookup}
use Rattle.model.specs.declared.Access.{Access}
use Rattle.operations.specs.Program.{Program, ending}
use Rattle.operations.specs.Plan.{no_text, slots_for, clusters_of, old_fat, added}
use Rattle.operations.specs.Plan.{new_clusters, create_stores, append_stores, truncate_stores, delete_stores}
use Rattle.operations.specs.Plan.{rename_stores, fresh_clusters, replace_stores, recover_stores}

-- The name in a span of 11 bytes, and the slot that it means.
abbrev pub name_of : Span → Name
name_of s = name_in s.byte

unfoldable pub slot_of : Volume → Card → Span → ℕ
slot_of v c n = find v.layout c (name_of n)

-- "9. ABSENT: no slot has the name." "10. DIRECTORY: that slot is a directory." "16 LOCKED, that slot has attribute bit 0x01 (append,
-- truncate, delete, rename by its old name, replace), asked right after DIRECTORY."
unfoldable pub admit : Access → Lookup → Answer File
admit a Lookup.Absent = refused Ground.Absent
admit a Lookup.Directory = refused Ground.Directory
admit Access.Read (Lookup.File f locked) = granted f
admit Access.Write (Lookup.File f locked) = do
  Ground.Locked when locked
  granted f

-- The file that a name means.
unfoldable pub file_named : Access → Volume → Card → Span → Answer File
file_named a v c n = admit a (lookup v.layout c (name_of n))

-- "13. CHAIN: the file breaks the chain rule"
unfoldable pub whole : Volume → Card → File → Answer File
whole v c f = do
  Ground.Chain when not (keeps_chain v.layout (entry (old_fat v c)) f.first f.size)
  granted f

-- The file that a name means, with NAME asked before and CHAIN after.
unfoldable pub file_of : Access → Volume → Card → Span → Answer File
file_of a v c n = do
  Ground.Name when not (name_ok n)
  file_named a v c n >>= whole v c

-- "11. EXISTS: the new name is taken." It "also covers a live slot without bit 0x08 whose long name, as read back, has the same characters;
-- short names are not compared with them".
unfoldable pub taken : Volume → Card → Span → Bool
taken v c n = ltb (slot_of v c n) v.layout.entries

unfoldable pub text_taken : Volume → Card → Span → Bool
text_taken v c t = ltb 0 t.size && ltb (find_text v.layout c t) v.layout.entries

-- "ROOTFULL now means that no run is long enough": of m slots.
unfoldable pub root_full : Volume → Card → ℕ → Bool
root_full v c m = not (ltb (free_run v.layout c m) (v.layout.entries + 1 - m))

-- The slot for a new name with a text: "The slots, the short one last, are the lowest long enough run of free ones."
abbrev pub run_end : Layout → Card → Span → ℕ
run_end l c t = free_run l c (slots_for t + 1) + slots_for t

unfoldable pub new_slot : Volume → Card → Span → Span → Answer ℕ
new_slot v c n t = do
  Ground.Exists when (taken v c n || text_taken v c t)
  Ground.Rootfull when root_full v c (slots_for t + 1)
  granted (run_end v.layout c t)

-- ---- each call on a clean card: what is asked after grounds 1 to 7

unfoldable pub create_as : Volume → Card → Span → Span → ℕ → Answer Program
create_as v c n t st = do
  s ← new_slot v c n t
  granted (create_stores v c s (name_of n) t st)

unfoldable pub create_on : Volume → Card → Span → ℕ → Answer Program
create_on v c n st = do
  Ground.Name when not (name_ok n)
  create_as v c n no_text st

-- "Create gains a form with a short name and 1 to 208 characters of 16 bits." "17 LONGNAME, .., asked right after NAME".
unfoldable pub create_long_on : Volume → Card → Span → Span → ℕ → Answer Program
create_long_on v c n t st = do
  Ground.Name when not (name_ok n)
  Ground.Longname when not (text_ok t)
  create_as v c n t st

-- "Appending 0 bytes or truncating to the present size makes no store", and so sets no date.
unfoldable pub unless_none : ℕ → Program → Program
unless_none n p = pick (eqb n 0) (ending []) p

-- "15. NOSPACE: append needs more clusters than FAT1 has free." To a file that was found, and to the one that a name means.
unfoldable pub append_to : Volume → Card → File → Span → ℕ → Answer Program
append_to v c f d st = do
  Ground.Nospace when ltb (length (free_clusters v.layout (old_fat v c))) (added v.layout f d.size)
  granted (unless_none d.size (append_stores v c f d st))

unfoldable pub append_on : Volume → Card → Span → Span → ℕ → Answer Program
append_on v c n d st = file_of Access.Write v c n >>= λ f. append_to v c f d st

-- "One call should replace a file's bytes." "Answers: append's grounds", NOSPACE for all clusters of the new bytes. "A replace always
-- writes a group."
unfoldable pub replace_file : Volume → Card → File → Span → ℕ → Answer Program
replace_file v c f d st = do
  Ground.Nospace when ltb (length (free_clusters v.layout (old_fat v c))) (needed v.layout d.size)
  granted (replace_stores v c f d st)

unfoldable pub replace_on : Volume → Card → Span → Span → ℕ → Answer Program
replace_on v c n d st = file_of Access.Write v c n >>= λ f. replace_file v c f d st

-- "14. LENGTH: truncate asks more than the present size."
unfoldable pub truncate_as : Volume → Card → File → ℕ → ℕ → Answer Program
truncate_as v c f size st = do
  Ground.Length when ltb f.size size
  granted (unless_none (f.size - size) (truncate_stores v c f size st))

unfoldable pub truncate_on : Volume → Card → Span → ℕ → ℕ → Answer Program
truncate_on v c n size st = file_of Access.Write v c n >>= λ f. truncate_as v c f size st

unfoldable pub delete_on : Volume → Card → Span → Answer Program
delete_on v c n = file_of Access.Write v c n >>= λ f. granted (delete_stores v c f)

-- "a rename to itself too" is EXISTS. No CHAIN is asked.
unfoldable pub rename_as : Volume → Card → File → Span → Answer Program
rename_as v c f m = do
  s ← new_slot v c m no_text
  granted (rename_stores v c f s (name_of m))

unfoldable pub rename_on : Volume → Card → Span → Span → Answer Program
rename_on v c n m = do
  Ground.Name when not (name_ok n && name_ok m)
  f ← file_named Access.Write v c n
  rename_as v c f m

-- ---- the calls

-- "Create, append, truncate and replace now take the seconds since 1980 began."
unfoldable pub create : Window → Span → ℕ → Answer Program
create w n seconds = do
  v ← clean_at w seconds
  create_on v w.card n (stamp_of seconds)

unfoldable pub create_long : Window → Span → Span → ℕ → Answer Program
create_long w n t seconds = do
  v ← clean_at w seconds
  create_long_on v w.card n t (stamp_of seconds)

unfoldable pub append : Window → Span → Span → ℕ → Answer Program
append w n d seconds = do
  v ← clean_at w seconds
  append_on v w.card n d (stamp_of seconds)

unfoldable pub replace : Window → Span → Span → ℕ → Answer Program
replace w n d seconds = do
  v ← clean_at w seconds
  replace_on v w.card n d (stamp_of seconds)

unfoldable pub truncate : Window → Span → ℕ → ℕ → Answer Program
truncate w n size seconds = do
  v ← clean_at w seconds
  truncate_on v w.card n size (stamp_of seconds)

unfoldable pub delete : Window → Span → Answer Program
delete w n = do
  v ← clean w
  delete_on v w.card n

unfoldable pub rename : Window → Span → Span → Answer Program
rename w n m = do
  v ← clean w
  rename_on v w.card n m

-- "Recovery asks 1 to 6"
unfoldable pub recover : Window → Answer Program
recover w = do
  v ← examine w
  granted (recover_stores v.layout w.card v.pending)

-- The writing calls and recovery, with what each is given besides the window and the limit.
pub data Call : Type 0 where
  creates : (name : Span) (seconds : ℕ) → Call
  creates_long : (name text : Span) (seconds : ℕ) → Call
  appends : (name bytes : Span) (seconds : ℕ) → Call
  truncates : (name : Span) (size seconds : ℕ) → Call
  deletes : (name : Span) → Call
  renames : (name new_name : Span) → Call
  replaces : (name bytes : Span) (seconds : ℕ) → Call
  recovers : Call

-- What a call would store on a window, or its refusal.
unfoldable pub plan : Call → Window → Answer Program
plan (creates n seconds) w = create w n seconds
plan (creates_long n t seconds) w = create_long w n t seconds
plan (appends n d seconds) w = append w n d seconds
plan (truncates n size seconds) w = truncate w n size seconds
plan (deletes n) w = delete w n
plan (renames n m) w = rename w n m
plan (replaces n d seconds) w = replace w n d seconds
plan recovers w = recover w

-- The clusters that a call takes, and those that it releases, if it is not refused: "Free clusters after a finished call are those
-- before, less those taken, plus those released."
unfoldable pub named_file : Volume → Card → Span → File
named_file v c n = file_at v.layout c (slot_of v c n)

unfoldable pub taken_by : Volume → Card → Call → List ℕ
taken_by v c (creates n seconds) = []
taken_by v c (creates_long n t seconds) = []
taken_by v c (appends n d seconds) = new_clusters v c (named_file v c n) d.size
taken_by v c (truncates n size seconds) = []
taken_by v c (deletes n) = []
taken_by v c (renames n m) = []
taken_by v c (replaces n d seconds) = fresh_clusters v c d.size
taken_by v c recovers = []

unfoldable pub released_by : Volume → Card → Call → List ℕ
released_by v c (creates n seconds) = []
released_by v c (creates_long n t seconds) = []
released_by v c (appends n d seconds) = []
released_by v c (truncates n size seconds) = drop (needed v.layout size) (clusters_of v.layout (old_fat v c) (named_file v c n))
released_by v c (deletes n) = clusters_of v.layout (old_fat v c) (named_file v c n)
released_by v c (renames n m) = []
released_by v c (replaces n d seconds) = clusters_of v.layout (old_fat v c) (named_file v c n)
released_by v c recovers = []

-- The slots of a name: those of the long entries that belong to its slot, then its own.
unfoldable pub old_slots : Volume → Card → Span → List ℕ
old_slots v c n = name_slots (slot_of v c n) (long_count (slot_at v.layout c) (slot_of v c n))

-- Those of a new name with a text.
unfoldable pub new_slots : Layout → Card → Span → List ℕ
new_slots l c t = name_slots (run_end l c t) (slots_for t)

-- The slots that a call changes, if it is not refused.
unfoldable pub changed_by : Volume → Card → Call → List ℕ
changed_by v c (creates n seconds) = new_slots v.layout c no_text
changed_by v c (creates_long n t seconds) = new_slots v.layout c t
changed_by v c (appends n d seconds) = slot_of v c n ∷ []
changed_by v c (truncates n size seconds) = slot_of v c n ∷ []
changed_by v c (deletes n) = old_slots v c n
changed_by v c (renames n m) = old_slots v c n ++ new_slots v.layout c no_text
changed_by v c (replaces n d seconds) = slot_of v c n ∷ []
changed_by v c recovers = []
