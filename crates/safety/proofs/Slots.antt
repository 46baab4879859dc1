-- Slots that operations edit: their names, sizes and first clusters, and which slot a name means.
use Prim.Native.Nat.{ℕ, ◌^◌, ◌≤◌, ◌<◌}
use native.Mathlib.Omega.{arith}
use mathlib.Core.Path.{◌≡◌, refl, sym, ap, ◌∙◌}
use mathlib.Core.Logic.{◌⊎◌, inl, inr, ⊎_elim}
use mathlib.Core.List.{List, [], ◌∷◌, ◌++◌}
use mathlib.Core.Bool.{Bool, true, false, not, and-false}
use lib.Dec.{eqb}
use borrow.Author.Tests.{eq-eqb, eqb-true}
use Rattle.model.specs.Bytes.{Bytes, Span, pick, le, byte_of, overlay, patch}
use Rattle.model.specs.Sector.{Card}
use Rattle.model.specs.Root.{Directory}
use Rattle.model.specs.Root.{slot_at, name_in, file_size, first_cluster, is_file, is_directory, is_locked, is_label, listed, vacant, bears, same_name}
use Rattle.model.specs.Root.{find, lowest_slot}
use Rattle.model.specs.Record.{Change}
use Rattle.model.specs.declared.Name.{Name}
use Rattle.model.specs.declared.Volume.{Volume}
use Rattle.operations.specs.Calls.{slot_of, name_of}
use Rattle.model.specs.Long.{name_slots, long_count}
use Rattle.model.specs.Calendar.{stamp_time, stamp_date}
use Rattle.operations.specs.Finish.{set_name, set_stamp, set_size, set_first, mark_deleted, new_entry, Edit, edit, set_slots, marks, edits, effect}
use Rattle.model.proofs.Tests.{and_both, and_left, and_right, clash}
use Rattle.model.proofs.Long.{OfName, of_name?, of_name, not_of_name}
use Rattle.model.specs.LongName.{long_entry}
use Rattle.model.proofs.LongEntries.{entry_attributes}
use Rattle.model.proofs.Belong.{long_is_label}
use Rattle.model.proofs.Scan.{first_same, first_is0, first_before0, first_has0, first_above0}
use Rattle.model.proofs.Overlays.{overlay_below}
use Rattle.model.proofs.Numbers.{read_back, le_over_below, le_over_above}
use Rattle.model.proofs.Records.{NameFits}
use Rattle.model.specs.Record.{starts}
use Rattle.model.proofs.Names.{vacant_starts}
use Rattle.model.proofs.Volumes.{layout_of}
use Rattle.operations.proofs.Edits.{one_in, one_out, marked_in, marked_out}
use Rattle.safety.proofs.Ended.{SameHead}

-- ---- a slot with a stamp

-- Fields after the write date, and bytes before the access date, are not touched.
stamp_above : (n at stamp : ℕ) (b : Bytes) → 26 ≤ at → le n (set_stamp stamp b) at ≡ le n b at
stamp_above n at stamp b high =
    le_over_above n 2 22 at (byte_of (stamp_time stamp)) _ (omega arith) ∙ le_over_above n 2 24 at (byte_of (stamp_date stamp)) _ (omega arith)
    ∙ le_over_above n 2 18 at (byte_of (stamp_date stamp)) b (omega arith)

pub stamp_below : (stamp : ℕ) (b : Bytes) (j : ℕ) → j < 18 → set_stamp stamp b j ≡ b j
stamp_below stamp b j low =
    overlay_below (byte_of (stamp_time stamp)) 22 _ 2 j (omega arith) ∙ overlay_below (byte_of (stamp_date stamp)) 24 _ 2 j (omega arith)
    ∙ overlay_below (byte_of (stamp_date stamp)) 18 b 2 j low

-- ---- a slot with a stamp, a new size, and a first cluster if a test holds

module _ (t : Bool) (k size stamp : ℕ) (b : Bytes) where
  abbrev sized : Bytes
  sized = set_size size (pick t (set_first k b) b)

  abbrev pub resized : Bytes
  resized = set_stamp stamp sized

  pub resized_size : size < 256 ^ 4 → file_size resized ≡ size
  resized_size less = stamp_above 4 28 stamp sized (omega arith) ∙ read_back 4 size 28 (pick t (set_first k b) b) less

  pub resized_first : k < 256 ^ 2 → first_cluster resized ≡ pick t k (first_cluster b)
  resized_first less =
      stamp_above 2 26 stamp sized (omega arith) ∙ le_over_below 2 4 28 26 (byte_of size) (pick t (set_first k b) b) (omega arith) ∙ go t
    where
      go : (t : Bool) → first_cluster (pick t (set_first k b) b) ≡ pick t k (first_cluster b)
      go true = read_back 2 k 26 b less
      go false = refl

  -- Every byte before the access date stays.
  pub resized_below : (j : ℕ) → j < 18 → resized j ≡ b j
  resized_below j small = stamp_below stamp sized j small ∙ overlay_below (byte_of size) 28 (pick t (set_first k b) b) 4 j (omega arith) ∙ go t
    where
      go : (t : Bool) → pick t (set_first k b) b j ≡ b j
      go true = overlay_below (byte_of k) 26 b 2 j (omega arith)
      go false = refl

  pub resized_head : SameHead resized b
  resized_head j small = resized_below j (omega arith)

-- An operation that edits slot s alone, to b, and leaves its name and attributes.
pub record Resizes (c : Card) (o : Change) (s : ℕ) (b : Bytes) : Type 0 where
  pub slot : effect o (slot_at (layout_of c) c) s ≡ b
  pub head : SameHead b (slot_at (layout_of c) c s)
  pub others : (k : ℕ) → (k ≡ s → ⊥) → effect o (slot_at (layout_of c) c) k ≡ slot_at (layout_of c) c k

pub resizes : (c : Card) (o : Change) (s : ℕ) (t : Bool) (k size stamp : ℕ) → edits o ≡ edit s (λ b. resized t k size stamp b) ∷ []
    → Resizes c o s (resized t k size stamp (slot_at (layout_of c) c s))
resizes c o s t k size stamp e =
    let d : Directory = slot_at (layout_of c) c in
    record {
      slot = one_in o d s (λ b. resized t k size stamp b) e;
      head = resized_head t k size stamp (d s);
      others = one_out o d s (λ b. resized t k size stamp b) e;
    }

-- ---- a slot with a new name

pub name_back : (n : Name) (b : Bytes) → NameFits n → same_name (name_in (set_name n b)) n ≡ true
unfolding same_name
name_back n b fits =
    let stem : le 8 (set_name n b) 0 ≡ n.stem = read_back 8 n.stem 0 (patch 3 n.extension 8 b) fits.stem in
    let extension : le 3 (set_name n b) 8 ≡ n.extension =
    le_over_above 3 8 0 8 (byte_of n.stem) (patch 3 n.extension 8 b) (omega arith) ∙ read_back 3 n.extension 8 b fits.extension in
    and_both (eqb (le 8 (set_name n b) 0) n.stem) _ (eq-eqb _ _ stem) (eq-eqb _ _ extension)

module _ (n : Name) (b : Bytes) where
  pub named_size : file_size (set_name n b) ≡ file_size b
  named_size = le_over_above 4 8 0 28 (byte_of n.stem) (patch 3 n.extension 8 b) (omega arith)
      ∙ le_over_above 4 3 8 28 (byte_of n.extension) b (omega arith)

  pub named_first : first_cluster (set_name n b) ≡ first_cluster b
  named_first = le_over_above 2 8 0 26 (byte_of n.stem) (patch 3 n.extension 8 b) (omega arith)
      ∙ le_over_above 2 3 8 26 (byte_of n.extension) b (omega arith)

  pub named_directory : is_directory (set_name n b) ≡ is_directory b
  unfolding is_directory overlay
  named_directory = refl

  module _ (fits : NameFits n) (begins : starts (byte_of n.stem 0) ≡ true) (plain : is_label b ≡ false) where
    named_listed : listed (set_name n b) ≡ true
    unfolding listed is_label overlay
    named_listed = and_both (not (vacant (set_name n b))) _ (vacant_starts (set_name n b) ∙ begins) (ap not plain)

    pub named_bears : bears n (set_name n b) ≡ true
    unfolding bears
    named_bears = and_both (listed (set_name n b)) _ named_listed (name_back n b fits)

    pub named_file : is_directory b ≡ false → is_file (set_name n b) ≡ true
    unfolding is_file
    named_file other = and_both (listed (set_name n b)) _ named_listed (ap not (named_directory ∙ other))

-- ---- a new slot, and a deleted one

pub new_size : (n : Name) (stamp : ℕ) → file_size (new_entry n stamp) ≡ 0
unfolding new_entry overlay byte_of le
new_size n stamp = refl

pub new_first : (n : Name) (stamp : ℕ) → first_cluster (new_entry n stamp) ≡ 0
unfolding new_entry overlay byte_of le
new_first n stamp = refl

pub new_directory : (n : Name) (stamp : ℕ) → is_directory (new_entry n stamp) ≡ false
unfolding new_entry overlay byte_of is_directory
new_directory n stamp = refl

pub new_locked : (n : Name) (stamp : ℕ) → is_locked (new_entry n stamp) ≡ false
unfolding new_entry overlay byte_of is_locked
new_locked n stamp = refl

pub new_bears : (n : Name) (stamp : ℕ) → NameFits n → starts (byte_of n.stem 0) ≡ true → bears n (new_entry n stamp) ≡ true
unfolding new_entry overlay byte_of is_label
new_bears n stamp fits begins = named_bears n _ fits begins refl

pub deleted_bears : (n : Name) (b : Bytes) → bears n (mark_deleted b) ≡ false
unfolding bears listed vacant overlay byte_of
deleted_bears n b = refl

pub deleted_file : (b : Bytes) → is_file (mark_deleted b) ≡ false
unfolding is_file listed vacant overlay byte_of
deleted_file b = refl

-- ---- slots beside a file's own

-- A slot that is as it was, or is not listed, before and after: it bears no name and holds no file.
abbrev pub Unlisted : Bytes → Bytes → Type 0
Unlisted b r = (r ≡ b) ⊎ ((listed b ≡ false) × (listed r ≡ false))

pub unlisted_bears : (n : Name) (b r : Bytes) → Unlisted b r → bears n r ≡ bears n b
unfolding bears
unlisted_bears n b r (inl e) = ap (bears n) e
unlisted_bears n b r (inr h) = rw (h.0, h.1)

pub unlisted_file : (b r : Bytes) → Unlisted b r → is_file b ≡ true → r ≡ b
unfolding is_file
unlisted_file b r (inl e) h = e
unlisted_file b r (inr q) h = clash h (rw q.0)

pub unlisted_back : (b r : Bytes) → Unlisted b r → is_file r ≡ true → r ≡ b
unfolding is_file
unlisted_back b r (inl e) h = e
unlisted_back b r (inr q) h = clash h (rw q.1)

-- A label or long entry, a deleted slot and a vacant one are not listed.
label_unlisted : (b : Bytes) → is_label b ≡ true → listed b ≡ false
unfolding listed
label_unlisted b h = rw (h, and-false)

deleted_unlisted : (b : Bytes) → listed (mark_deleted b) ≡ false
unfolding listed vacant overlay byte_of
deleted_unlisted b = refl

pub vacant_unlisted : (b : Bytes) → vacant b ≡ true → listed b ≡ false
unfolding listed
vacant_unlisted b h = rw h

pub entry_unlisted : (sum order : ℕ) (f : ℕ → ℕ) → listed (long_entry sum order f) ≡ false
unfolding is_label
entry_unlisted sum order f = label_unlisted (long_entry sum order f) (rw (entry_attributes sum order f))

-- A change that marks the slots of the name in slot s, and then makes other edits.
module _ (d : Directory) (o : Change) (s : ℕ) (rest : List Edit) (e : edits o ≡ marks (name_slots s (long_count d s)) ++ rest) where
  pub old_marked : (k : ℕ) → OfName s (long_count d s) k → effect o d k ≡ mark_deleted (d k)
  old_marked k w = marked_in o d (name_slots s (long_count d s)) rest e k (of_name s (long_count d s) k w)

  pub old_kept : (k : ℕ) → (OfName s (long_count d s) k → ⊥) → effect o d k ≡ set_slots rest d k
  old_kept k off = marked_out o d (name_slots s (long_count d s)) rest e k (not_of_name s (long_count d s) k off)

  pub old_unlisted : (k : ℕ) → (k ≡ s → ⊥) → set_slots rest d k ≡ d k → Unlisted (d k) (effect o d k)
  old_unlisted k ne stays = ⊎_elim
      (λ w. inr (label_unlisted (d k) (long_is_label d s k w ne), ap listed (old_marked k w) ∙ deleted_unlisted (d k)))
      (λ off. inl (old_kept k off ∙ stays)) (of_name? s (long_count d s) k)

-- ---- names

same_names : (x y : Name) → same_name x y ≡ true → x ≡ y
unfolding same_name
same_names x y h =
    let stem : x.stem ≡ y.stem = eqb-true x.stem y.stem (and_left (eqb x.stem y.stem) (eqb x.extension y.extension) h) in
    let extension : x.extension ≡ y.extension = eqb-true x.extension y.extension
    (and_right (eqb x.stem y.stem) (eqb x.extension y.extension) h) in
    λ i. record { stem = stem i; extension = extension i }

-- A slot bears one name, and a vacant one none.
pub bears_name : (n : Name) (b : Bytes) → bears n b ≡ true → name_in b ≡ n
unfolding bears
bears_name n b h = same_names (name_in b) n (and_right (listed b) (same_name (name_in b) n) h)

pub vacant_bears : (n : Name) (b : Bytes) → vacant b ≡ true → bears n b ≡ false
unfolding bears listed
vacant_bears n b h = rw h

-- A slot that was given the name m and bears n has it from m.
pub named_only : (n m : Name) (b : Bytes) → NameFits m → bears n (set_name m b) ≡ true → m ≡ n
named_only n m b fits h = sym (same_names (name_in (set_name m b)) m (name_back m b fits)) ∙ bears_name n (set_name m b) h

pub new_named : (n m : Name) (stamp : ℕ) → NameFits m → bears n (new_entry m stamp) ≡ true → m ≡ n
unfolding new_entry
new_named n m stamp fits h = named_only n m _ fits h

-- ---- the slot that a name means

module _ (v : Volume) (x : Card) (n : Span) where
  abbrev borne : ℕ → Bool
  borne k = bears (name_of n) (slot_at v.layout x k)

  pub means : (s : ℕ) → s < v.layout.entries → borne s ≡ true → ((j : ℕ) → j < s → borne j ≡ false) → slot_of v x n ≡ s
  unfolding slot_of find lowest_slot
  means s less h none = first_is0 borne v.layout.entries s less none h

  pub means_none : ((j : ℕ) → j < v.layout.entries → borne j ≡ false) → v.layout.entries ≤ slot_of v x n
  unfolding slot_of find lowest_slot
  means_none none = first_above0 borne v.layout.entries v.layout.entries (omega arith) none

  pub lower_not : (j : ℕ) → j < slot_of v x n → borne j ≡ false
  unfolding slot_of find lowest_slot
  lower_not j less = first_before0 borne v.layout.entries j less

  pub means_same : (y : Card) → ((k : ℕ) → k < v.layout.entries → bears (name_of n) (slot_at v.layout y k) ≡ borne k) → slot_of v y n ≡ slot_of v x n
  unfolding slot_of find lowest_slot
  means_same y h = first_same (λ k. bears (name_of n) (slot_at v.layout y k)) borne 0 v.layout.entries (λ k lo hi. h k (omega arith))

  pub bearer : slot_of v x n < v.layout.entries → borne (slot_of v x n) ≡ true
  unfolding slot_of find lowest_slot
  bearer less = first_has0 borne v.layout.entries less
