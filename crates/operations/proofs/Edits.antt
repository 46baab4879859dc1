-- Edits of the root directory may be begun, cut and begun again: made of a mixture of the old directory and the new one they make the
-- new one. So the code may store root sectors one by one, and read slots that it has stored already.
use Prim.Native.Nat.{ℕ, zero, suc, ◌+◌, ◌-◌, ◌*◌, ◌/◌, ◌%◌, ◌^◌, ◌≤◌, ◌<◌}
use native.Mathlib.Omega.{arith}
use native.Mathlib.Nat.{mod-lt}
use mathlib.Core.Path.{◌≡◌, refl, sym, ap, ◌∙◌, subst}
use mathlib.Core.Logic.{◌⊎◌, inl, inr, ⊎_elim}
use mathlib.Core.List.{List, [], ◌∷◌, ◌++◌, map, append-nil}
use mathlib.Core.Bool.{Bool, true, false, ◌&&◌}
use lib.Dec.{leb, ltb, eqb}
use borrow.Author.Tests.{eq-eqb, ne_eqb, eqb-false}
use Rattle.model.specs.Bytes.{Bytes, overlay, pick, byte_of, patch, zeros}
use Rattle.model.specs.Scan.{any, among}
use Rattle.model.specs.Sector.{Card, clip}
use Rattle.model.specs.Root.{Directory, root_place, slot_at}
use Rattle.model.specs.Long.{name_slots, checksum}
use Rattle.model.specs.LongName.{place, fill, long_entry, name_entry}
use Rattle.model.specs.Calendar.{stamp_time, stamp_date}
use Rattle.model.specs.Record.{text_length}
use Rattle.model.specs.declared.Entry.{Entry}
use Rattle.model.specs.declared.Layout.{Layout}
use Rattle.model.specs.declared.Name.{Name}
use Rattle.model.specs.Record.{Change}
use Rattle.model.specs.declared.Operation.{Operation}
use Rattle.model.specs.declared.Operation.TheVariants.{Create, Update, Delete, Truncate, Rename, Replace}
use Rattle.operations.specs.Finish.{set_stamp, set_size, set_first, mark_deleted, set_name, new_entry}
use Rattle.operations.specs.Finish.{name_slot, Edit, edit, edit_from, set_slots, each, marks}
use Rattle.operations.specs.Finish.{operation_edits, edits}
use Rattle.operations.specs.Finish.{effect, Slots, root_sector, concerns}
use Rattle.model.proofs.Tests.{told, less?, same?, or_false, clash}
use Rattle.model.proofs.All.{All, all_append, all_image, all_map}
use Rattle.model.proofs.Long.{of_name, each_among}
use Rattle.model.proofs.Cards.{clip_at}
use Rattle.model.proofs.Overlays.{overlay_in, overlay_above}

-- ---- changes of bytes, one by one

-- A change of bytes gives byte j a value of its own, which is a byte, or leaves it.
abbrev pub Laid : (Bytes → Bytes) → ℕ → Type 0
Laid h j = ((v : ℕ) × (v < 256) × ((b : Bytes) → h b j ≡ v)) ⊎ ((b : Bytes) → h b j ≡ b j)

-- So it makes bytes of bytes.
pub laid_small : (h : Bytes → Bytes) (j : ℕ) → Laid h j → (b : Bytes) → b j < 256 → h b j < 256
laid_small h j (inl k) b small = subst (λ (v : ℕ). v < 256) (sym (k.2 b)) k.1
laid_small h j (inr k) b small = subst (λ (v : ℕ). v < 256) (sym (k b)) small

laid_patch : (n v at j : ℕ) → Laid (λ b. patch n v at b) j
unfolding overlay byte_of
laid_patch n v at j = go (told (leb at j && ltb j (at + n)))
  where
    p : Bytes
    p = byte_of v

    go : ((leb at j && ltb j (at + n)) ≡ true) ⊎ ((leb at j && ltb j (at + n)) ≡ false) → Laid (λ b i. pick (leb at i && ltb i (at + n)) (p (i - at)) (b i)) j
    go (inl e) = inl (p (j - at), mod-lt (v / 256 ^ (j - at)) (omega arith), λ b. rw e)
    go (inr e) = inr (λ b. rw e)

laid_zeros : (j : ℕ) → Laid (λ b. zeros) j
laid_zeros j = inl (0, omega arith, λ b. refl)

laid_then : (g h : Bytes → Bytes) (j : ℕ) → Laid g j → Laid h j → Laid (λ b. g (h b)) j
laid_then g h j (inl k) m = inl (k.0, k.1, λ b. k.2 (h b))
laid_then g h j (inr k) (inl m) = inl (m.0, m.1, λ b. k (h b) ∙ m.2 b)
laid_then g h j (inr k) (inr m) = inr (λ b. k (h b) ∙ m b)

laid_if : (t : Bool) (h : Bytes → Bytes) (j : ℕ) → Laid h j → Laid (λ b. pick t (h b) b) j
laid_if true h j k = k
laid_if false h j k = inr (λ b. refl)

-- The change f makes the same of byte j whether g was made before it or not.
abbrev Over : (Bytes → Bytes) → (Bytes → Bytes) → ℕ → Type 0
Over f g j = (b x : Bytes) → x j ≡ g b j → f x j ≡ f b j

-- So does a change after itself, and any after none.
laid_again : (f : Bytes → Bytes) (j : ℕ) → Laid f j → Over f f j
laid_again f j (inl k) b x e = k.2 x ∙ sym (k.2 b)
laid_again f j (inr k) b x e = k x ∙ e

pub laid_local : (f : Bytes → Bytes) (j : ℕ) → Laid f j → Over f (λ b. b) j
laid_local f j (inl k) b x e = k.2 x ∙ sym (k.2 b)
laid_local f j (inr k) b x e = k x ∙ e ∙ sym (k b)

-- A stamp: write time and date, and access date.
pub laid_stamp : (st j : ℕ) → Laid (λ b. set_stamp st b) j
laid_stamp st j =
    laid_then (λ b. patch 2 (stamp_time st) 22 b) _ j (laid_patch 2 (stamp_time st) 22 j)
    (laid_then (λ b. patch 2 (stamp_date st) 24 b) (λ b. patch 2 (stamp_date st) 18 b) j (laid_patch 2 (stamp_date st) 24 j)
    (laid_patch 2 (stamp_date st) 18 j))

-- The entry that is updated or cut: the stamp, the size, and the first cluster if a test holds.
pub laid_resized : (t : Bool) (k size st j : ℕ) → Laid (λ b. set_stamp st (set_size size (pick t (set_first k b) b))) j
laid_resized t k size st j =
    laid_then (λ b. set_stamp st b) (λ b. set_size size (pick t (set_first k b) b)) j (laid_stamp st j)
    (laid_then (λ b. set_size size b) (λ b. pick t (set_first k b) b) j (laid_patch 4 size 28 j)
    (laid_if t (λ b. set_first k b) j (laid_patch 2 k 26 j)))

pub laid_name : (n : Name) (j : ℕ) → Laid (λ b. set_name n b) j
laid_name n j = laid_then (λ b. patch 8 n.stem 0 b) (λ b. patch 3 n.extension 8 b) j (laid_patch 8 n.stem 0 j) (laid_patch 3 n.extension 8 j)

pub laid_mark : (j : ℕ) → Laid (λ b. mark_deleted b) j
laid_mark j = laid_patch 1 0xE5 0 j

-- A new entry, whatever stood there.
pub laid_new : (n : Name) (st j : ℕ) → Laid (λ b. new_entry n st) j
unfolding new_entry
laid_new n st j =
    laid_then (λ b. set_name n b) _ j (laid_name n j)
    (laid_then (λ b. patch 1 0x20 11 b) _ j (laid_patch 1 0x20 11 j)
    (laid_then (λ b. patch 2 (stamp_time st) 14 b) _ j (laid_patch 2 (stamp_time st) 14 j)
    (laid_then (λ b. patch 2 (stamp_date st) 16 b) _ j (laid_patch 2 (stamp_date st) 16 j)
    (laid_then (λ b. set_stamp st b) (λ b. zeros) j (laid_stamp st j) (laid_zeros j)))))

-- A slot of a new name, whatever stood there.
laid_fill : (f : ℕ → ℕ) (h : Bytes → Bytes) (n j : ℕ) → Laid h j → Laid (λ b. fill f (h b) n) j
unfolding fill
laid_fill f h zero j k = k
laid_fill f h (suc n) j k = laid_then (λ b. patch 2 (f n) (place n) b) (λ b. fill f (h b) n) j (laid_patch 2 (f n) (place n) j) (laid_fill f h n j k)

laid_entry : (sum order : ℕ) (f : ℕ → ℕ) (j : ℕ) → Laid (λ b. long_entry sum order f) j
unfolding long_entry
laid_entry sum order f j =
    laid_fill f (λ b. patch 1 order 0 (patch 1 0x0F 11 (patch 1 sum 13 zeros))) 13 j
    (laid_then (λ b. patch 1 order 0 b) _ j (laid_patch 1 order 0 j)
    (laid_then (λ b. patch 1 0x0F 11 b) _ j (laid_patch 1 0x0F 11 j)
    (laid_then (λ b. patch 1 sum 13 b) (λ b. zeros) j (laid_patch 1 sum 13 j) (laid_zeros j))))

laid_either : (t : Bool) (g h : Bytes → Bytes) (j : ℕ) → Laid g j → Laid h j → Laid (λ b. pick t (g b) (h b)) j
laid_either true g h j k m = k
laid_either false g h j k m = m

pub laid_name_slot : (e : Entry) (st : ℕ) (t : Bytes) (k j : ℕ) → Laid (λ b. name_slot e st t k) j
unfolding name_slot name_entry
laid_name_slot e st t k j =
    laid_either (eqb k e.slot) (λ b. new_entry e.name st) (λ b. name_entry (checksum (new_entry e.name st)) t (text_length t) (e.slot - k)) j
    (laid_new e.name st j) (laid_entry _ _ _ j)

-- A name covers the mark of a deleted slot.
name_over : (n : Name) (j : ℕ) → Over (λ b. set_name n b) (λ b. mark_deleted b) j
name_over n j b x e = go (less? j 1)
  where
    go : (j < 1) ⊎ (1 ≤ j) → set_name n x j ≡ set_name n b j
    go (inl h) =
        overlay_in (byte_of n.stem) 0 (patch 3 n.extension 8 x) 8 j (omega arith) (omega arith)
        ∙ sym (overlay_in (byte_of n.stem) 0 (patch 3 n.extension 8 b) 8 j (omega arith) (omega arith))
    go (inr h) = laid_local (λ b. set_name n b) j (laid_name n j) b x (e ∙ overlay_above (byte_of 0xE5) 0 b 1 j (omega arith))

-- ---- edits

pub set_in : (e : Edit) (es : List Edit) (d : Directory) (k : ℕ) → k ≡ e.slot → set_slots (e ∷ es) d k ≡ e.change (d e.source)
unfolding set_slots
set_in e es d k h = rw (eq-eqb k e.slot h)

pub set_out : (e : Edit) (es : List Edit) (d : Directory) (k : ℕ) → (k ≡ e.slot → ⊥) → set_slots (e ∷ es) d k ≡ set_slots es d k
unfolding set_slots
set_out e es d k h = rw (ne_eqb k e.slot h)

-- Slot k after edits, by the first edit of it: what the edit makes of bytes b that agree with those that it reads.
pub edit_made : (e : Edit) (es : List Edit) (d : Directory) (k j : ℕ) (b : Bytes) → k ≡ e.slot → Laid e.change j → b j ≡ d e.source j
    → e.change b j ≡ set_slots (e ∷ es) d k j
edit_made e es d k j b h own same = laid_local e.change j own (d e.source) b same ∙ sym (λ t. set_in e es d k h t j)

pub own_made : (s : ℕ) (f : Bytes → Bytes) (es : List Edit) (d : Directory) (k j : ℕ) (b : Bytes) → k ≡ s → Laid f j → b j ≡ d k j
    → f b j ≡ set_slots (edit s f ∷ es) d k j
own_made s f es d k j b h own same = edit_made (edit s f) es d k j b h own (same ∙ ap (λ (i : ℕ). d i j) h)

pub edits_out : (es : List Edit) (d : Directory) (k : ℕ) → All (λ e. k ≡ e.slot → ⊥) es → set_slots es d k ≡ d k
unfolding set_slots
edits_out [] d k a = refl
edits_out (e ∷ es) d k a = set_out e es d k a.0 ∙ edits_out es d k a.1

-- Byte j of slot k of x is as in d or as in e.
abbrev pub Near : Directory → Directory → Directory → ℕ → ℕ → Type 0
Near d e x k j = (x k j ≡ d k j) ⊎ (x k j ≡ e k j)

-- What edit e reads has been left alone by the list, or changed by an edit of that slot's own bytes after which e makes the same.
abbrev pub Bears : List Edit → Edit → ℕ → Type 0
Bears [] e j = Unit {0}
Bears (y ∷ ys) e j =
    (e.source ≡ y.slot → (y.source ≡ e.source) × Over e.change y.change j) × ((e.source ≡ y.slot → ⊥) → Bears ys e j)

-- Each edit of a list may be made again.
abbrev pub Again : List Edit → ℕ → Type 0
Again es j = All (λ e. Laid e.change j × Bears es e j) es

reads_same : (es : List Edit) (e : Edit) (d x : Directory) (j : ℕ) → Laid e.change j → Bears es e j → Near d (set_slots es d) x e.source j
    → e.change (x e.source) j ≡ e.change (d e.source) j
unfolding set_slots
reads_same [] e d x j own a (inl r) = laid_local e.change j own (d e.source) (x e.source) r
reads_same [] e d x j own a (inr r) = laid_local e.change j own (d e.source) (x e.source) r
reads_same (y ∷ ys) e d x j own a (inl r) = laid_local e.change j own (d e.source) (x e.source) r
reads_same (y ∷ ys) e d x j own a (inr r) = go (same? e.source y.slot) (λ h. reads_same ys e d x j own (a.1 h))
  where
    go : (e.source ≡ y.slot) ⊎ (e.source ≡ y.slot → ⊥)
        → ((e.source ≡ y.slot → ⊥) → Near d (set_slots ys d) x e.source j → e.change (x e.source) j ≡ e.change (d e.source) j)
        → e.change (x e.source) j ≡ e.change (d e.source) j
    go (inl h) rec =
        let k = a.0 h in
        k.1 (d e.source) (x e.source) (r ∙ (λ t. set_in y ys d e.source h t j) ∙ ap (λ (s : ℕ). y.change (d s) j) k.0)
    go (inr h) rec = rec h (inr (r ∙ (λ t. set_out y ys d e.source h t j)))

-- Edits that make the same of a mixture and of the old directory make the new one of it.
edits_mix : (es : List Edit) (d x : Directory) (k j : ℕ) → All (λ e. e.change (x e.source) j ≡ e.change (d e.source) j) es
    → Near d (set_slots es d) x k j → set_slots es x k j ≡ set_slots es d k j
unfolding set_slots
edits_mix [] d x k j a (inl r) = r
edits_mix [] d x k j a (inr r) = r
edits_mix (e ∷ es) d x k j a near = go (same? k e.slot) (edits_mix es d x k j a.1)
  where
    go : (k ≡ e.slot) ⊎ (k ≡ e.slot → ⊥) → (Near d (set_slots es d) x k j → set_slots es x k j ≡ set_slots es d k j)
        → set_slots (e ∷ es) x k j ≡ set_slots (e ∷ es) d k j
    go (inl h) rec = (λ t. set_in e es x k h t j) ∙ a.0 ∙ sym (λ t. set_in e es d k h t j)
    go (inr h) rec =
        (λ t. set_out e es x k h t j)
        ∙ rec (⊎_elim (λ q. inl q) (λ q. inr (q ∙ (λ t. set_out e es d k h t j))) near)
        ∙ sym (λ t. set_out e es d k h t j)

all_same : (n : ℕ) (whole es : List Edit) (d x : Directory) (j : ℕ) → ((k : ℕ) → k < n → Near d (set_slots whole d) x k j)
    → All (λ e. (e.slot < n) × (e.source < n)) es → All (λ e. Laid e.change j × Bears whole e j) es
    → All (λ e. e.change (x e.source) j ≡ e.change (d e.source) j) es
all_same n whole [] d x j near w a = tt
all_same n whole (e ∷ es) d x j near w a =
    (reads_same whole e d x j a.0.0 a.0.1 (near e.source w.0.1), all_same n whole es d x j near w.1 a.1)

-- ---- each slot of a list given a change of its own, and other edits after them

module _ (f : ℕ → Bytes → Bytes) (rest : List Edit) where
  -- A slot of the list, and one that is none.
  pub each_in : (ks : List ℕ) (d : Directory) (k : ℕ) → among ks k ≡ true → set_slots (each f ks ++ rest) d k ≡ f k (d k)
  unfolding any
  each_in [] d k h = clash h refl
  each_in (i ∷ ks) d k h = ⊎_elim
      (λ e. set_in (edit i (f i)) (each f ks ++ rest) d k e ∙ ap (λ (i : ℕ). f i (d i)) (sym e))
      (λ ne. set_out (edit i (f i)) (each f ks ++ rest) d k ne ∙ each_in ks d k (rw (ne_eqb k i ne) at h)) (same? k i)

  pub each_out : (ks : List ℕ) (d : Directory) (k : ℕ) → among ks k ≡ false → set_slots (each f ks ++ rest) d k ≡ set_slots rest d k
  unfolding any
  each_out [] d k h = refl
  each_out (i ∷ ks) d k h =
      let r = or_false (eqb k i) (among ks k) h in
      set_out (edit i (f i)) (each f ks ++ rest) d k (eqb-false k i r.0) ∙ each_out ks d k r.1

  -- The slots, and a test of them.
  pub each_slots : (ks : List ℕ) → map (λ e. e.slot) (each f ks ++ rest) ≡ ks ++ map (λ e. e.slot) rest
  each_slots [] = refl
  each_slots (k ∷ ks) = ap (λ js. k ∷ js) (each_slots ks)

  -- An edit made of a slot of the list, which makes the same of it whether that is changed or not.
  each_bear : (ks : List ℕ) (e : Edit) (j : ℕ) → among ks e.source ≡ true → ((i : ℕ) → e.source ≡ i → Over e.change (f i) j)
      → Bears (each f ks ++ rest) e j
  unfolding any
  each_bear [] e j h over = clash h refl
  each_bear (i ∷ ks) e j h over = ((λ q. (sym q, over i q)), λ ne. each_bear ks e j (rw (ne_eqb e.source i ne) at h) over)

  each_again : (ks : List ℕ) (j : ℕ) → ((k : ℕ) → Laid (f k) j) → All (λ e. Laid e.change j × Bears (each f ks ++ rest) e j) rest
      → Again (each f ks ++ rest) j
  each_again ks j own a =
      all_append (λ e. Laid e.change j × Bears (each f ks ++ rest) e j) (each f ks) rest
      (all_image (λ e. Laid e.change j × Bears (each f ks ++ rest) e j) (λ k. edit k (f k)) ks
      (all_map (λ k. among ks k ≡ true) (λ k. Laid (f k) j × Bears (each f ks ++ rest) (edit k (f k)) j)
      (λ k h. (own k, each_bear ks (edit k (f k)) j h (λ i e. subst (λ (i : ℕ). Over (f k) (f i) j) e (laid_again (f k) j (own k))))) ks (each_among ks))) a

-- Where nothing follows them.
module _ (f : ℕ → Bytes → Bytes) (ks : List ℕ) where
  each_alone : (j : ℕ) → ((k : ℕ) → Laid (f k) j) → Again (each f ks) j
  each_alone j own = subst (λ es. Again es j) (append-nil (each f ks)) (each_again f [] ks j own tt)

  pub only_in : (d : Directory) (k : ℕ) → among ks k ≡ true → set_slots (each f ks) d k ≡ f k (d k)
  only_in d k h = ap (λ es. set_slots es d k) (sym (append-nil (each f ks))) ∙ each_in f [] ks d k h

  pub only_out : (d : Directory) (k : ℕ) → among ks k ≡ false → set_slots (each f ks) d k ≡ d k
  unfolding set_slots
  only_out d k h = ap (λ es. set_slots es d k) (sym (append-nil (each f ks))) ∙ each_out f [] ks d k h

-- ---- operations

-- What each operation supplies: an edit of a slot's own bytes may be made again, and a rename's new name covers the old slot's mark.
own_again : (s : ℕ) (f : Bytes → Bytes) (j : ℕ) → Laid f j → Again (edit s f ∷ []) j
own_again s f j k = ((k, ((λ _. (refl, laid_again f j k)), λ _. tt)), tt)

operation_again : (o : Operation) (t : Bytes) (j : ℕ) → Again (operation_edits o t) j
unfolding operation_edits
operation_again (Create e count st) t j = each_alone (λ k b. name_slot e st t k) (name_slots e.slot count) j (λ k. laid_name_slot e st t k j)
operation_again (Update e last from size st) t j =
    own_again e.slot (λ b. set_stamp st (set_size size (pick (eqb last 0) (set_first from b) b))) j (laid_resized (eqb last 0) from size st j)
operation_again (Delete e count first size) t j = each_alone (λ k b. mark_deleted b) (name_slots e.slot count) j (λ k. laid_mark j)
operation_again (Truncate e first from size st) t j =
    own_again e.slot (λ b. set_stamp st (set_size size (pick (eqb size 0) (set_first 0 b) b))) j (laid_resized (eqb size 0) 0 size st j)
operation_again (Rename e count first size to renamed) t j =
    let ks : List ℕ = name_slots e.slot count in
    let named : Edit = edit_from e.slot to (λ b. set_name renamed b) in
    each_again (λ k b. mark_deleted b) (named ∷ []) ks j (λ k. laid_mark j) (
      (
        laid_name renamed j,
        each_bear (λ k b. mark_deleted b) (named ∷ []) ks named j (of_name e.slot count e.slot (omega arith, omega arith))
            (λ i q. name_over renamed j),
      ),
      tt,
    )
operation_again (Replace e first from size st) t j =
    own_again e.slot (λ b. set_stamp st (set_size size (set_first from b))) j (laid_resized true from size st j)

pub again : (o : Change) (j : ℕ) → Again (edits o) j
unfolding edits
again o j = operation_again o.operation o.text j

-- From a mixture the effect makes the new directory.
pub effect_mix : (n : ℕ) (o : Change) (d x : Directory) → Slots n o → (j : ℕ) → ((k : ℕ) → k < n → Near d (effect o d) x k j)
    → (k : ℕ) → k < n → effect o x k j ≡ effect o d k j
unfolding effect
effect_mix n o d x w j near k less = edits_mix (edits o) d x k j (all_same n (edits o) (edits o) d x j near w (again o j)) (near k less)

-- A change that edits one slot, or marks some and then makes other edits.
module _ (o : Change) (d : Directory) where
  pub one_in : (x : ℕ) (f : Bytes → Bytes) → edits o ≡ edit x f ∷ [] → effect o d x ≡ f (d x)
  unfolding effect
  one_in x f e = ap (λ es. set_slots es d x) e ∙ set_in (edit x f) [] d x refl

  pub one_out : (x : ℕ) (f : Bytes → Bytes) → edits o ≡ edit x f ∷ [] → (k : ℕ) → (k ≡ x → ⊥) → effect o d k ≡ d k
  unfolding effect set_slots
  one_out x f e k ne = ap (λ es. set_slots es d k) e ∙ set_out (edit x f) [] d k ne

  module _ (ks : List ℕ) (rest : List Edit) (e : edits o ≡ marks ks ++ rest) where
    pub marked_in : (k : ℕ) → among ks k ≡ true → effect o d k ≡ mark_deleted (d k)
    unfolding effect
    marked_in k h = ap (λ es. set_slots es d k) e ∙ each_in (λ k b. mark_deleted b) rest ks d k h

    pub marked_out : (k : ℕ) → among ks k ≡ false → effect o d k ≡ set_slots rest d k
    unfolding effect
    marked_out k h = ap (λ es. set_slots es d k) e ∙ each_out (λ k b. mark_deleted b) rest ks d k h

-- A slot in a root sector that is not concerned keeps its bytes.
edits_apart : (es : List Edit) (d : Directory) (k : ℕ) → any (map (λ e. eqb (e.slot / 16) (k / 16)) es) ≡ false → set_slots es d k ≡ d k
unfolding set_slots any
edits_apart [] d k h = refl
edits_apart (e ∷ es) d k h =
    let r = or_false (eqb (e.slot / 16) (k / 16)) (any (map (λ e. eqb (e.slot / 16) (k / 16)) es)) h in
    set_out e es d k (λ q. eqb-false (e.slot / 16) (k / 16) r.0 (ap (λ i. i / 16) (sym q))) ∙ edits_apart es d k r.1

pub unconcerned : (o : Change) (d : Directory) (k : ℕ) → concerns o (k / 16) ≡ false → effect o d k ≡ d k
unfolding effect concerns
unconcerned o d k h = edits_apart (edits o) d k h

-- ---- root sectors

-- A card each of whose root sectors is as in c or holds the new directory's slots: so are its slots, and the effect on them is the new directory.
module _ (l : Layout) (c y : Card) (new : Directory) (whole : l.entries % 16 ≡ 0)
    (near : (r : ℕ) → r < l.entries / 16 → (y (root_place l r) ≡ c (root_place l r)) ⊎ (y (root_place l r) ≡ clip (root_sector new r))) where
  pub slot_near : (j : ℕ) → j < 32 → (k : ℕ) → k < l.entries → Near (slot_at l c) new (slot_at l y) k j
  unfolding slot_at root_sector
  slot_near j small k less =
      let row : 16 * (k / 16) + (32 * (k % 16) + j) / 32 ≡ k = omega arith in
      let col : (32 * (k % 16) + j) % 32 ≡ j = omega arith in
      ⊎_elim (λ e. inl (λ t. e t (32 * (k % 16) + j)))
      (λ e. inr ((λ t. e t (32 * (k % 16) + j)) ∙ clip_at (root_sector new (k / 16)) (32 * (k % 16) + j) (omega arith) ∙ (λ t. new (row t) (col t))))
      (near (k / 16) (omega arith))

pub sector_mix : (l : Layout) (c y : Card) (o : Change) → l.entries % 16 ≡ 0 → Slots l.entries o
    → ((r : ℕ) → r < l.entries / 16 → (y (root_place l r) ≡ c (root_place l r)) ⊎ (y (root_place l r) ≡ clip (root_sector (effect o (slot_at l c)) r)))
    → (r : ℕ) → r < l.entries / 16 → (j : ℕ) → j < 512 → root_sector (effect o (slot_at l y)) r j ≡ root_sector (effect o (slot_at l c)) r j
unfolding root_sector
sector_mix l c y o whole fit near r less j small =
    effect_mix l.entries o (slot_at l c) (slot_at l y) fit (j % 32) (slot_near l c y (effect o (slot_at l c)) whole near (j % 32) (omega arith))
    (16 * r + j / 32) (omega arith)
