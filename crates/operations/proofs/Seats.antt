-- The slots that a change edits: those that its operation names; and where RECORD takes its records, slots of the root.
use Prim.Native.Nat.{ℕ, ◌/◌, ◌≤◌, ◌<◌}
use native.Mathlib.Omega.{arith}
use mathlib.Core.Path.{◌≡◌, refl, sym, ap, ◌∙◌}
use mathlib.Core.List.{List, [], ◌∷◌, map, append-nil}
use mathlib.Core.Bool.{Bool, true, false, ◌||◌}
use lib.Dec.{eqb}
use lib.ListN.{length}
use borrow.Author.Tests.{eqb-false}
use Rattle.model.specs.Bytes.{Bytes}
use Rattle.model.specs.Scan.{any, among}
use Rattle.model.specs.Root.{Directory}
use Rattle.model.specs.Record.{operation_records, operation_of, record_of, stamp_record, Change, group_size}
use Rattle.model.specs.Long.{name_slots}
use Rattle.model.specs.Pending.{named_slots, records_ok}
use Rattle.model.specs.declared.Name.{Name}
use Rattle.model.specs.declared.Entry.{Entry}
use Rattle.model.specs.declared.Record.{Record}
use Rattle.model.specs.declared.Operation.{Operation}
use Rattle.model.specs.declared.Operation.TheVariants.{Create, Update, Delete, Truncate, Rename, Replace}
use Rattle.operations.specs.Finish.{Edit, edit, edit_from, set_name, set_slots, mark_deleted, name_slot, each, marks, operation_edits, edits}
use Rattle.operations.specs.Finish.{effect, concerns, Slots}
use Rattle.model.proofs.Tests.{or_false}
use Rattle.model.proofs.All.{All, all_append, all_image, all_map}
use Rattle.model.proofs.Long.{all_slots}
use Rattle.model.proofs.Records.{listed}
use Rattle.model.proofs.Recorded.{Seat, seat_at, told_slot}
use Rattle.operations.proofs.Edits.{each_slots, set_out}

-- ---- by their names

abbrev pub slots_of : List Edit → List ℕ
slots_of es = map (λ e. e.slot) es

only_slots : (f : ℕ → Bytes → Bytes) (ks : List ℕ) → slots_of (each f ks) ≡ ks
only_slots f ks = ap slots_of (sym (append-nil (each f ks))) ∙ each_slots f [] ks ∙ append-nil ks

operation_slots : (o : Operation) (t : Bytes) → slots_of (operation_edits o t) ≡ named_slots o
unfolding operation_edits named_slots name_slots
operation_slots (Create e count st) t = only_slots (λ k b. name_slot e st t k) (name_slots e.slot count)
operation_slots (Update e last from size st) t = refl
operation_slots (Delete e count first size) t = only_slots (λ k b. mark_deleted b) (name_slots e.slot count)
operation_slots (Truncate e first from size st) t = refl
operation_slots (Rename e count first size to renamed) t =
    each_slots (λ k b. mark_deleted b) (edit_from e.slot to (λ b. set_name renamed b) ∷ []) (name_slots e.slot count)
operation_slots (Replace e first from size st) t = refl

-- A change edits the slots that its operation names,
pub edit_slots : (x : Change) → slots_of (edits x) ≡ named_slots x.operation
unfolding edits
edit_slots x = operation_slots x.operation x.text

-- leaves the others,
edits_away : (es : List Edit) (d : Directory) (k : ℕ) → among (slots_of es) k ≡ false → set_slots es d k ≡ d k
unfolding set_slots any
edits_away [] d k h = refl
edits_away (e ∷ es) d k h =
    let r = or_false (eqb k e.slot) (among (slots_of es) k) h in
    set_out e es d k (eqb-false k e.slot r.0) ∙ edits_away es d k r.1

pub unnamed : (x : Change) (d : Directory) (k : ℕ) → among (named_slots x.operation) k ≡ false → effect x d k ≡ d k
unfolding effect
unnamed x d k h = edits_away (edits x) d k (ap (λ ks. among ks k) (edit_slots x) ∙ h)

-- and concerns their sectors.
any_slots : (q : ℕ → Bool) (es : List Edit) → any (map (λ e. q e.slot) es) ≡ any (map q (slots_of es))
unfolding any
any_slots q [] = refl
any_slots q (e ∷ es) = ap (λ t. q e.slot || t) (any_slots q es)

pub concerns_named : (x : Change) (r : ℕ) → concerns x r ≡ any (map (λ k. eqb (k / 16) r) (named_slots x.operation))
unfolding concerns
concerns_named x r = any_slots (λ k. eqb (k / 16) r) (edits x) ∙ ap (λ ks. any (map (λ k. eqb (k / 16) r) ks)) (edit_slots x)

-- ---- where RECORD takes them

-- A slot that is not above one that a record of a list names; an edit of such a slot, made of such a slot.
abbrev Named : List Record → ℕ → Type 0
Named rs s = (k : ℕ) × (k < length rs) × (s ≤ (listed rs k).slot)

abbrev Told : List Record → Edit → Type 0
Told rs e = Named rs e.slot × Named rs e.source

-- A slot of the name that record 0 of a list names is not above it.
each_named : (f : ℕ → Bytes → Bytes) (rs : List Record) (s n : ℕ) → 0 < length rs → (listed rs 0).slot ≡ s → All (Told rs) (each f (name_slots s n))
each_named f rs s n some e =
    all_image (Told rs) (λ k. edit k (f k)) (name_slots s n)
    (all_slots (λ k. Named rs k × Named rs k) s n (λ k w. let t : Named rs k = (0, some, omega (arith, w.0)) in (t, t)))

-- What each operation supplies: its edits are of slots that its records name, or of ones before them.
operation_named : (o : Operation) (t : Bytes) → All (Told (operation_records o)) (operation_edits o t)
unfolding operation_records operation_edits record_of stamp_record
operation_named (Create e count st) t =
    each_named (λ k b. name_slot e st t k) (operation_records (Create e count st)) e.slot count (omega arith) refl
operation_named (Update e last from size st) t = (((0, omega arith, omega arith), (0, omega arith, omega arith)), tt)
operation_named (Delete e count first size) t =
    each_named (λ k b. mark_deleted b) (operation_records (Delete e count first size)) e.slot count (omega arith) refl
operation_named (Truncate e first from size st) t = (((0, omega arith, omega arith), (0, omega arith, omega arith)), tt)
operation_named (Rename e count first size to renamed) t =
    let rs : List Record = operation_records (Rename e count first size to renamed) in
    all_append (Told rs) (marks (name_slots e.slot count)) _ (each_named (λ k b. mark_deleted b) rs e.slot count (omega arith) refl)
    (((1, omega arith, omega arith), (0, omega arith, omega arith)), tt)
operation_named (Replace e first from size st) t = (((0, omega arith, omega arith), (0, omega arith, omega arith)), tt)

-- RECORD asks that a change's slots are the root's and not above z.
abbrev pub Seated : ℕ → ℕ → Edit → Type 0
Seated n z e = Seat n z e.slot × Seat n z e.source

pub told_seats : (n z : ℕ) (rs : ℕ → Record) (t : Bytes) → records_ok n z rs ≡ true → All (Seated n z) (operation_edits (operation_of rs) t)
unfolding group_size
told_seats n z rs t h =
    all_map (Told (operation_records (operation_of rs))) (Seated n z) (λ e t. (seat e.slot t.0, seat e.source t.1))
    (operation_edits (operation_of rs) t) (operation_named (operation_of rs) t)
  where
    seat : (s : ℕ) → Named (operation_records (operation_of rs)) s → Seat n z s
    seat s t =
        let is : (listed (operation_records (operation_of rs)) t.0).slot ≡ (rs t.0).slot = told_slot n z rs h t.0 t.1 in
        let low : s ≤ (listed (operation_records (operation_of rs)) t.0).slot = t.2 in
        let at : Seat n z (rs t.0).slot = seat_at n z rs h t.0 t.1 in
        (omega (arith, at.0), omega (arith, at.1))

-- The slots of a group that RECORD takes.
pub told_slots : (n z : ℕ) (rs : ℕ → Record) (t : Bytes) → records_ok n z rs ≡ true → Slots n (record { operation = operation_of rs; text = t })
unfolding edits
told_slots n z rs t h =
    all_map (Seated n z) (λ e. (e.slot < n) × (e.source < n)) (λ e t. (t.0.0, t.1.0)) (operation_edits (operation_of rs) t) (told_seats n z rs t h)

-- The slots of a create, a delete and a rename, whose entry's slot is the root's, and the new one.
each_seats : (f : ℕ → Bytes → Bytes) (n s count : ℕ) → s < n → All (λ e. (e.slot < n) × (e.source < n)) (each f (name_slots s count))
each_seats f n s count less =
    all_image (λ e. (e.slot < n) × (e.source < n)) (λ k. edit k (f k)) (name_slots s count)
    (all_slots (λ k. (k < n) × (k < n)) s count (λ k w. (omega (arith, w.0), omega (arith, w.0))))

module _ (n : ℕ) (e : Entry) (count : ℕ) (less : e.slot < n) where
  pub create_slots : (st : ℕ) (t : Bytes) → Slots n (record { operation = Create e count st; text = t })
  unfolding edits operation_edits
  create_slots st t = each_seats (λ k b. name_slot e st t k) n e.slot count less

  pub delete_slots : (first size : ℕ) (t : Bytes) → Slots n (record { operation = Delete e count first size; text = t })
  unfolding edits operation_edits
  delete_slots first size t = each_seats (λ k b. mark_deleted b) n e.slot count less

  pub rename_slots : (first size to : ℕ) (renamed : Name) (t : Bytes) → to < n
      → Slots n (record { operation = Rename e count first size to renamed; text = t })
  unfolding edits operation_edits
  rename_slots first size to renamed t new =
      all_append (λ e. (e.slot < n) × (e.source < n)) (marks (name_slots e.slot count)) _
      (each_seats (λ k b. mark_deleted b) n e.slot count less) ((new, less), tt)
