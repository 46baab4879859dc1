-- What a change does to the first bytes of slots, and the slots that it edits.
use Prim.Native.Nat.{ℕ, ◌≤◌}
use native.Mathlib.Omega.{arith}
use mathlib.Core.Path.{◌≡◌, sym, ap, ◌∙◌, subst}
use mathlib.Core.Logic.{⊎_elim}
use mathlib.Core.List.{List, [], ◌∷◌}
use mathlib.Core.Bool.{Bool, true, false}
use borrow.Author.Tests.{ne_eqb}
use Rattle.model.specs.Bytes.{Bytes, overlay, byte_of, pick}
use Rattle.model.specs.Scan.{any, among}
use Rattle.model.specs.Root.{Directory}
use Rattle.model.specs.Record.{Change, records, operation_records, operation_of}
use Rattle.model.specs.Pending.{named_slots}
use Rattle.model.specs.declared.Operation.{Operation}
use Rattle.operations.specs.Finish.{set_stamp, set_first, set_size, Edit, set_slots, marks, operation_edits, edits, effect, Slots}
use Rattle.model.proofs.Tests.{same?, clash}
use Rattle.model.proofs.All.{All}
use Rattle.model.proofs.Records.{listed, operation_back}
use Rattle.model.proofs.Recorded.{Recorded}
use Rattle.operations.proofs.Edits.{set_in, set_out}
use Rattle.operations.proofs.Seats.{Seated, told_seats, told_slots, slots_of, edit_slots}

-- A change's own records tell of its operation.
own_told : (o : Change) → operation_of (listed (records o)) ≡ o.operation
unfolding records
own_told o = operation_back o.operation (listed (operation_records o.operation)) (λ k less. λ i. listed (operation_records o.operation) k)

-- The slots of a change whose group RECORD takes.
pub recorded_slots : (n z : ℕ) (o : Change) → Recorded n z o → Slots n o
recorded_slots n z o w =
    subst (λ (x : Operation). Slots n (record { operation = x; text = o.text })) (own_told o) (told_slots n z (listed (records o)) o.text w.0)

recorded_seats : (n z : ℕ) (o : Change) → Recorded n z o → All (Seated n z) (edits o)
unfolding edits
recorded_seats n z o w =
    subst (λ (x : Operation). All (Seated n z) (operation_edits x o.text)) (own_told o) (told_seats n z (listed (records o)) o.text w.0)

-- An edit makes its slot begin otherwise than 0; each of a change does.
abbrev pub Begun : Directory → Edit → Type 0
Begun d e = e.change (d e.source) 0 ≡ 0 → ⊥

abbrev pub Lives : Directory → Change → Type 0
Lives d o = All (Begun d) (edits o)

-- A mark does.
pub marks_live : (d : Directory) (ks : List ℕ) → All (Begun d) (marks ks)
unfolding overlay byte_of
marks_live d [] = tt
marks_live d (k ∷ ks) = ((λ r. omega arith), marks_live d ks)

-- A new size and first cluster do not change the first byte.
pub resized_lives : (t : Bool) (k size stamp : ℕ) (b : Bytes) → (b 0 ≡ 0 → ⊥) → set_stamp stamp (set_size size (pick t (set_first k b) b)) 0 ≡ 0 → ⊥
unfolding overlay
resized_lives true k size stamp b h e = h e
resized_lives false k size stamp b h e = h e

-- So a slot that is edited has what all edits' slots have, and begins otherwise than 0 then.
edits_begin : (P : ℕ → Type 0) (es : List Edit) (d : Directory) (k : ℕ) → All (λ e. P e.slot × Begun d e) es → among (slots_of es) k ≡ true
    → P k × (set_slots es d k 0 ≡ 0 → ⊥)
unfolding set_slots any
edits_begin P [] d k a h = clash h (λ i. false)
edits_begin P (e ∷ es) d k a h = ⊎_elim
    (λ q. (subst P (sym q) a.0.0, λ r. a.0.1 (sym (λ t. set_in e es d k q t 0) ∙ r)))
    (λ ne. let rest = edits_begin P es d k a.1 (rw (ne_eqb k e.slot ne) at h) in
    (rest.0, λ r. rest.1 (sym (λ t. set_out e es d k ne t 0) ∙ r))) (same? k e.slot)

seated_edits : (n z : ℕ) (d : Directory) (es : List Edit) → All (Seated n z) es → All (Begun d) es → All (λ e. (e.slot ≤ z) × Begun d e) es
seated_edits n z d [] a b = tt
seated_edits n z d (e ∷ es) a b = ((a.0.0.1, b.0), seated_edits n z d es a.1 b.1)

pub begins : (n z : ℕ) (o : Change) (d : Directory) → Recorded n z o → Lives d o → (k : ℕ) → among (named_slots o.operation) k ≡ true
    → (k ≤ z) × (effect o d k 0 ≡ 0 → ⊥)
unfolding effect
begins n z o d w p k h =
    edits_begin (λ s. s ≤ z) (edits o) d k (seated_edits n z d (edits o) (recorded_seats n z o w) p) (ap (λ ks. among ks k) (edit_slots o) ∙ h)
