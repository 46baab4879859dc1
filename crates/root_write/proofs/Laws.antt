-- Bytes of a slot, its sector as it is built from slots, and the turns of the loop over root sectors.
use Prim.Native.Nat.{ℕ, zero, suc, ◌+◌, ◌-◌, ◌*◌, ◌/◌, ◌%◌, ◌<◌, ◌≤◌}
use native.Mathlib.Omega.{arith}
use mathlib.Core.Path.{◌≡◌, refl, sym, ap, ◌∙◌, subst}
use mathlib.Core.Logic.{◌⊎◌, inl, inr, ⊎_elim}
use mathlib.Core.Bool.{Bool, true, false}
use mathlib.Core.List.{List, [], ◌∷◌, map}
use lib.Dec.{eqb}
use Rattle.model.specs.Scan.{any, among}
use Rattle.model.specs.Long.{name_slots}
use Rattle.model.specs.Bytes.{Bytes, overlay, pick}
use Rattle.model.specs.Sector.{Card, Store, card_of, clip}
use Rattle.model.specs.Root.{Directory, root_place, slot_at}
use Rattle.model.specs.Record.{Change, with_text}
use Rattle.model.specs.Pending.{named_slots}
use Rattle.std.proofs.Common.{Ok}
use Rattle.model.specs.Promises.{Spent, up_to}
use Rattle.model.specs.declared.Layout.{Layout}
use Rattle.model.specs.declared.Name.{Name}
use Rattle.model.specs.declared.Entry.{Entry}
use Rattle.model.specs.declared.Operation.{Operation}
use Rattle.model.specs.declared.Operation.TheVariants.{Create, Update, Delete, Truncate, Rename, Replace}
use borrow.Author.Tests.{eq-eqb, ne_eqb}
use Rattle.model.proofs.Tests.{less?, same?, clash}
use Rattle.model.proofs.Long.{of_name?, of_name, not_of_name, some_slot, no_slot, either_among}
use Rattle.model.proofs.All.{All, all_later}
use Rattle.model.proofs.Cards.{store_same, put_case, clip_clip}
use Rattle.model.proofs.Changes.{Keeps, after_keeps}
use Rattle.model.proofs.Overlays.{overlay_in, overlay_below}
use Rattle.model.proofs.Runs.{spent_card}
use Rattle.model.proofs.Turns.{map_indices, upto_all}
use Rattle.operations.specs.Finish.{Edit, edit, edit_from, set_slots, each, marks, name_slot, operation_edits, edits, Slots, effect, set_name, mark_deleted}
use Rattle.operations.specs.Finish.{set_stamp, root_sector, concerns, root_stores}
use Rattle.operations.proofs.Edits as Edits
use Rattle.operations.proofs.Edits.{laid_resized, laid_mark, laid_name, laid_local, edit_made, own_made, each_in, each_out, only_in, sector_mix}
use Rattle.operations.proofs.Seats.{unnamed}
use Rattle.root_write.specs.Slots.{resized, root_store, root_turn}

-- A root sector that has none of a name's slots, as the name's own lies before it; the one that has its own; and one before that, whose last
-- slot is the nearest.
module _ (s n r : ℕ) where
  abbrev has : ℕ → Bool
  has k = eqb (k / 16) r

  pub reaches_none : s / 16 < r → any (map has (name_slots s n)) ≡ false
  reaches_none less = no_slot has s n (λ k w. ne_eqb (k / 16) r (λ e. omega (arith, w.0)))

  pub reaches_own : s / 16 ≡ r → any (map has (name_slots s n)) ≡ true
  reaches_own e = some_slot has s n s (omega arith, omega arith) (eq-eqb (s / 16) r e)

  pub reaches_back : r < s / 16 → among (name_slots s n) (16 * r + 15) ≡ any (map has (name_slots s n))
  reaches_back less = ⊎_elim
      (λ w. of_name s n (16 * r + 15) w ∙ sym (some_slot has s n (16 * r + 15) w (eq-eqb ((16 * r + 15) / 16) r (omega arith))))
      (λ ne. not_of_name s n (16 * r + 15) ne ∙ sym (no_slot has s n (λ k w. ne_eqb (k / 16) r (λ e. ne (omega arith, omega (arith, w.1))))))
      (of_name? s n (16 * r + 15))

-- ---- operations

-- A slot that a change does not name, as it was loaded.
pub out : (x : Change) (d : Directory) (k : ℕ) (b : Bytes) → among (named_slots x.operation) k ≡ false → ((j : ℕ) → j < 32 → b j ≡ d k j)
    → (j : ℕ) → j < 32 → b j ≡ effect x d k j
out x d k b off same j h = same j h ∙ sym (λ i. unnamed x d k off i j)

-- A slot that is one of a name without a long one is its own.
own_slot : (s k : ℕ) → among (name_slots s 0) k ≡ true → k ≡ s
unfolding name_slots any
own_slot s k h = ⊎_elim (λ e. e) (λ ne. clash h (rw (ne_eqb k s ne))) (same? k s)

-- One that it names, of which the change makes r; b was loaded.
module _ (o : Operation) (t : Bytes) (d : Directory) (k : ℕ) (b r : Bytes) (same : (j : ℕ) → j < 32 → b j ≡ d k j)
    (named : among (named_slots o) k ≡ true) where
  abbrev Made : Type 0
  Made = (j : ℕ) → j < 32 → r j ≡ effect (with_text o t) d k j

  pub in_create : {e : Entry} {count stamp : ℕ} → o ≡ Create e count stamp → r ≡ name_slot e stamp t k → Made
  unfolding effect edits operation_edits named_slots
  in_create {e} {count} {stamp} at is j s =
      (λ i. is i j) ∙ sym (rw at (λ i. only_in (λ k b. name_slot e stamp t k) (name_slots e.slot count) d k (rw at at named) i j))

  -- An edit of its own bytes alone.
  made : (s : ℕ) (f : Bytes → Bytes) → edits (with_text o t) ≡ edit s f ∷ [] → ((j : ℕ) → Edits.Laid f j) → k ≡ s → r ≡ f b → Made
  unfolding effect
  made s f e laid at is j small = (λ i. is i j) ∙ own_made s f [] d k j b at (laid j) (same j small) ∙ ap (λ es. set_slots es d k j) (sym e)

  pub in_update : {e : Entry} {last from size stamp : ℕ} → o ≡ Update e last from size stamp → r ≡ set_stamp stamp (resized b (eqb last 0) from size) → Made
  unfolding edits operation_edits named_slots
  in_update {e} {last} {from} {size} {stamp} at is =
      made e.slot (λ x. set_stamp stamp (resized x (eqb last 0) from size)) (rw at) (laid_resized (eqb last 0) from size stamp)
      (own_slot e.slot k (rw at at named)) is

  pub in_truncate : {e : Entry} {first from size stamp : ℕ} → o ≡ Truncate e first from size stamp
      → r ≡ set_stamp stamp (resized b (eqb size 0) 0 size) → Made
  unfolding edits operation_edits named_slots
  in_truncate {e} {first} {from} {size} {stamp} at is =
      made e.slot (λ x. set_stamp stamp (resized x (eqb size 0) 0 size)) (rw at) (laid_resized (eqb size 0) 0 size stamp)
      (own_slot e.slot k (rw at at named)) is

  pub in_replace : {e : Entry} {first from size stamp : ℕ} → o ≡ Replace e first from size stamp
      → r ≡ set_stamp stamp (resized b true from size) → Made
  unfolding edits operation_edits named_slots
  in_replace {e} {first} {from} {size} {stamp} at is =
      made e.slot (λ x. set_stamp stamp (resized x true from size)) (rw at) (laid_resized true from size stamp) (own_slot e.slot k (rw at at named)) is

  -- A slot that is marked as deleted.
  deleted : r ≡ mark_deleted b → (j : ℕ) → j < 32 → r j ≡ mark_deleted (d k) j
  deleted is j s = (λ i. is i j) ∙ laid_local (λ x. mark_deleted x) j (laid_mark j) (d k) b (same j s)

  pub in_delete : {e : Entry} {count first size : ℕ} → o ≡ Delete e count first size → r ≡ mark_deleted b → Made
  unfolding effect edits operation_edits named_slots
  in_delete {e} {count} at is j s =
      deleted is j s ∙ sym (rw at (λ i. only_in (λ k x. mark_deleted x) (name_slots e.slot count) d k (rw at at named) i j))

  pub in_rename : {e : Entry} {count first size to : ℕ} {renamed : Name} → o ≡ Rename e count first size to renamed
      → among (name_slots e.slot count) k ≡ true → r ≡ mark_deleted b → Made
  unfolding effect edits operation_edits
  in_rename {e} {count} {to = to} {renamed} at h is j s =
      deleted is j s
      ∙ sym (rw at (λ i. each_in (λ k x. mark_deleted x) (edit_from e.slot to (λ x. set_name renamed x) ∷ []) (name_slots e.slot count) d k h i j))

-- A rename's new slot, made of the old one's bytes.
pub in_renamed : (t : Bytes) (d : Directory) (k : ℕ) (b r : Bytes) {o : Operation} {e : Entry} {count first size to : ℕ} {renamed : Name}
    → ((j : ℕ) → j < 32 → b j ≡ d e.slot j) → among (named_slots o) k ≡ true → o ≡ Rename e count first size to renamed
    → among (name_slots e.slot count) k ≡ false → r ≡ set_name renamed b
    → (j : ℕ) → j < 32 → r j ≡ effect (with_text o t) d k j
unfolding effect edits operation_edits named_slots
in_renamed t d k b r {o} {e} {count} {to = to} {renamed} same on is off made j s =
    let named : Edit = edit_from e.slot to (λ x. set_name renamed x) in
    let at : k ≡ to = ⊎_elim (λ h. clash h off) (λ q. q) (either_among (name_slots e.slot count) to k (rw is at on)) in
    ap (λ (x : Bytes). x j) made ∙ edit_made named [] d k j b at (laid_name renamed j) (same j s)
    ∙ sym (rw is (λ i. each_out (λ k x. mark_deleted x) (named ∷ []) (name_slots e.slot count) d k off i j))

-- The slot that a rename's new one is made of is the root's, and so is a create's own.
pub rename_source : (t : Bytes) (n : ℕ) (e : Entry) (count first size to : ℕ) (renamed : Name)
    → Slots n (with_text (Rename e count first size to renamed) t) → e.slot < n
unfolding edits operation_edits
rename_source t n e count first size to renamed h =
    (all_later (λ e. (e.slot < n) × (e.source < n)) (marks (name_slots e.slot count)) (edit_from e.slot to (λ x. set_name renamed x) ∷ []) h).0.1

pub create_slot : (t : Bytes) (n : ℕ) (e : Entry) (count stamp : ℕ) → Slots n (with_text (Create e count stamp) t) → e.slot < n
unfolding edits operation_edits name_slots
create_slot t n e count stamp h = last e.slot count h
  where
    last : (s m : ℕ) → All (λ e. (e.slot < n) × (e.source < n)) (each (λ k b. name_slot e stamp t k) (name_slots s m)) → s < n
    last s zero h = h.0.0
    last s (suc m) h = last s m h.1

-- ---- a sector from its slots

-- The first i slots of root sector r of a directory stand in a buffer.
abbrev pub Laid : Directory → ℕ → ℕ → Bytes → Type 0
Laid d r i b = (j : ℕ) → j < 32 * i → b j ≡ root_sector d r j

pub laid_more : (d : Directory) (r i : ℕ) (b s new : Bytes) → Laid d r i b → ((j : ℕ) → j < 32 → s j ≡ d (16 * r + i) j)
    → new ≡ overlay 32 s (32 * i) b → Laid d r (i + 1) new
unfolding root_sector
laid_more d r i b s new so own is j h =
    ap (λ (x : Bytes). x j) is
    ∙ ⊎_elim
    (λ (l : j < 32 * i). overlay_below s (32 * i) b 32 j l ∙ so j l)
    (λ (l : 32 * i ≤ j).
    let row : i ≡ j / 32 = omega arith in
    let col : j - 32 * i ≡ j % 32 = omega arith in
    overlay_in s (32 * i) b 32 j l (omega arith) ∙ own (j - 32 * i) (omega arith) ∙ ap (λ (z : ℕ). d (16 * r + z) (j - 32 * i)) row
    ∙ ap (d (16 * r + j / 32)) col)
    (less? j (32 * i))

-- ---- the loop

pub root_turns : (l : Layout) (o : Change) (c : Card) → up_to (root_turn l o c) (l.entries / 16) ≡ root_stores l o c
unfolding root_stores
root_turns l o c = sym (map_indices (root_store l o c) (concerns o) (l.entries / 16))

-- Each turn finds a card whose root sectors are as at entry or as they are to become, and so stores what it would have stored at entry.
module _ (l : Layout) (o : Change) (whole : l.entries % 16 ≡ 0) (fit : Slots l.entries o) (c : Card) where
  abbrev new : Directory
  new = effect o (slot_at l c)

  abbrev Mixed : Card → Type 0
  Mixed y = (r : ℕ) → r < l.entries / 16 → (y (root_place l r) ≡ c (root_place l r)) ⊎ (y (root_place l r) ≡ clip (root_sector new r))

  turn_keeps : (r : ℕ) (t : Bool) → All (Keeps Mixed) (pick t (root_store l o c r ∷ []) [])
  turn_keeps r true = (
    (λ x m n less. put_case (λ (b : Bytes). (b ≡ c (root_place l n)) ⊎ (b ≡ clip (root_sector new n))) x (root_store l o c r) (root_place l n)
        (λ e. let same : r ≡ n = omega arith in inr (clip_clip (root_sector new r) ∙ ap (λ (i : ℕ). clip (root_sector new i)) same)) (λ _. m n less)),
    tt,
  )
  turn_keeps r false = tt

  pub turn_same : {b left k : ℕ} {e x : List ℕ} → c ≡ card_of e → Spent b left (up_to (root_turn l o c) k) e x (Ok (tt {0})) → k < l.entries / 16
      → root_turn l o (card_of x) k ≡ root_turn l o c k
  turn_same {b} {left} {k} {e} {x} is so less =
      let mixed : Mixed (card_of x) = subst Mixed (sym (spent_card refl so))
      (after_keeps Mixed (up_to (root_turn l o c) k) (upto_all (Keeps Mixed) (root_turn l o c) k (λ i low. turn_keeps i (concerns o i))) (card_of e)
      (subst Mixed is (λ r low. inl refl))) in
      ap (λ (s : Store). pick (concerns o k) (s ∷ []) [])
      (store_same (root_place l k) (root_sector (effect o (slot_at l (card_of x))) k) (root_sector new k) (sector_mix l c (card_of x) o whole fit mixed k less))
