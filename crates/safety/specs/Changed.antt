-- Which slots of the root directory a call changes: of a file that is deleted or renamed, all that its names took.
use Rattle.std.specs.Prelude.{ℕ, ◌<◌, ◌≡◌, ◌⊎◌, List, true, false}
use Rattle.model.specs.Bytes.{Bytes, Span}
use Rattle.model.specs.Scan.{among}
use Rattle.model.specs.Sector.{Card, Window}
use Rattle.model.specs.Root.{slot_at}
use Rattle.model.specs.Ground.{granted}
use Rattle.model.specs.Volume.{clean}
use Rattle.model.specs.declared.Layout.{Layout}
use Rattle.model.specs.declared.Volume.{Volume}
use Rattle.model.specs.Outcome.{Done}
use Rattle.operations.specs.Program.{Program}
use Rattle.operations.specs.Finish.{mark_deleted}
use Rattle.operations.specs.Calls.{Call, deletes, renames, recovers, plan, old_slots, changed_by}
use Rattle.operations.specs.Outcome.{outcome, left}
use Rattle.safety.specs.Demand3.{Genuine, finished, recoveries}

-- The slots of a list have in y the bytes that f makes of those in c.
abbrev pub Slotwise : (Bytes → Bytes) → Layout → Card → Card → List ℕ → Type 0
Slotwise f l c y ks = (s : ℕ) → among ks s ≡ true → (j : ℕ) → j < 32 → slot_at l y s j ≡ f (slot_at l c s) j

-- "Nothing but the marked slots, the old and the new one changes": after a call, refused or finished, every slot that is not one of those
-- that it names has its bytes.
abbrev pub SlotsStay : Type 0
SlotsStay = (k : Call) (w : Window) (v : Volume) → Genuine w → clean w ≡ granted v
    → (s : ℕ) → s < v.layout.entries → among (changed_by v w.card k) s ≡ false
    → (j : ℕ) → j < 32 → slot_at v.layout (finished k w) s j ≡ slot_at v.layout w.card s j

-- The call takes the name n away.
abbrev pub Removes : Call → Span → Type 0
Removes k n = (k ≡ deletes n) ⊎ ((m : Span) × (k ≡ renames n m))

-- "Delete and rename should also mark the old name's long entries with 0xE5": each slot of the old name, its long entries' and its own.
abbrev pub OldMarked : Type 0
OldMarked = (k : Call) (w : Window) (v : Volume) → Genuine w → clean w ≡ granted v → (n : Span) → Removes k n → (p : Program) → plan k w ≡ granted p
    → Slotwise (λ b. mark_deleted b) v.layout w.card (finished k w) (old_slots v w.card n)

-- A cut leaves all of it or none: once a recovery has ended, all these slots are marked, or all are as they were.
abbrev pub AllOrNone : Type 0
AllOrNone = (k : Call) (w : Window) (v : Volume) → Genuine w → clean w ≡ granted v → (n : Span) → Removes k n → (p : Program) → plan k w ≡ granted p
    → (limit : ℕ) (limits : List ℕ) (once m : ℕ) → outcome once (plan recovers (recoveries limits (left limit k w))) ≡ Done m
    → Slotwise (λ b. mark_deleted b) v.layout w.card (left once recovers (recoveries limits (left limit k w))).card (old_slots v w.card n)
    ⊎ Slotwise (λ b. b) v.layout w.card (left once recovers (recoveries limits (left limit k w))).card (old_slots v w.card n)
