-- A path saved and read again is the path: every call that is not refused and finishes.
use Prim.Native.Nat.{◌+◌, ◌-◌}
use native.Mathlib.Omega.{arith}
use mathlib.Core.Path.{◌≡◌, ap, ◌∙◌, subst, fun_ext}
use lib.Dec.{ltb}
use borrow.Author.Tests.{le-ltb}
use Rattle.model.specs.Bytes.{Bytes, pick}
use Rattle.model.specs.Sector.{Window}
use Rattle.model.specs.Ground.{granted}
use Rattle.model.specs.Volume.{clean}
use Rattle.model.specs.declared.Pending.{Pending}
use Rattle.model.specs.declared.Volume.{Volume}
use Rattle.operations.specs.Calls.{creates, appends}
use Rattle.operations.specs.Outcome.{left, largest}
use Rattle.safety.specs.Demand3.{Genuine}
use Rattle.safety.specs.Saved.{Holds, AllSaves, PathSaved}
use Rattle.model.proofs.Volumes.{cleaned, volume_of}
use Rattle.safety.proofs.Start.{Start}
use Rattle.safety.proofs.Theorem.{after_calls}
use Rattle.safety.proofs.Genuine.{stays_genuine}
use Rattle.safety.proofs.Moved.{create_holds, long_holds, rename_holds, rename_leaves, rename_absent, delete_leaves, delete_absent}
use Rattle.safety.proofs.Cut.{truncate_holds}
use Rattle.safety.proofs.Grown.{append_holds}
use Rattle.safety.proofs.Replaced.{replace_holds}

-- The card at the start of a call.
pub started : (w : Window) (v : Volume) → Genuine w → clean w ≡ granted v → Start w.size w.card
started w v real is = record { clean = (cleaned w.size w.card v is).0; clipped = real.sectors; small = real.bytes }

pub volume_is : (w : Window) (v : Volume) → clean w ≡ granted v → v ≡ volume_of w.card Pending.Nothing
volume_is w v is = (cleaned w.size w.card v is).1

pub all_saves : AllSaves
all_saves w v real is =
    let st : Start w.size w.card = started w v real is in
    let same : v ≡ volume_of w.card Pending.Nothing = volume_is w v is in
    let now : clean w ≡ granted (volume_of w.card Pending.Nothing) = is ∙ ap granted same in
    rw same (record {
      created = create_holds st now;
      created_long = long_holds st now;
      appended = append_holds st now;
      replaced = replace_holds st now;
      truncated = truncate_holds st now;
      renamed = rename_holds st now;
      renamed_from = rename_leaves st now;
      renamed_gone = rename_absent st now;
      deleted_from = delete_leaves st now;
      deleted_gone = delete_absent st now;
    })

-- A new file and one append.
pub path_saved : PathSaved
path_saved w v real is n d s t p q made added =
    let x : Window = left largest (creates n s) w in
    let real' : Genuine x = stays_genuine (creates n s) w v real is tt largest in
    let is' : clean x ≡ granted v = (after_calls (creates n s) w v real is).clean_again in
    let empty : Holds x n 0 d.byte = (all_saves w v real is).created n s p made d.byte in
    let both : Bytes = λ i. pick (ltb i 0) (d.byte i) (d.byte (i - 0)) in
    let whole : Holds (left largest (appends n d t) x) n (0 + d.size) both = (all_saves x v real' is').appended n d t q added 0 d.byte empty in
    let sized : 0 + d.size ≡ d.size = omega arith in
    let bytes : both ≡ d.byte =
    fun_ext (λ i. let e : i - 0 ≡ i = omega arith in ap (λ b. pick b (d.byte i) (d.byte (i - 0))) (le-ltb i 0 (omega arith)) ∙ ap d.byte e) in
    subst (λ (b : Bytes). Holds (left largest (appends n d t) x) n d.size b) bytes (subst (λ m. Holds (left largest (appends n d t) x) n m both) sized whole)
