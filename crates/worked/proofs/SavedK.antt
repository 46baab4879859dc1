-- The premises of what is promised of saved paths, and of what fits tells, hold of card K: it is sound, and a path can be saved on it.
use Prim.Native.Nat.{ℕ, ◌+◌, ◌/◌}
use native.Mathlib.Omega.{arith}
use mathlib.Core.Path.{◌≡◌, refl, ap, ◌∙◌}
use mathlib.Core.Bool.{Bool, true, false}
use borrow.Author.Tests.{ne_eqb}
use Rattle.model.specs.Bytes.{Bytes}
use Rattle.model.specs.Root.{slot_at, is_file, listed, vacant}
use Rattle.model.specs.Ground.{Answer, refused, granted}
use Rattle.operations.specs.Program.{Program}
use Rattle.operations.specs.Calls.{Call, creates, plan}
use Rattle.operations.specs.Outcome.{left, largest}
use Rattle.safety.specs.Cuts.{program_of}
use Rattle.safety.specs.Sound.{Sound}
use Rattle.safety.specs.Saved.{Holds, KeepsOthers}
use Rattle.safety.specs.Restored.{InOrder}
use Rattle.safety.specs.Fitting.{Tells}
use Rattle.worked.specs.CardK.{card_k, window_k, k, route, morning, afternoon, span}
use Rattle.worked.specs.Worked.{volume_k, k3, m4}
use Rattle.model.proofs.Tests.{clash}
use Rattle.worked.proofs.Compute.{compute}
use Rattle.worked.proofs.Instance.{first_row, k_genuine}
use Rattle.worked.proofs.Grown.{created, is_created, new_at, new_is, new_clean, growing, is_growing}
use Rattle.safety.proofs.Saved.{path_saved}
use Rattle.safety.proofs.Sounds.{all_keep}
use Rattle.safety.proofs.Fitting.{created_empty, fits_append}

-- No slot of it is a file.
no_file : (s : ℕ) → is_file (slot_at volume_k.layout k.card s) ≡ false
unfolding k window_k slot_at card_k is_file listed vacant
no_file s = rw (ne_eqb (33 + s / 16) 0 (λ e. omega arith), ne_eqb (33 + s / 16) 1 (λ e. omega arith), ne_eqb (33 + s / 16) 17 (λ e. omega arith))

k_sound : Sound volume_k.layout k.card
k_sound = record { chains = λ s less h. clash h (no_file s); apart = λ s t less more h. clash h (no_file s) }

-- So whatever is called on it and wherever the power goes, call after call, it stays in order.
pub k_in_order : InOrder k volume_k
k_in_order = record { genuine = k_genuine; cleans = first_row; sound = k_sound }

pub keeps_at_k : (call : Call) → KeepsOthers call k volume_k
keeps_at_k call = all_keep call k volume_k k_genuine first_row k_sound

abbrev passes : Answer Program → Bool
passes (refused g) = false
passes (granted p) = true

granted_of : (a : Answer Program) → passes a ≡ true → a ≡ granted (program_of a)
granted_of (refused g) h = clash h refl
granted_of (granted p) h = refl

created_row : passes (created morning) ≡ true
unfolding compute
created_row = refl

creates_passes : passes (plan (creates route morning) k) ≡ true
creates_passes = ap passes (is_created morning (omega arith)) ∙ created_row

growing_row : (d : Bytes) → passes (growing afternoon d (new_at morning)) ≡ true
unfolding compute
growing_row d = refl

appends_passes : (d : Bytes) → passes (plan (m4 d) k3) ≡ true
appends_passes d =
    ap passes (is_growing morning afternoon (omega arith) d) ∙ ap (λ w. passes (growing afternoon d w)) (new_is morning (omega arith)) ∙ growing_row d

-- So the path of M4, saved on it, is read again.
pub saved_at_k : (d : Bytes) → Holds (left largest (m4 d) k3) route 1300 d
saved_at_k d =
    path_saved k volume_k k_genuine first_row route (span 1300 d) morning afternoon (program_of (plan (creates route morning) k))
    (program_of (plan (m4 d) k3)) (granted_of _ creates_passes) (granted_of _ (appends_passes d))

-- After M3 ROUTE.CUT is an empty file, so what fits says there is what M4 does.
pub tells_at_k : (d : Bytes) → Tells k3 volume_k 1300 (m4 d)
tells_at_k d =
    fits_append k3 volume_k (new_clean morning) route (span 1300 d) afternoon (omega arith)
    (created_empty k volume_k k_genuine first_row route morning (program_of (plan (creates route morning) k)) (granted_of _ creates_passes))
