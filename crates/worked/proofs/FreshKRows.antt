-- Card K from the bench: that it is clean by the theorem, the rest by computation.
use Prim.Native.Nat.{ℕ}
use native.Mathlib.Omega.{arith}
use mathlib.Core.Path.{◌≡◌, refl, ap, ◌∙◌}
use mathlib.Core.List.{List, [], ◌∷◌, map}
use Rattle.model.specs.Calendar.{stamp_of}
use Rattle.model.specs.Ground.{Answer, granted}
use Rattle.model.specs.Volume.{clean}
use Rattle.operations.specs.Program.{Program}
use Rattle.operations.specs.Calls.{creates, create, create_on, plan}
use Rattle.operations.specs.Outcome.{made, largest}
use Rattle.formatting.specs.Fresh.{fresh_fields}
use Rattle.formatting.specs.Format.{format, format_stores, fresh_volume}
use Rattle.model.proofs.Grounds.{then}
use Rattle.model.proofs.Volumes.{at_granted}
use Rattle.safety.proofs.Formatted.{format_finished}
use Rattle.worked.specs.CardK.{route, morning}
use Rattle.worked.specs.Worked.{volume_k}
use Rattle.worked.specs.FreshK.{FreshK, garbage, formatted}
use Rattle.worked.proofs.Compute.{compute}

volume_row : fresh_volume (fresh_fields 4150 1) 8 ≡ volume_k
unfolding compute
volume_row = refl

granted_row : format garbage 4150 1 8 ≡ granted (format_stores (fresh_fields 4150 1) 8)
unfolding compute
granted_row = refl

is_clean : clean formatted ≡ granted volume_k
unfolding formatted
is_clean = (format_finished garbage 4150 1 8 _ granted_row).is_clean ∙ ap granted volume_row

abbrev sectors : Answer Program → List ℕ
sectors p = map (λ s. s.sector) (made largest p)

m3_row : sectors (create_on volume_k formatted.card route (stamp_of morning)) ≡ 65 ∷ 33 ∷ 65 ∷ []
unfolding compute formatted
m3_row = refl

m3_is : plan (creates route morning) formatted ≡ create_on volume_k formatted.card route (stamp_of morning)
unfolding plan create
m3_is = then _ _ volume_k (at_granted formatted morning volume_k is_clean (omega arith))

pub fresh_k : FreshK
fresh_k = record { is_clean = is_clean; m3 = ap sectors m3_is ∙ m3_row }
