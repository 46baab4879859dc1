-- Card K from the bench: a window of garbage, formatted with 4,150 sectors, 1 per cluster and 8 log clusters.
use Rattle.std.specs.Prelude.{◌*◌, ◌≡◌, [], ◌∷◌, map}
use Rattle.model.specs.Sector.{Window}
use Rattle.model.specs.Ground.{granted}
use Rattle.model.specs.Volume.{clean}
use Rattle.operations.specs.Calls.{creates, plan}
use Rattle.operations.specs.Outcome.{made, leaves, largest}
use Rattle.formatting.specs.Format.{format}
use Rattle.worked.specs.CardK.{route, morning}
use Rattle.worked.specs.Worked.{volume_k}

-- The window before, and after.
abbrev pub garbage : Window
garbage = record { size = 512 * 4150; card = λ s j. 0xAA }

unfoldable pub formatted : Window
formatted = leaves largest (format garbage 4150 1 8) garbage

pub record FreshK : Type 0 where
  -- It is clean, with card K's regions and log.
  pub is_clean : clean formatted ≡ granted volume_k
  -- M3 on it stores 65, 33, 65, as on card K.
  pub m3 : map (λ s. s.sector) (made largest (plan (creates route morning) formatted)) ≡ 65 ∷ 33 ∷ 65 ∷ []
