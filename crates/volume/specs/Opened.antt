-- A window that was opened: its grounds are passed.
use Rattle.std.specs.Prelude.{◌≡◌, List, ℕ}
use Rattle.model.specs.Sector.{window_of}
use Rattle.model.specs.Ground.{Answer, granted}
use Rattle.model.specs.Volume.{clean, examine}
use Rattle.model.specs.Promises.{Held}
use Rattle.model.specs.declared.Volume.{Volume}
use Rattle.fat_read.specs.Located.{Lies}

-- The grounds that were asked are passed with this volume, its layout is the window's, and its log lies there.
pub record Opened (asked : Answer Volume) (v : Volume) (xs : List ℕ) : Type 0 where
  pub passes : asked ≡ granted v
  pub held : Held v.layout xs
  pub lies : Lies v.layout v.log

-- Grounds 1 to 7: a clean card. Grounds 1 to 6: one that recovery takes.
abbrev pub Ready : Volume → List ℕ → Type 0
Ready v xs = Opened (clean (window_of xs)) v xs

abbrev pub Legible : Volume → List ℕ → Type 0
Legible v xs = Opened (examine (window_of xs)) v xs
