-- CLOCK is asked right after grounds 1 to 7, and before any other: a call with seconds that are too many is refused on a clean card, whatever
-- else it is given, and whether it would store something or not.
use Prim.Native.Nat.{ℕ, ◌<◌}
use mathlib.Core.Path.{◌≡◌}
use Rattle.model.specs.Bytes.{Span}
use Rattle.model.specs.Sector.{Window}
use Rattle.model.specs.Calendar.{last_second}
use Rattle.model.specs.Ground.{refused, granted}
use Rattle.model.specs.Volume.{clean, clean_at}
use Rattle.model.specs.declared.Volume.{Volume}
use Rattle.operations.specs.Calls.{creates, creates_long, appends, truncates, replaces, plan, create, create_long, append, replace, truncate}
use Rattle.model.proofs.Grounds.{ends}
use Rattle.model.proofs.Volumes.{at_late}
use Rattle.model.specs.declared.Ground.TheVariants as Ground

module _ (w : Window) (v : Volume) (is : clean w ≡ granted v) (s : ℕ) (late : last_second < s) (n : Span) where
  pub create_late : plan (creates n s) w ≡ refused Ground.Clock
  unfolding plan create
  create_late = ends (clean_at w s) _ Ground.Clock (at_late w s v is late)

  pub long_late : (t : Span) → plan (creates_long n t s) w ≡ refused Ground.Clock
  unfolding plan create_long
  long_late t = ends (clean_at w s) _ Ground.Clock (at_late w s v is late)

  pub append_late : (d : Span) → plan (appends n d s) w ≡ refused Ground.Clock
  unfolding plan append
  append_late d = ends (clean_at w s) _ Ground.Clock (at_late w s v is late)

  pub truncate_late : (size : ℕ) → plan (truncates n size s) w ≡ refused Ground.Clock
  unfolding plan truncate
  truncate_late size = ends (clean_at w s) _ Ground.Clock (at_late w s v is late)

  pub replace_late : (d : Span) → plan (replaces n d s) w ≡ refused Ground.Clock
  unfolding plan replace
  replace_late d = ends (clean_at w s) _ Ground.Clock (at_late w s v is late)
