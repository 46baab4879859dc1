-- Grounds 1 to 3 by what the boot sector gives.
use Prim.Native.Nat.{◌*◌, ◌<◌, ◌≤◌}
use native.Mathlib.Omega.{arith}
use mathlib.Core.Path.{◌≡◌}
use mathlib.Core.Bool.{true, false}
use borrow.Author.Tests.{lt-ltb, le-ltb}
use Rattle.model.specs.Bytes.{Bytes}
use Rattle.model.specs.Sector.{Window}
use Rattle.model.specs.Boot.{layout, boot_ok}
use Rattle.model.specs.Ground.{refused, granted, ◌when◌, ◌>>◌}
use Rattle.model.specs.Volume.{mount}
use Rattle.model.specs.declared.Layout.{Layout}
use Rattle.model.specs.declared.Ground.TheVariants as Ground
use Rattle.boot.specs.Booted.{booted}
use Rattle.std.specs.Prelude.{Some, None}

bad : (b : Bytes) → booted b ≡ None → boot_ok b ≡ false
unfolding booted
bad b h = grind arith

good : (b : Bytes) (l : Layout) → booted b ≡ Some l → (boot_ok b ≡ true) × (layout b ≡ l)
unfolding booted
good b l h = grind arith

module _ (w : Window) where
  pub mount_short : w.size < 512 → mount w ≡ refused Ground.Short
  unfolding mount ◌when◌ ◌>>◌
  mount_short h = rw (lt-ltb _ _ h)

  module _ (whole : 512 ≤ w.size) where
    pub mount_boot : booted (w.card 0) ≡ None → mount w ≡ refused Ground.Boot
    unfolding mount ◌when◌ ◌>>◌
    mount_boot h = rw (le-ltb _ _ whole, bad (w.card 0) h)

    module _ (l : Layout) (is : booted (w.card 0) ≡ Some l) where
      pub mount_window : w.size < 512 * l.total → mount w ≡ refused Ground.Window
      unfolding mount ◌when◌ ◌>>◌
      mount_window h = let g = good (w.card 0) l is in rw (le-ltb _ _ whole, g.0, g.1, lt-ltb _ _ h)

      pub mount_layout : 512 * l.total ≤ w.size → mount w ≡ granted l
      unfolding mount ◌when◌ ◌>>◌
      mount_layout h = let g = good (w.card 0) l is in rw (le-ltb _ _ whole, g.0, g.1, le-ltb _ _ h)
