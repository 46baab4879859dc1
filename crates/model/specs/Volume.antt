-- Grounds 1 to 7: what every call asks of the card.
use Rattle.std.specs.Prelude.{ℕ, ◌*◌, not, ltb}
use Rattle.model.specs.Sector.{Card, Window}
use Rattle.model.specs.Boot.{layout, boot_ok}
use Rattle.model.specs.Fat.{Fat, fat1_of, fats_agree}
use Rattle.model.specs.Root.{first_bytes, root_ok}
use Rattle.model.specs.Log.{area, run, run_ok}
use Rattle.model.specs.Pending.{pending, is_broken, is_held}
use Rattle.model.specs.Calendar.{last_second}
use Rattle.model.specs.Ground.{Answer, granted, ◌when◌, ◌>>=◌, ◌>>◌}
use Rattle.model.specs.declared.Layout.{Layout}
use Rattle.model.specs.declared.Area.{Area}
use Rattle.model.specs.declared.Pending.{Pending}
use Rattle.model.specs.declared.Volume.{Volume}
use Rattle.model.specs.declared.Ground.TheVariants as Ground

-- "1. SHORT: the window has fewer than 512 bytes." "2. BOOT: the boot sector breaks a rule above." "3. WINDOW: the window has
-- fewer bytes than total sectors × 512."
unfoldable pub mount : Window → Answer Layout
mount w = do
  Ground.Short when ltb w.size 512
  Ground.Boot when not (boot_ok (w.card 0))
  Ground.Window when ltb w.size (512 * (layout (w.card 0)).total)
  granted (layout (w.card 0))

-- "4. LOGAREA: FAT1 has no run, more than one, or one over 128 sectors."
unfoldable pub locate : Layout → Fat → Answer Area
locate l f = do
  Ground.Logarea when not (run_ok l f (run l f))
  granted (area l (run l f))

-- "5. ROOT: a slot after one beginning 0 begins otherwise." "6. RECORD: there are pending records, and they are not one group .."
unfoldable pub inspect : Card → Layout → Area → Pending → Answer Volume
inspect c l a p = do
  Ground.Root when not (root_ok l.entries (first_bytes l c))
  Ground.Record when is_broken p
  granted (record { layout = l; log = a; pending = p })

-- Grounds 1 to 6.
unfoldable pub examine : Window → Answer Volume
examine w = do
  l ← mount w
  a ← locate l (fat1_of l w.card)
  inspect w.card l a (pending l a w.card)

-- "7. UNCLEAN: a group is pending or the FATs differ"
unfoldable pub settled : Card → Volume → Answer Volume
settled c v = do
  Ground.Unclean when is_held v.pending
  Ground.Unclean when not (fats_agree v.layout c)
  granted v

-- "A card passing 1 to 7 is clean."
unfoldable pub clean : Window → Answer Volume
clean w = examine w >>= settled w.card

-- "18 CLOCK, the seconds exceed 4,039,286,399, asked right after UNCLEAN": grounds 1 to 7, then this one.
unfoldable pub clean_at : Window → ℕ → Answer Volume
clean_at w seconds = do
  v ← clean w
  Ground.Clock when ltb last_second seconds
  granted v
