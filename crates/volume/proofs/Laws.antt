-- Grounds 5 to 7 by what the code finds: one law for each way that they end.
use mathlib.Core.Path.{◌≡◌, refl}
use Prim.Native.Nat.{ℕ}
use mathlib.Core.Bool.{true, false}
use Rattle.model.specs.Sector.{Card}
use Rattle.model.specs.Fat.{fats_agree}
use Rattle.model.specs.Root.{first_bytes, root_ok}
use Rattle.model.specs.Pending.{is_broken, is_held}
use Rattle.model.specs.Ground.{refused, granted, ◌when◌, ◌>>◌}
use Rattle.model.specs.Volume.{inspect, settled}
use Rattle.model.specs.declared.Layout.{Layout}
use Rattle.model.specs.declared.Area.{Area}
use Rattle.model.specs.declared.Pending.{Pending}
use Rattle.model.specs.declared.Volume.{Volume}
use Rattle.model.specs.declared.Ground.TheVariants as Ground

module _ (c : Card) (l : Layout) (a : Area) (p : Pending) where
  pub inspect_root : root_ok l.entries (first_bytes l c) ≡ false → inspect c l a p ≡ refused Ground.Root
  unfolding inspect ◌when◌ ◌>>◌
  inspect_root h = rw h

  pub inspect_record : root_ok l.entries (first_bytes l c) ≡ true → is_broken p ≡ true → inspect c l a p ≡ refused Ground.Record
  unfolding inspect ◌when◌ ◌>>◌
  inspect_record h b = rw (h, b)

  pub inspect_volume : root_ok l.entries (first_bytes l c) ≡ true → is_broken p ≡ false
      → inspect c l a p ≡ granted (record { layout = l; log = a; pending = p })
  unfolding inspect ◌when◌ ◌>>◌
  inspect_volume h b = rw (h, b)

module _ (c : Card) (v : Volume) where
  pub settled_held : is_held v.pending ≡ true → settled c v ≡ refused Ground.Unclean
  unfolding settled ◌when◌ ◌>>◌
  settled_held h = rw h

  pub settled_differ : is_held v.pending ≡ false → fats_agree v.layout c ≡ false → settled c v ≡ refused Ground.Unclean
  unfolding settled ◌when◌ ◌>>◌
  settled_differ h d = rw (h, d)

  pub settled_clean : is_held v.pending ≡ false → fats_agree v.layout c ≡ true → settled c v ≡ granted v
  unfolding settled ◌when◌ ◌>>◌
  settled_clean h d = rw (h, d)

pub not_held : (p : Pending) → ((s : ℕ) → p ≡ Pending.Held s → ⊥) → is_held p ≡ false
not_held Pending.Nothing h = refl
not_held Pending.Broken h = refl
not_held (Pending.Held s) h = absurd (h s refl)

pub not_broken : (p : Pending) → (p ≡ Pending.Broken → ⊥) → is_broken p ≡ false
not_broken Pending.Nothing h = refl
not_broken Pending.Broken h = absurd (h refl)
not_broken (Pending.Held s) h = refl
