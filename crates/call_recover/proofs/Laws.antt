-- A pending group that RECORD accepts can be redone: its slots are the root's, its sector is the log's.
use Prim.Native.Nat.{ℕ, ◌+◌, ◌*◌, ◌/◌, ◌≤◌, ◌<◌}
use native.Mathlib.Omega.{arith}
use mathlib.Core.Path.{◌≡◌, sym, ap, ◌∙◌, subst}
use mathlib.Core.Bool.{true}
use mathlib.Core.List.{List}
use lib.ListN.{length}
use Rattle.model.specs.Bytes.{Bytes}
use Rattle.model.specs.Sector.{card_of}
use Rattle.model.specs.Log.{Log, log_of}
use Rattle.model.specs.Record.{Group, record_at, text_in, change_of, group_in}
use Rattle.model.specs.Pending.{seen_end, pending, accepted, group_ok, records_ok}
use Rattle.model.specs.declared.Volume.{Volume}
use Rattle.model.specs.declared.Pending.TheVariants as Pending
use Rattle.model.proofs.Tests.{every_at}
use Rattle.model.proofs.Pendings.{group_place}
use Rattle.model.proofs.Volumes.{examined}
use Rattle.operations.specs.Finish.{Slots}
use Rattle.operations.proofs.Seats.{told_slots}
use Rattle.volume.specs.Opened.{Legible}

-- ---- RECORD

-- The sector of a pending group, which RECORD has accepted.
held_ok : (entries z n : ℕ) (g : Log) (i : ℕ) → accepted entries z n g (16 * i) ≡ true → group_ok entries z (g i) ≡ true
unfolding accepted
held_ok entries z n g i h = let back : 16 * i / 16 ≡ i = omega arith in ap (λ (s : ℕ). group_ok entries z (g s)) (sym back) ∙ every_at _ h 1

-- Its records are those that RECORD takes.
records_of : (n z : ℕ) (b : Bytes) → group_ok n z b ≡ true → records_ok n z (record_at b) ≡ true
unfolding group_ok
records_of n z b h = every_at _ h 0

-- ---- recovery

-- What redoing a pending group asks for.
pub record Redoable (v : Volume) (g : Group) : Type 0 where
  pub slots : Slots v.layout.entries g.change
  pub low : v.layout.start ≤ g.sector
  pub high : g.sector < v.layout.total

-- The group in sector s, which is pending.
module _ (v : Volume) (xs : List ℕ) (h : Legible v xs) (s : ℕ) (held : v.pending ≡ Pending.Held s) where
  -- The lowest slot beginning 0, as RECORD reads it for the group in a sector.
  abbrev z : Bytes → ℕ
  z = seen_end v.layout (card_of xs)

  place : (i : ℕ) × (i < v.log.sectors) × (s ≡ v.log.sector + i)
      × (accepted v.layout.entries (z (log_of v.log (card_of xs) i)) v.log.sectors (log_of v.log (card_of xs)) (16 * i) ≡ true)
  unfolding pending
  place =
      let e = (examined (length xs) (card_of xs) v h.passes).1 in
      let p : pending v.layout v.log (card_of xs) ≡ Pending.Held s =
      subst (λ (u : Volume). u.pending ≡ Pending.Held s → pending u.layout u.log (card_of xs) ≡ Pending.Held s) (sym e) (λ q. q) held in
      group_place v.layout.entries z v.log (log_of v.log (card_of xs)) s p

  pub sector_low : v.layout.start ≤ s
  sector_low = omega (arith, h.lies.above, place.2)

  pub sector_high : s < v.layout.total
  sector_high = omega (arith, h.lies.inside, place.1, place.2)

  pub redoable : Redoable v (group_in s (card_of xs s))
  unfolding group_in change_of
  redoable =
      let b : Bytes = log_of v.log (card_of xs) place.0 in
      let at : b ≡ card_of xs s = ap (card_of xs) (sym place.2) in
      let ok = held_ok v.layout.entries (z b) v.log.sectors (log_of v.log (card_of xs)) place.0 place.3 in
      record {
        slots = subst (λ (x : Bytes). Slots v.layout.entries (change_of x)) at
            (told_slots v.layout.entries (z b) (record_at b) (text_in b) (records_of v.layout.entries (z b) b ok));
        low = sector_low;
        high = sector_high;
      }
