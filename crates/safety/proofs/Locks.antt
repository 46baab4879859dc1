-- A file that has the read-only mark is left as it was.
use Prim.Native.Nat.{ℕ}
use mathlib.Core.Path.{◌≡◌, refl, ap, ◌∙◌}
use mathlib.Core.Bool.{false}
use Rattle.model.specs.Sector.{Card, after}
use Rattle.model.specs.Root.{slot_at, is_locked}
use Rattle.model.specs.Ground.{Answer, refused, granted}
use Rattle.model.specs.Volume.{clean}
use Rattle.model.specs.declared.Pending.TheVariants as Pending
use Rattle.operations.specs.Program.{Program}
use Rattle.operations.specs.Calls.{Call, creates, appends, truncates, deletes, renames, replaces, recovers, plan}
use Rattle.operations.specs.Outcome.{left, made}
use Rattle.safety.specs.Demand3.{finished}
use Rattle.safety.specs.Saved.{Names, SameFile, LockedStays}
use Rattle.model.proofs.Tests.{clash}
use Rattle.model.proofs.Volumes.{window, layout_of, volume_of}
use Rattle.safety.proofs.Start.{Start}
use Rattle.safety.proofs.Saved.{started, volume_is}
use Rattle.safety.proofs.Granted.{append_granted, truncate_granted, delete_granted, rename_granted, replace_granted}
use Rattle.safety.proofs.Sounds.{all_keep}

-- The file that a granted call names has no mark.
named_unmarked : {size : ℕ} {c : Card} → Start size c → clean (window size c) ≡ granted (volume_of c Pending.Nothing)
    → (k : Call) (p : Program) → plan k (window size c) ≡ granted p → (s : ℕ) → Names (volume_of c Pending.Nothing) c k s
    → is_locked (slot_at (layout_of c) c s) ≡ false
named_unmarked {size = size} {c = c} st is (Rattle.operations.specs.Calls.creates_long name text seconds) p h s e = elim e [ ]
named_unmarked st is (creates n sec) p h s e = absurd e
named_unmarked st is (appends n d sec) p h s e = rw e (append_granted st is n d sec p h).it.unmarked
named_unmarked st is (truncates n m sec) p h s e = rw e (truncate_granted st is n m sec p h).it.unmarked
named_unmarked st is (deletes n) p h s e = rw e (delete_granted st is n p h).it.unmarked
named_unmarked st is (renames n m) p h s e = rw e (rename_granted st is n m p h).unmarked
named_unmarked st is (replaces n d sec) p h s e = rw e (replace_granted st is n d sec p h).it.unmarked
named_unmarked st is recovers p h s e = absurd e

pub locked_stays : LockedStays
unfolding left made after
locked_stays k w v real is sound s less file locked = go (plan k w) refl
  where
    same : v ≡ volume_of w.card Pending.Nothing
    same = volume_is w v is

    go : (a : Answer Program) → plan k w ≡ a → SameFile v.layout w.card (finished k w) s
    go (refused g) e = rw e (record { slot = λ j h. refl; bytes = λ i h. refl })
    go (granted p) e = (all_keep k w v real is sound).others s less file
        (λ n. clash locked (rw same (named_unmarked (started w v real is) (is ∙ ap granted same) k p e s (rw same at n))))
