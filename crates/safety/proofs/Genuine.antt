-- Every call on a window of bytes leaves a window of bytes, and so does every recovery.
use Prim.Native.Nat.{ℕ}
use mathlib.Core.Path.{◌≡◌, refl, ap, ◌∙◌, subst}
use mathlib.Core.List.{List, [], ◌∷◌}
use Rattle.model.specs.Sector.{Card, Window}
use Rattle.model.specs.Ground.{Answer, refused, granted}
use Rattle.model.specs.Volume.{clean, examine}
use Rattle.model.specs.declared.Pending.{Pending}
use Rattle.operations.specs.Program.{Program, stores}
use Rattle.operations.specs.Plan.{recover_stores}
use Rattle.operations.specs.Calls.{Call, plan, recovers, recover}
use Rattle.operations.specs.Outcome.{left, made}
use Rattle.safety.specs.Demand3.{Genuine, recoveries}
use Rattle.safety.specs.Saved.{OfBytes, StaysGenuine}
use Rattle.safety.specs.Restored.{RecoveryGenuine, GenuineAgain}
use Rattle.model.proofs.All.{All, all_take}
use Rattle.model.proofs.Grounds.{bound}
use Rattle.model.proofs.Volumes.{window, volume_of, cleaned}
use Rattle.safety.proofs.Start.{Start}
use Rattle.safety.proofs.Bytewise.{SmallStore, SmallCard, after_small, after_clipped, operate_small, recover_small}
use Rattle.safety.proofs.Operated.{Operated, operated}

-- ---- calls

module _ {size : ℕ} {c : Card} (st : Start size c) (is : clean (window size c) ≡ granted (volume_of c Pending.Nothing)) where
  abbrev w : Window
  w = window size c

  abbrev Fine : Program → Type 0
  Fine p = All SmallStore (stores p)

  operated_fine : (k : Call) (p : Program) → OfBytes k → Operated c k p → Fine p
  operated_fine k p b (Operated.idles e) = subst Fine e tt
  operated_fine k p b (Operated.operates ds f o given own fat slots same) =
      subst Fine same (operate_small (volume_of c Pending.Nothing) c ds f o st.small (own b).0 fat (own b).1)

  made_fine : (k : Call) (limit : ℕ) (a : Answer Program) → OfBytes k → plan k w ≡ a → All SmallStore (made limit a)
  unfolding made
  made_fine k limit (refused g) b h = tt
  made_fine k limit (granted p) b h = all_take SmallStore limit (stores p) (operated_fine k p b (operated st is k p h))

pub stays_genuine : StaysGenuine
unfolding left
stays_genuine k w v real is b limit =
    let h = cleaned w.size w.card v is in
    let st : Start w.size w.card = record { clean = h.0; clipped = real.sectors; small = real.bytes } in
    let fine : All SmallStore (made limit (plan k w)) = made_fine st (is ∙ ap granted h.1) k limit (plan k w) b refl in
    record {
      sectors = after_clipped (made limit (plan k w)) w.card real.sectors;
      bytes = after_small (made limit (plan k w)) w.card fine
          real.bytes;
    }

-- ---- recovery, on any card of bytes

recovery_small : (w : Window) (a : Answer Program) → plan recovers w ≡ a → SmallCard w.card → (limit : ℕ) → All SmallStore (made limit a)
unfolding made plan recover
recovery_small w (refused g) e h limit = tt
recovery_small w (granted p) e h limit =
    let b = bound (examine w) _ p e in
    let same : granted (recover_stores b.0.layout w.card b.0.pending) ≡ granted p = b.2 in
    let is : recover_stores b.0.layout w.card b.0.pending ≡ p = cc in
    all_take SmallStore limit (stores p) (subst (λ p. All SmallStore (stores p)) is (recover_small b.0.layout w.card b.0.pending h))

pub recovery_genuine : RecoveryGenuine
unfolding left
recovery_genuine w real limit = record {
  sectors = after_clipped (made limit (plan recovers w)) w.card real.sectors;
  bytes = after_small (made limit (plan recovers w)) w.card (recovery_small w (plan recovers w) refl real.bytes limit) real.bytes;
}

recoveries_genuine : (limits : List ℕ) (w : Window) → Genuine w → Genuine (recoveries limits w)
recoveries_genuine [] w real = real
recoveries_genuine (limit ∷ limits) w real = recoveries_genuine limits (left limit recovers w) (recovery_genuine w real limit)

pub genuine_again : GenuineAgain
genuine_again k w v real is b limit limits = recoveries_genuine limits (left limit k w) (stays_genuine k w v real is b limit)
