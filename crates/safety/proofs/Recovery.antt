-- Every store of a recovery is within the card, whatever the card.
use Prim.Native.Nat.{ℕ, ◌+◌, ◌<◌}
use native.Mathlib.Omega.{arith}
use mathlib.Core.Path.{◌≡◌, refl, sym, ap, ◌∙◌, subst}
use Rattle.model.specs.Sector.{Card}
use Rattle.model.specs.Fat.{fat1_of, fat2_of}
use Rattle.model.specs.Log.{log_of}
use Rattle.model.specs.Record.{commit, group_in}
use Rattle.model.specs.Pending.{seen_end, pending}
use Rattle.model.specs.Ground.{granted}
use Rattle.model.specs.Volume.{examine}
use Rattle.model.specs.Promises.{Shape}
use Rattle.model.specs.Record.{Group}
use Rattle.model.specs.declared.Layout.{Layout}
use Rattle.model.specs.declared.Pending.{Pending}
use Rattle.operations.specs.Program.{stores}
use Rattle.operations.specs.Finish.{finish}
use Rattle.operations.specs.Plan.{recover_stores}
use Rattle.operations.specs.Calls.{plan, recover}
use Rattle.safety.specs.AfterCall.{RecoveryWithin}
use Rattle.model.proofs.All.{All, all_append}
use Rattle.model.proofs.Indices.{mem_all}
use Rattle.model.proofs.Fats.{write_all}
use Rattle.model.proofs.Pendings.{group_place}
use Rattle.model.proofs.Grounds.{bound}
use Rattle.model.proofs.Volumes.{Passed, layout_of, fit_shape, pending_of, area_of, area_high, first_fat, examined}
use Rattle.safety.proofs.Steps.{finish_all}
use Rattle.operations.proofs.Roots.{redo_stores}
use Rattle.safety.proofs.Operate.{OnCard}

module _ (size : ℕ) (c : Card) (h : Passed size c) where
  abbrev l : Layout
  l = layout_of c

  sh : Shape l
  sh = fit_shape size c h.fit

  pub recovery_inside : (p : Pending) → pending_of c ≡ p → All (OnCard c) (stores (recover_stores l c p))
  unfolding recover_stores commit pending group_in
  recovery_inside Pending.Nothing e = write_all l l.fat2 (fat1_of l c) (fat2_of l c) (OnCard c) (λ s less. omega (arith, sh))
  recovery_inside Pending.Broken e = tt
  recovery_inside (Pending.Held n) e =
      let g : Group = group_in n (c n) in
      let p = group_place l.entries (seen_end l c) (area_of c) (log_of (area_of c) c) n e in
      let less : p.0 < (area_of c).sectors = p.1 in
      let at : n ≡ (area_of c).sector + p.0 = p.2 in
      subst (All (OnCard c)) (sym (redo_stores l g c)) (all_append (OnCard c) (finish l g.change c) _
      (finish_all l g.change c (OnCard c) (λ s less. omega (arith, sh)) (λ r less. omega (arith, sh))) (omega (arith, area_high l (first_fat c) sh), tt))

pub recovery_within : RecoveryWithin
unfolding plan recover
recovery_within w p h =
    let b = bound (examine w) _ p h in
    let e = examined w.size w.card b.0 b.1 in
    let same : granted (recover_stores b.0.layout w.card b.0.pending) ≡ granted p = b.2 in
    let is : recover_stores b.0.layout w.card b.0.pending ≡ p = cc in
    let at : recover_stores (layout_of w.card) w.card (pending_of w.card) ≡ p = ap (λ v. recover_stores v.layout w.card v.pending)
    (sym e.1) ∙ is in
    mem_all (OnCard w.card) (stores p) (subst (λ p. All (OnCard w.card) (stores p)) at (recovery_inside w.size w.card e.0
    (pending_of w.card) refl))
