-- A window that is opened; what a clean card is like: its FATs agree, and its log is the run that FAT1 marks.
use mathlib.Core.Path.{◌≡◌, refl, sym, ◌∙◌, subst}
use mathlib.Core.Bool.{true}
use mathlib.Core.List.{List, []}
use Prim.Native.Nat.{ℕ, ◌+◌, ◌*◌, ◌≤◌}
use lib.ListN.{length, get_or}
use Rattle.model.specs.Sector.{card_of, window_of}
use Rattle.model.specs.Fat.{fat1_of, fat2_of, fats_agree, write_fat}
use Rattle.model.specs.Log.{run, run_ok, area}
use Rattle.model.specs.Calendar.{last_second}
use Rattle.std.proofs.Common.{Result, Ok, Err}
use Rattle.std.specs.Result.{IfOk}
use Rattle.model.specs.Ground.{Answer, answer_of}
use Rattle.model.specs.declared.Ground.{Ground}
use Rattle.model.specs.Volume.{clean_at}
use Rattle.model.specs.declared.Volume.{Volume}
use Rattle.model.specs.declared.Pending.TheVariants as Pending
use Rattle.model.proofs.Cards.{clip_clip}
use Rattle.model.proofs.Fats.{agree_at, write_none}
use Rattle.model.proofs.Volumes.{volume_of, cleaned, fit_run, timely}
use Rattle.volume.specs.Examined.{Carried}
use Rattle.volume.specs.Opened.{Opened, Ready}

-- The grounds that a call asks give a volume.
pub opened_with : {asked : Answer Volume} (xs : List ℕ) (r : Result Volume Ground) → answer_of r ≡ asked → IfOk r (λ v. Carried v xs)
    → IfOk r (λ v. Opened asked v xs)
opened_with xs (Err g) e k = tt
opened_with xs (Ok v) e k = record { passes = sym e; held = k.held; lies = k.lies }

module _ (v : Volume) (xs : List ℕ) (h : Ready v xs) where
  is_volume : volume_of (card_of xs) Pending.Nothing ≡ v
  is_volume = sym (cleaned (length xs) (card_of xs) v h.passes).1

  pub ready_agree : fats_agree v.layout (card_of xs) ≡ true
  ready_agree = subst (λ (u : Volume). fats_agree u.layout (card_of xs) ≡ true) is_volume (cleaned (length xs) (card_of xs) v h.passes).0.agree

  -- FAT2 needs no store to be as FAT1 is.
  pub ready_none : write_fat v.layout v.layout.fat2 (fat1_of v.layout (card_of xs)) (fat2_of v.layout (card_of xs)) ≡ []
  ready_none = write_none v.layout v.layout.fat2 (fat1_of v.layout (card_of xs)) (fat2_of v.layout (card_of xs)) (λ s less.
      sym (clip_clip (λ j. get_or xs (512 * (v.layout.fat1 + s) + j) 0)) ∙ agree_at v.layout (card_of xs) ready_agree s less
      ∙ clip_clip (λ j. get_or xs (512 * (v.layout.fat2 + s) + j) 0))

  pub ready_run : run_ok v.layout (fat1_of v.layout (card_of xs)) (run v.layout (fat1_of v.layout (card_of xs))) ≡ true
  ready_run = subst (λ (u : Volume). run_ok u.layout (fat1_of u.layout (card_of xs)) (run u.layout (fat1_of u.layout (card_of xs))) ≡ true)
      is_volume (fit_run (length xs) (card_of xs) (cleaned (length xs) (card_of xs) v h.passes).0.fit)

  pub ready_log : v.log ≡ area v.layout (run v.layout (fat1_of v.layout (card_of xs)))
  ready_log = subst (λ (u : Volume). u.log ≡ area u.layout (run u.layout (fat1_of u.layout (card_of xs)))) is_volume refl

-- The seconds that a call is given pass CLOCK.
pub opened_at : (xs : List ℕ) (seconds : ℕ) (v : Volume) → Opened (clean_at (window_of xs) seconds) v xs → Ready v xs × (seconds ≤ last_second)
opened_at xs seconds v h =
    let t = timely (window_of xs) seconds v h.passes in (record { passes = t.0; held = h.held; lies = h.lies }, t.1)
