-- A power cut leaves each file as it was or as it was to be.
use Prim.Native.Nat.{ℕ}
use mathlib.Core.Path.{◌≡◌, refl, sym, ap, ◌∙◌, subst, fun_ext}
use mathlib.Core.Logic.{◌⊎◌, inl, inr}
use mathlib.Core.List.Memᴰ
use mathlib.Core.List.{[], ◌∷◌}
use mathlib.Core.Bool.{Bool, true, false}
use Rattle.model.specs.Bytes.{Bytes, Span}
use Rattle.model.specs.Sector.{Card, Window, after}
use Rattle.model.specs.Ground.{granted}
use Rattle.model.specs.Volume.{clean}
use Rattle.model.specs.declared.Layout.{Layout}
use Rattle.model.specs.declared.Pending.{Pending}
use Rattle.model.specs.declared.Volume.{Volume}
use Rattle.model.specs.Outcome.{Done}
use Rattle.operations.specs.Calls.{Call, plan, recovers}
use Rattle.operations.specs.Outcome.{made, left, outcome, largest}
use Rattle.safety.specs.Sound.{Sound}
use Rattle.safety.specs.Cuts.{program_of, recovery, passes_group}
use Rattle.safety.specs.Demand3.{recoveries, Genuine, finished, group_stored}
use Rattle.safety.specs.Saved.{Holds}
use Rattle.safety.specs.Restored.{ReadsAs, settles_on, Restores, Restored, RestoredBack, OldOrNew, StaysInOrder}
use Rattle.model.proofs.Volumes.{window, layout_of, volume_of}
use Rattle.safety.proofs.Journal.{Ends, idle, Goal, every_run}
use Rattle.safety.proofs.Start.{Table}
use Rattle.safety.proofs.Before.{Wanted}
use Rattle.safety.proofs.Theorem.{by_limits, ends_done, ends_at_last, Kind, all_made, most_finishes, volume, the_start, fair, good_files, after_calls}
use Rattle.safety.proofs.Sounds.{all_keep}
use Rattle.safety.proofs.Genuine.{recovery_genuine, genuine_again}
use Rattle.safety.proofs.Same.{clean_kept, sound_kept, reads_kept}

reads_refl : (w : Window) (n : Span) → ReadsAs w w n
reads_refl w n = record { answers = λ offset room. refl; buffer = λ offset room b i. refl }

-- So what a name holds it holds again.
pub holds_as : (y z : Window) (n : Span) → ReadsAs y z n → (size : ℕ) (content : Bytes) → Holds z n size content → Holds y n size content
holds_as y z n r size content h = record
    { count = λ offset room. r.answers offset room ∙ h.count offset room; bytes = λ offset room b i. r.buffer offset room b i ∙ h.bytes offset room b i }

module _ (k : Call) (w : Window) (v : Volume) (real : Genuine w) (is : clean w ≡ granted v) where
  abbrev c : Card
  c = w.card

  abbrev l : Layout
  l = layout_of c

  -- A card that meets the goal, and on which a recovery stores nothing.
  record Back (b : Bool) (y : Card) : Type 0 where
    cleans : clean (window w.size y) ≡ granted (volume_of c Pending.Nothing)
    sounds : Sound l c → Sound l y
    reads : Sound l c → (n : Span) → ReadsAs (window w.size y) (settles_on b k w) n

  back : (b : Bool) (y : Card) → Goal (Kind k w v real is) c (all_made k w v real is) b y → recovery w.size y ≡ idle → Back b y
  unfolding left
  back true y g h =
      let same : y ≡ finished k w = g ∙ sym (most_finishes k w v real is) in
      record {
        cleans = ap (λ x. clean (window w.size x)) same ∙ (after_calls k w v real is).clean_again ∙ ap granted (volume k w v real is);
        sounds = λ sound. subst (Sound l) (sym same) (subst (λ (u : Volume). Sound u.layout (finished k w)) (volume k w v real is)
            (all_keep k w v real is (subst (λ (u : Volume). Sound u.layout c) (sym (volume k w v real is)) sound)).sound);
        reads = λ sound n. subst (λ x. ReadsAs (window w.size x) (left largest k w) n) (sym same) (reads_refl (left largest k w) n);
      }
  back false y g h =
      let boot : y 0 ≡ c 0 = fun_ext (λ j. g 0 j (Wanted.boot refl)) in
      let tables : (n : ℕ) → Table l n → y n ≡ c n = λ n t. fun_ext (λ j. g n j (Wanted.table t)) in
      let again : clean (window w.size y) ≡ granted (volume_of c Pending.Nothing) = clean_kept (the_start k w v real is) y boot tables h in
      record {
        cleans = again;
        sounds = sound_kept (the_start k w v real is) y boot tables;
        reads = λ sound n. reads_kept (the_start k w v real is) y boot tables sound (good_files k w v real is sound false y g)
            (is ∙ ap granted (volume k w v real is)) again n;
      }

  restored_at : (b : Bool) (once : ℕ) (x : Card) → Ends w.size (Goal (Kind k w v real is) c (all_made k w v real is) b) (recovery w.size x) x
      → Restores b k w v once (window w.size x)
  unfolding left
  restored_at b once x h = rw (volume k w v real is) (
      let at : (n : ℕ) → outcome once (recovery w.size x) ≡ Done n → Back b (after (made once (recovery w.size x)) x) =
      λ n e. let d = ends_done w.size (Goal (Kind k w v real is) c (all_made k w v real is) b) x once (recovery w.size x) h n e in back b _
      d.0 d.1 in
      record {
        ends = ends_at_last w.size (Goal (Kind k w v real is) c (all_made k w v real is) b) x (recovery w.size x) h;
        clean_again = λ n e. (at n e).cleans;
        sound_again = λ n e. (at n e).sounds;
        reads = λ n e sound name. (at n e).reads sound name;
      })

-- On a card that holds stores back.
pub restored_back : RestoredBack
restored_back k w v real is zs cut y later once =
    restored_at k w v real is (passes_group (program_of (plan k w)) zs cut) once y
    (every_run w.size (Kind k w v real is) w.card (program_of (plan k w)) (fair k w v real is).kept zs cut y later)

-- After a cut by a limit.
pub restored : Restored
restored k w v real is limit limits once =
    by_limits (λ b x. Restores b k w v once x) k w limit limits (λ zs cut y later. restored_back k w v real is zs cut y later once)

pub old_or_new : OldOrNew
old_or_new k w v real is sound limit limits once n e = go (group_stored limit k w) (restored k w v real is limit limits once)
  where
    go : (b : Bool) → Restores b k w v once (recoveries limits (left limit k w))
        → ((name : Span) → ReadsAs (left once recovers (recoveries limits (left limit k w))) w name)
        ⊎ ((name : Span) → ReadsAs (left once recovers (recoveries limits (left limit k w))) (left largest k w) name)
    go true r = inr (r.reads n e sound)
    go false r = inl (r.reads n e sound)

-- Call after call.
pub stays_in_order : StaysInOrder
stays_in_order [] small w v h = h
stays_in_order (s ∷ ss) small w v h = stays_in_order ss (λ t m. small t (Memᴰ.tail m)) _ v (
    let r = restored s.call w v h.genuine h.cleans s.limit s.limits largest in
    record {
      genuine = recovery_genuine _ (genuine_again s.call w v h.genuine h.cleans (small s (Memᴰ.head refl)) s.limit s.limits) largest;
      cleans = r.clean_again r.ends.0 r.ends.1;
      sound = r.sound_again r.ends.0 r.ends.1 h.sound;
    })
