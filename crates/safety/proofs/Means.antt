-- Names that a call is not given mean what they meant; so does the name of a file whose slot alone is edited, and its bytes are read.
use Prim.Native.Nat.{ℕ, ◌≤◌, ◌<◌}
use native.Mathlib.Omega.{arith}
use mathlib.Core.Path.{◌≡◌, refl, sym, ap, ◌∙◌}
use mathlib.Core.Logic.{⊎_elim}
use mathlib.Core.List.{List, []}
use mathlib.Core.Bool.{true, false}
use Rattle.model.specs.Bytes.{Bytes, Span}
use Rattle.model.specs.Sector.{Card, Store}
use Rattle.model.specs.Fat.{Fat, release}
use Rattle.model.specs.Root.{Directory, slot_at, free_slot, bears, find, file_size, file_at}
use Rattle.model.specs.Calendar.{stamp_of}
use Rattle.model.specs.Ground.{granted}
use Rattle.model.specs.Volume.{clean}
use Rattle.model.specs.declared.Layout.{Layout}
use Rattle.model.specs.Record.{Change}
use Rattle.model.specs.declared.Pending.{Pending}
use Rattle.model.specs.declared.Volume.{Volume}
use Rattle.operations.specs.Program.{Program}
use Rattle.operations.specs.Finish.{effect, new_entry, set_name, mark_deleted}
use Rattle.operations.specs.Calls.{slot_of, name_of, run_end}
use Rattle.operations.specs.Reading.{file_byte}
use Rattle.safety.specs.Sound.{proper}
use Rattle.safety.specs.Saved.{Holds}
use Rattle.model.proofs.Tests.{told, same?}
use Rattle.model.proofs.Names.{name_fits, free_vacant}
use Rattle.model.proofs.Volumes.{window, layout_of, first_fat, volume_of}
use Rattle.safety.proofs.Start.{Start}
use Rattle.safety.proofs.Ended.{Ended, same_bears, same_directory}
use Rattle.safety.proofs.Chained.{head_is, size_is}
use Rattle.safety.proofs.Readings.{Meant, holds_of}
use Rattle.safety.proofs.Slots.{Resizes, bears_name, vacant_bears, named_only, new_named, deleted_bears, unlisted_bears, bearer, means_same}
use Rattle.safety.proofs.Supplied.{creates_as, renames_as, deletes_as, ks}
use Rattle.safety.proofs.Granted.{Created, Renamed, Deleted}
use Rattle.safety.proofs.Moved.{new_slot, left_slot, named_slot, rest_slot, gone_slot, kept_slot, new_vacant, other_slot}

module _ {size : ℕ} {c : Card} (st : Start size c) (is : clean (window size c) ≡ granted (volume_of c Pending.Nothing)) where
  abbrev l : Layout
  l = layout_of c

  abbrev v : Volume
  v = volume_of c Pending.Nothing

  abbrev d : Directory
  d = slot_at l c

  abbrev at : Span → ℕ
  at n = slot_of v c n

  abbrev z : ℕ
  z = free_slot l c

  same_at : (n m : Span) → name_of m ≡ name_of n → at m ≡ at n
  unfolding slot_of
  same_at n m e = ap (find l c) e

  -- The slot that one name means does not bear a name that means another.
  not_mine : (n m : Span) → at n < l.entries → (at m ≡ at n → ⊥) → bears (name_of m) (d (at n)) ≡ false
  not_mine n m less ne = ⊎_elim
      (λ h. absurd (ne (same_at n m (sym (bears_name (name_of m) (d (at n)) h) ∙ bears_name (name_of n) (d (at n)) (bearer v c n less))))) (λ f. f)
      (told (bears (name_of m) (d (at n))))

  -- Nor does a slot that was given a name that meant none.
  not_new : (n m : Span) (b : Bytes) → l.entries ≤ at n → at m < l.entries → (bears (name_of m) b ≡ true → name_of n ≡ name_of m)
      → bears (name_of m) b ≡ false
  not_new n m b none less h = ⊎_elim (λ e. absurd (let same : at n ≡ at m = same_at m n (h e) in omega arith)) (λ f. f) (told (bears (name_of m) b))

  module _ {ds : List Store} {f : Fat} {o : Change} {t : Card} (end : Ended size c ds f o t) (m : Span) where
    -- A slot that is edited, and one that is not.
    edited : (k : ℕ) → k < l.entries → (b : Bytes) → effect o d k ≡ b → bears (name_of m) b ≡ bears (name_of m) (d k)
        → bears (name_of m) (slot_at l t k) ≡ bears (name_of m) (d k)
    edited k less b e h = same_bears (slot_at l t k) b (head_is st end k less b e) (name_of m) ∙ h

    module _ {x : ℕ} {b : Bytes} (r : Resizes c o x b) where
      -- One slot edited, whose name stays.
      pub resized_means : slot_of v t m ≡ at m
      resized_means = means_same v c m t (λ k less. ⊎_elim
          (λ q. edited k less b (ap (effect o d) q ∙ r.slot) (same_bears b (d x) r.head (name_of m) ∙ ap (λ k. bears (name_of m) (d k)) (sym q)))
          (λ ne. edited k less (d k) (r.others k ne) refl) (same? k x))

      -- What is read by the name of the file in it.
      pub resized_holds : Meant v c m x → (n : ℕ) (content : Bytes) → file_size b ≡ n → proper l t x ≡ true
          → ((i : ℕ) → i < n → file_byte l t (file_at l t x) i ≡ content i) → Holds (window size t) m n content
      resized_holds found n content sized keeps same =
          let new : Bytes = slot_at l t x in
          let less : x < l.entries = found.in_root in
          holds_of (window size t) v end.cleans m x
          (record {
            ok = found.ok;
            at = resized_means ∙ found.at;
            in_root = less;
            plain = same_directory new b (head_is st end x less b r.slot) ∙ same_directory b (d x) r.head ∙ found.plain;
            keeps = keeps;
          })
          n content (size_is st end x less b r.slot ∙ sized) same

  pub create_means : (n t : Span) {sec : ℕ} (p : Program) (g : Created st is n t sec p) {u : Card}
      (end : Ended size c [] (first_fat c) (creates_as st n t (stamp_of sec)) u) (m : Span)
      → at m < l.entries → slot_of v u m ≡ at m
  create_means n t {sec} p g {u} end m there = means_same v c m u (λ k less. ⊎_elim
      (λ q. edited end m k less (new_entry (name_of n) (stamp_of sec)) (ap (effect (creates_as st n t (stamp_of sec)) d) q ∙ new_slot st is n t p g end)
      (not_new n m (new_entry (name_of n) (stamp_of sec)) g.unused there (new_named (name_of m) (name_of n) (stamp_of sec) (name_fits n g.ok))
      ∙ sym (ap (λ k. bears (name_of m) (d k)) q ∙ vacant_bears (name_of m) (d (run_end l c t)) (new_vacant st is n t p g end (run_end l c t)
      (omega arith, omega arith)))))
      (λ ne. edited end m k less (effect (creates_as st n t (stamp_of sec)) d k) refl (unlisted_bears (name_of m) (d k) _ (other_slot st is n t p g end k ne)))
      (same? k (run_end l c t)))

  pub rename_means : (n n' : Span) (p : Program) (g : Renamed st is n n' p) {t : Card}
      (end : Ended size c [] (first_fat c) (renames_as st (at n) g.live n') t) (m : Span)
      → at m < l.entries → (at m ≡ at n → ⊥) → slot_of v t m ≡ at m
  rename_means n n' p g {t} end m there other = means_same v c m t (λ k less. ⊎_elim
      (λ q. edited end m k less (mark_deleted (d (at n))) (ap (effect (renames_as st (at n) g.live n') d) q ∙ left_slot st is n n' p g end)
      (deleted_bears (name_of m) (d (at n)) ∙ sym (ap (λ k. bears (name_of m) (d k)) q ∙ not_mine n m g.live.in_root other)))
      (λ ne. ⊎_elim
      (λ q. edited end m k less (set_name (name_of n') (d (at n))) (ap (effect (renames_as st (at n) g.live n') d) q ∙ named_slot st is n n' p g end)
      (not_new n' m (set_name (name_of n') (d (at n))) g.unused there (named_only (name_of m) (name_of n') (d (at n)) (name_fits n' g.new_ok))
      ∙ sym (ap (λ k. bears (name_of m) (d k)) q ∙ vacant_bears (name_of m) (d z) (free_vacant l c g.room))))
      (λ ne'. edited end m k less (effect (renames_as st (at n) g.live n') d k) refl
      (unlisted_bears (name_of m) (d k) _ (rest_slot st is n n' p g end k ne ne'))) (same? k z))
      (same? k (at n)))

  pub delete_means : (n : Span) (p : Program) (g : Deleted st is n p) {t : Card}
      (end : Ended size c [] (release (ks st (at n) g.it.live g.it.keeps) (first_fat c)) (deletes_as st (at n) g.it.live g.it.keeps)
      t) (m : Span)
      → (at m ≡ at n → ⊥) → slot_of v t m ≡ at m
  delete_means n p g {t} end m other = means_same v c m t (λ k less. ⊎_elim
      (λ q. edited end m k less (mark_deleted (d (at n))) (ap (effect (deletes_as st (at n) g.it.live g.it.keeps) d) q ∙ gone_slot st is n p g end)
      (deleted_bears (name_of m) (d (at n)) ∙ sym (ap (λ k. bears (name_of m) (d k)) q ∙ not_mine n m g.it.live.in_root other)))
      (λ ne. edited end m k less (effect (deletes_as st (at n) g.it.live g.it.keeps) d k) refl
      (unlisted_bears (name_of m) (d k) _ (kept_slot st is n p g end k ne))) (same? k (at n)))
