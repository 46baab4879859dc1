-- Every call on a clean card, accepted or refused, has a program of which all is shown.
use Prim.Native.Nat.{ℕ, ◌+◌, ◌-◌}
use native.Mathlib.Omega.{arith}
use mathlib.Core.Path.{◌≡◌, refl, sym, ap, ◌∙◌, subst}
use mathlib.Core.Logic.{⊎_elim}
use mathlib.Core.List.{List, []}
use lib.ListN.{drop, take}
use lib.Seq.{take_all}
use Rattle.model.specs.Bytes.{Span}
use Rattle.model.specs.Sector.{Card, after}
use Rattle.model.specs.Fat.{Fat, entry, release}
use Rattle.model.specs.Chain.{needed, chain}
use Rattle.model.specs.Root.{file_at, slot_at, first_cluster, file_size}
use Rattle.model.specs.Calendar.{stamp_of}
use Rattle.model.specs.Ground.{Answer, refused, granted}
use Rattle.model.specs.Volume.{clean}
use Rattle.model.specs.Promises.{Shape}
use Rattle.model.specs.declared.Layout.{Layout}
use Rattle.model.specs.declared.Pending.{Pending}
use Rattle.model.specs.declared.Volume.{Volume}
use Rattle.operations.specs.Program.{Program, stores, ending}
use Rattle.operations.specs.Plan.{no_text, clusters_of, new_clusters, added, fresh_clusters}
use Rattle.operations.specs.Calls.{Call, taken_by, released_by, slot_of, creates, creates_long, renames, deletes, named_file, truncates, appends, replaces}
use Rattle.operations.specs.Calls.{recover, recovers, plan}
use Rattle.operations.specs.Outcome.{left, made, largest}
use Rattle.safety.specs.Cuts.{program_of}
use Rattle.model.proofs.Calendar.{stamp_small}
use Rattle.model.proofs.All.{All, all_take}
use Rattle.model.proofs.Lists.{drop_all}
use Rattle.model.proofs.Walks.{chain_length}
use Rattle.model.proofs.Volumes.{window, volume_of, layout_of, first_fat}
use Rattle.safety.proofs.Start.{Start, shape_of}
use Rattle.safety.proofs.Before.{start_rests}
use Rattle.safety.proofs.Clusters.{Plain, none_free, released_free, shorten_free, extend_free, exchange_free}
use Rattle.safety.proofs.Fair.{Fair, idle_fair, plain_fair, operate_fair}
use Rattle.safety.proofs.Operations.{old_plain, old_busy}
use Rattle.safety.proofs.Extents.{ds, new_plain, few_data, append_spared, replace_spared}
use Rattle.safety.proofs.Supplied.{creates_as, create_supplies, renames_as, rename_supplies, ks, deletes_as, delete_supplies, cut_fat, truncates_as}
use Rattle.safety.proofs.Supplied.{truncate_supplies, longer_fat, updates_as, append_supplies, exchanged_fat, replaces_as, replace_supplies}
use Rattle.safety.proofs.Granted.{Created, create_granted, long_granted, rename_granted, delete_granted}
use Rattle.safety.proofs.Granted.{Truncated, truncate_granted, Growth, Appended, append_granted}
use Rattle.safety.proofs.Granted.{Renewal, Replaced, replace_granted}

-- A refused call takes and releases no cluster.
abbrev pub if_granted : Answer Program → List ℕ → List ℕ
if_granted (refused g) ks = []
if_granted (granted p) ks = ks

module _ {size : ℕ} {c : Card} (st : Start size c) (is : clean (window size c) ≡ granted (volume_of c Pending.Nothing)) where
  abbrev l : Layout
  l = layout_of c

  abbrev v : Volume
  v = volume_of c Pending.Nothing

  abbrev fat : Fat
  fat = first_fat c

  abbrev at : Span → ℕ
  at n = slot_of v c n

  sh : Shape l
  sh = shape_of st

  -- What is shown of a call that answers a.
  abbrev Shown : Call → Answer Program → Type 1
  Shown k a = Fair size c (if_granted a (taken_by v c k)) (if_granted a (released_by v c k)) (program_of a)

  made_shown : (n t : Span) (sec : ℕ) (p : Program) → Created st is n t sec p → Fair size c [] [] p
  made_shown n t sec p a =
      subst (Fair size c [] []) a.same
      (plain_fair st fat (creates_as st n t (stamp_of sec)) (create_supplies st n t (stamp_of sec) a.ok a.fine a.room (stamp_small sec
      a.timely)) [] [] (none_free fat))

  create_shown : (n : Span) (sec : ℕ) (a : Answer Program) → plan (creates n sec) (window size c) ≡ a → Shown (creates n sec) a
  unfolding taken_by released_by
  create_shown n sec (refused g) h = idle_fair st is
  create_shown n sec (granted p) h = made_shown n no_text sec p (create_granted st is n sec p h)

  long_shown : (n t : Span) (sec : ℕ) (a : Answer Program) → plan (creates_long n t sec) (window size c) ≡ a → Shown (creates_long n t sec) a
  unfolding taken_by released_by
  long_shown n t sec (refused g) h = idle_fair st is
  long_shown n t sec (granted p) h = made_shown n t sec p (long_granted st is n t sec p h)

  rename_shown : (n m : Span) (a : Answer Program) → plan (renames n m) (window size c) ≡ a → Shown (renames n m) a
  unfolding taken_by released_by
  rename_shown n m (refused g) h = idle_fair st is
  rename_shown n m (granted p) h =
      let a = rename_granted st is n m p h in
      subst (Fair size c [] []) a.same
      (plain_fair st fat (renames_as st (at n) a.live m) (rename_supplies st (at n) a.live m a.new_ok a.room) [] [] (none_free fat))

  delete_shown : (n : Span) (a : Answer Program) → plan (deletes n) (window size c) ≡ a → Shown (deletes n) a
  unfolding taken_by released_by named_file clusters_of file_at
  delete_shown n (refused g) h = idle_fair st is
  delete_shown n (granted p) h =
      let a = delete_granted st is n p h in
      let live = a.it.live in
      let keeps = a.it.keeps in
      let js : List ℕ = ks st (at n) live keeps in
      subst (Fair size c [] js) a.same (plain_fair st (release js fat) (deletes_as st (at n) live keeps) (delete_supplies st (at n) live keeps) []
      js (released_free js fat))

  -- A call that stores nothing takes and releases nothing.
  idle_shown : (ts rs : List ℕ) (p : Program) → ts ≡ [] → rs ≡ [] → p ≡ ending [] → Fair size c ts rs p
  idle_shown ts rs p t r e = rw (t, r, e) (idle_fair st is)

  nothing_freed : (s m : ℕ) → file_size (slot_at l c s) ≡ m → drop (needed l m) (clusters_of l fat (file_at l c s)) ≡ []
  unfolding clusters_of file_at
  nothing_freed s m e = drop_all (needed l m) (chain (entry fat) (needed l (file_size (slot_at l c s))) (first_cluster (slot_at l c s)))
      (rw (chain_length (entry fat) (needed l (file_size (slot_at l c s))) (first_cluster (slot_at l c s)), e) (omega arith))

  truncate_shown : (n : Span) (m sec : ℕ) (a : Answer Program) → plan (truncates n m sec) (window size c) ≡ a → Shown (truncates n m sec) a
  unfolding taken_by released_by named_file clusters_of file_at
  truncate_shown n m sec (refused g) h = idle_fair st is
  truncate_shown n m sec (granted p) h =
      let a : Truncated st is n m sec p = truncate_granted st is n m sec p h in
      let live = a.it.live in
      let keeps = a.it.keeps in
      let js : List ℕ = ks st (at n) live keeps in
      let kept : All (Plain l fat) js = old_plain st (at n) live keeps in
      let busy : All (λ k. entry fat k ≡ 0 → ⊥) js = old_busy st (at n) live keeps in
      let i : ℕ = needed l m in
      ⊎_elim
      (λ z. idle_shown [] (drop i js) p refl (nothing_freed (at n) m (omega (arith, z.0, a.less))) z.1)
      (λ z. subst (Fair size c [] (drop i js)) z.1
      (plain_fair st (cut_fat st (at n) live keeps m) (truncates_as st (at n) live keeps m (stamp_of sec)) (truncate_supplies st (at n) live keeps m
      (stamp_of sec) a.less (stamp_small sec a.timely)) [] (drop i js)
      (shorten_free l sh.few fat (take i js) (all_take (Plain l fat) i js kept) (all_take (λ k. entry fat k ≡ 0 → ⊥) i js busy) (drop i js))))
      a.same

  nothing_taken : (s n : ℕ) → n ≡ 0 → new_clusters v c (file_at l c s) n ≡ []
  unfolding new_clusters added
  nothing_taken s n z =
      let same : (file_at l c s).size + n ≡ (file_at l c s).size = omega arith in
      let none : needed l ((file_at l c s).size + n) - needed l (file_at l c s).size ≡ 0 = rw same (omega arith) in
      rw none

  append_shown : (n d : Span) (sec : ℕ) (a : Answer Program) → plan (appends n d sec) (window size c) ≡ a → Shown (appends n d sec) a
  unfolding taken_by released_by named_file
  append_shown n d sec (refused g) h = idle_fair st is
  append_shown n d sec (granted p) h =
      let a : Appended st is n d sec p = append_granted st is n d sec p h in
      let s : ℕ = at n in
      let live = a.it.live in
      let keeps = a.it.keeps in
      let x : Growth st is n d a.it = a.extent in
      let new : List ℕ = new_clusters v c (file_at l c s) d.size in
      ⊎_elim
      (λ z. idle_shown new [] p (nothing_taken s d.size z.0) refl z.1)
      (λ z. subst (Fair size c new []) z.1
      (operate_fair st (ds st x) (longer_fat st s live keeps x) (updates_as st s live keeps x (stamp_of sec)) (append_supplies st s live keeps x
      (stamp_of sec) (stamp_small sec a.timely)) new [] (few_data st x)
      (extend_free l sh.few fat (ks st s live keeps) (old_plain st s live keeps) (old_busy st s live keeps) new (new_plain st x))
      (append_spared st s live keeps x a.it.file)))
      a.same

  replace_shown : (n d : Span) (sec : ℕ) (a : Answer Program) → plan (replaces n d sec) (window size c) ≡ a → Shown (replaces n d sec) a
  unfolding taken_by released_by named_file clusters_of file_at
  replace_shown n d sec (refused g) h = idle_fair st is
  replace_shown n d sec (granted p) h =
      let a : Replaced st is n d sec p = replace_granted st is n d sec p h in
      let live = a.it.live in
      let keeps = a.it.keeps in
      let x : Renewal st is d = a.extent in
      subst (Fair size c _ _) a.same
      (operate_fair st (ds st x) (exchanged_fat st (at n) live keeps x) (replaces_as st (at n) live keeps x (stamp_of sec)) (replace_supplies st
      (at n) live keeps x (stamp_of sec) (stamp_small sec a.timely)) _ _
      (few_data st x) (exchange_free l sh.few fat (ks st (at n) live keeps) (fresh_clusters v c d.size) (new_plain st x)) (replace_spared st x))

  -- Recovery of a clean card stores nothing.
  recover_shown : (a : Answer Program) → recover (window size c) ≡ a → Shown recovers a
  unfolding taken_by released_by plan
  recover_shown a h = subst (Shown recovers) (sym (start_rests st) ∙ h) (idle_fair st is)

  pub shown : (k : Call) → Shown k (plan k (window size c))
  unfolding plan
  shown (creates n sec) = create_shown n sec (plan (creates n sec) (window size c)) refl
  shown (creates_long n t sec) = long_shown n t sec (plan (creates_long n t sec) (window size c)) refl
  shown (appends n d sec) = append_shown n d sec (plan (appends n d sec) (window size c)) refl
  shown (truncates n m sec) = truncate_shown n m sec (plan (truncates n m sec) (window size c)) refl
  shown (deletes n) = delete_shown n (plan (deletes n) (window size c)) refl
  shown (renames n m) = rename_shown n m (plan (renames n m) (window size c)) refl
  shown (replaces n d sec) = replace_shown n d sec (plan (replaces n d sec) (window size c)) refl
  shown recovers = recover_shown (recover (window size c)) refl

  -- With the largest limit all is stored.
  pub left_is : (k : Call) (p : Program) → plan k (window size c) ≡ granted p → left largest k (window size c) ≡ window size (after (stores p) c)
  unfolding left made
  left_is k p e = rw e (ap (λ ss. window size (after ss c)) (take_all largest (stores p) (rw e at (shown k).short)))
