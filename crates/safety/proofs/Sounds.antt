-- Every call on a sound card keeps the files that it does not name, and soundness.
use Prim.Native.Nat.{ℕ, ◌-◌, ◌≤◌, ◌<◌, ◌+◌}
use native.Mathlib.Omega.{arith}
use mathlib.Core.Path.{◌≡◌, refl, sym, ap, ◌∙◌, subst}
use mathlib.Core.Logic.{◌⊎◌, inl, inr, ⊎_elim}
use mathlib.Core.List.{List, [], ◌∷◌, ◌++◌}
use mathlib.Core.Bool.{true}
use lib.Dec.{eqb}
use lib.ListN.{take, drop}
use borrow.Author.Tests.{eq-eqb, ne_eqb}
use Rattle.model.specs.Bytes.{Bytes, Span, pick}
use Rattle.model.specs.Sector.{Card, Window, Store, after}
use Rattle.model.specs.Fat.{Fat, entry, release}
use Rattle.model.specs.Chain.{needed}
use Rattle.model.specs.Root.{Directory, slot_at, free_slot, is_file, file_size, file_at}
use Rattle.model.specs.Calendar.{stamp_of}
use Rattle.model.specs.Ground.{Answer, refused, granted}
use Rattle.model.specs.Volume.{clean}
use Rattle.model.specs.Record.{Change}
use Rattle.model.specs.declared.Layout.{Layout}
use Rattle.model.specs.declared.Pending.{Pending}
use Rattle.model.specs.declared.Volume.{Volume}
use Rattle.operations.specs.Program.{Program, ending}
use Rattle.operations.specs.Finish.{new_entry, mark_deleted}
use Rattle.operations.specs.Plan.{clusters_of, new_clusters, fresh_clusters, no_text, slots_for}
use Rattle.operations.specs.Calls.{Call, plan, creates, creates_long, appends, truncates, deletes, renames, replaces, recovers, slot_of, name_of, run_end}
use Rattle.operations.specs.Outcome.{left, made, largest}
use Rattle.safety.specs.Sound.{Sound, chain_of}
use Rattle.safety.specs.Saved.{Names, Holds, SameFile, AllKeep}
use Rattle.model.proofs.Calendar.{stamp_small}
use Rattle.model.proofs.Tests.{clash, same?}
use Rattle.model.proofs.All.{All, all_map, all_take, all_drop, all_append}
use Rattle.model.proofs.Chains.{Used}
use Rattle.model.proofs.Volumes.{window, layout_of, first_fat, volume_of}
use Rattle.safety.proofs.Start.{Start}
use Rattle.safety.proofs.Before.{start_rests}
use Rattle.safety.proofs.Clusters.{Fresh}
use Rattle.safety.proofs.Files.{SparesFiles, file_used, no_data, chains_apart}
use Rattle.safety.proofs.Theorem.{after_calls}
use Rattle.safety.proofs.Linked.{Off, all_zip, release_other, shorten_other, extend_other, exchange_other}
use Rattle.safety.proofs.Ended.{Ended, ended, SameHead, same_size, same_directory, same_is_file}
use Rattle.safety.proofs.Chained.{HasChain, empty_then}
use Rattle.safety.proofs.Readings.{Read, holds_read, holds_of}
use Rattle.safety.proofs.Slots.{Resizes, new_first, new_size, deleted_file, unlisted_file}
use Rattle.safety.proofs.Supplied.{creates_as, renames_as, deletes_as, truncates_as, truncate_supplies, cut_fat, updates_as}
use Rattle.safety.proofs.Supplied.{append_supplies, longer_fat, replaces_as, exchanged_fat, replace_supplies, ks}
use Rattle.safety.proofs.Granted.{file_at_name, Created, create_granted, Renamed, rename_granted, NamedFile, Deleted, delete_granted, Truncated}
use Rattle.safety.proofs.Granted.{truncate_granted, Growth, Appended, append_granted, Renewal, Replaced, replace_granted, long_granted}
use Rattle.safety.proofs.Moved.{finish_with, new_slot, left_slot, rest_slot, rename_chain, rename_end, gone_slot, kept_slot, delete_end, new_in}
use Rattle.safety.proofs.Moved.{other_slot, create_end}
use Rattle.safety.proofs.Cut.{cut_edit, cut_chain}
use Rattle.safety.proofs.Grown.{grown_edit, grown_chain}
use Rattle.safety.proofs.Replaced.{replaced_edit, replaced_chain}
use Rattle.safety.proofs.Others.{file_not_free, Spares, Owner, owned_old, other_same, Owned, owned_by, file_by, file_back, other_owned}
use Rattle.safety.proofs.Others.{sound_then, file_live}
use Rattle.safety.proofs.Means.{resized_means, create_means, rename_means, delete_means}
use Rattle.safety.proofs.Saved.{started, volume_is}
use Rattle.safety.proofs.Extents.{ds, new_off, append_spared, replace_spared}
use Rattle.model.proofs.FreeRuns.{run_not_live}

-- What is kept on a card t that a call leaves of c.
record Keeping (v : Volume) (c : Card) (k : Call) (t : Card) : Type 0 where
  others : (s : ℕ) → s < v.layout.entries → is_file (slot_at v.layout c s) ≡ true → (Names v c k s → ⊥) → SameFile v.layout c t s
  means : (m : Span) → slot_of v c m < v.layout.entries → (Names v c k (slot_of v c m) → ⊥) → slot_of v t m ≡ slot_of v c m
  sound : Sound v.layout t

-- The same entries.
same_fat : (f : Fat) (js : List ℕ) → All (λ k. entry f k ≡ entry f k) js
same_fat f [] = tt
same_fat f (j ∷ js) = (refl, same_fat f js)

module _ {size : ℕ} {c : Card} (st : Start size c) (is : clean (window size c) ≡ granted (volume_of c Pending.Nothing)) (sound : Sound (layout_of c) c) where
  abbrev l : Layout
  l = layout_of c

  abbrev v : Volume
  v = volume_of c Pending.Nothing

  abbrev w : Window
  w = window size c

  abbrev fat : Fat
  fat = first_fat c

  abbrev d : Directory
  d = slot_at l c

  abbrev at : Span → ℕ
  at n = slot_of v c n

  abbrev z : ℕ
  z = free_slot l c

  idle_keeps : (k : Call) → Keeping v c k c
  idle_keeps k = record { others = λ s less file ne. record { slot = λ j small. refl; bytes = λ i small. refl }; means = λ m less ne. refl; sound = sound }

  none_keeps : (k : Call) → Keeping v c k (after [] c)
  unfolding after
  none_keeps k = idle_keeps k

  abbrev AllKept : Call → Window → Type 0
  AllKept k x = Keeping v c k x.card

  -- ---- create

  module _ (n t : Span) {sec : ℕ} (p : Program) (g : Created st is n t sec p) {u : Card} (end : Ended size c [] fat (creates_as st n t (stamp_of sec)) u) where
    abbrev new : ℕ
    new = run_end l c t

    in_root : new < l.entries
    in_root = new_in st is n t p g end

    create_spares : Spares c [] fat (creates_as st n t (stamp_of sec)) (at n)
    create_spares = record {
      slot = λ s less file ne. unlisted_file (d s) _ (other_slot st is n t p g end s (λ e. run_not_live l c (slots_for t + 1) g.room s
          (file_live l c s less file) (omega arith) (omega arith))) file;
      fat = λ s less file ne. same_fat fat (chain_of l c s);
      bytes = no_data st sound;
    }

    create_owned : (s : ℕ) → s < l.entries → is_file (slot_at l u s) ≡ true → (s ≡ new) ⊎ (s ≡ new → ⊥) → Owned st sound create_spares end (λ r. r) new s
    create_owned s less file (inl e) = subst (λ s. Owned st sound create_spares end (λ r. r) new s) (sym e)
        (owned_by st sound create_spares end (λ r. r) new new []
        (empty_then st end new in_root (new_entry (name_of n) (stamp_of sec)) (new_slot st is n t p g end) (new_first (name_of n) (stamp_of sec))
        (new_size (name_of n) (stamp_of sec))) tt)
    create_owned s less file (inr ne) =
        other_owned st sound create_spares end (λ r. r) new s less
        (file_back st sound create_spares end (λ r. r) new s less (other_slot st is n t p g end s ne) file)
        (λ e. omega (arith, g.unused)) refl

    -- A create names no file of the card.
    create_keeps : (k : Call) → Keeping v c k u
    create_keeps k = record {
      others = λ s less file ne. other_same st sound create_spares end s less file (λ e. omega (arith, g.unused));
      means = λ m less ne. create_means st is n t p g end m less;
      sound = sound_then st sound create_spares end (λ r. r) new (λ s less file. create_owned s less file (same? s new));
    }

  -- ---- rename

  module _ (n m : Span) (p : Program) (g : Renamed st is n m p) {t : Card} (end : Ended size c [] fat (renames_as st (at n) g.live m) t) where
    rename_spares : Spares c [] fat (renames_as st (at n) g.live m) (at n)
    rename_spares = record {
      slot = λ s less file ne. unlisted_file (d s) _ (rest_slot st is n m p g end s ne (file_not_free l c s less file g.room)) file;
      fat = λ s less file ne. same_fat fat (chain_of l c s);
      bytes = no_data st sound;
    }

    -- The old slot becomes the new one.
    abbrev moved : ℕ → ℕ
    moved r = pick (eqb r (at n)) z r

    x_file : is_file (d (at n)) ≡ true
    x_file = file_at_name st is n g.live.in_root g.plain

    rename_owned : (s : ℕ) → s < l.entries → is_file (slot_at l t s) ≡ true → (s ≡ at n) ⊎ (s ≡ at n → ⊥) → (s ≡ z) ⊎ (s ≡ z → ⊥)
        → Owned st sound rename_spares end moved z s
    rename_owned s less file (inl e) b =
        clash (file_by st sound rename_spares end moved z (at n) g.live.in_root (mark_deleted (d (at n))) (left_slot st is n m p g end)
        (rw e at file)) (deleted_file (d (at n)))
    rename_owned s less file (inr ne) (inl e) = subst (λ s. Owned st sound rename_spares end moved z s) (sym e)
        (owned_by st sound rename_spares end moved z z (chain_of l c (at n)) (rename_chain st is n m p g end (sound.chains (at n) g.live.in_root x_file))
        (owned_old st sound moved z z (at n) g.live.in_root x_file (ap (λ t. pick t z (at n)) (eq-eqb (at n) (at n) refl))))
    rename_owned s less file (inr ne) (inr other) =
        other_owned st sound rename_spares end moved z s less
        (file_back st sound rename_spares end moved z s less (rest_slot st is n m p g end s ne other) file) ne
        (ap (λ t. pick t z s) (ne_eqb s (at n) ne))

    rename_keeps : Keeping v c (renames n m) t
    rename_keeps = record {
      others = other_same st sound rename_spares end;
      means = λ name less ne. rename_means st is n m p g end name less ne;
      sound = sound_then st sound rename_spares end moved z (λ s less file. rename_owned s less file (same? s (at n)) (same? s z));
    }

  -- ---- calls on a file

  -- The entries along another file's chain, under a change that leaves clusters off this file's.
  spared_fat : (x : ℕ) (f : Fat) → x < l.entries → is_file (d x) ≡ true → ((k : ℕ) → Used l (entry fat) k → Off (chain_of l c x) k → entry f k ≡ entry fat k)
      → (s : ℕ) → s < l.entries → is_file (d s) ≡ true → (s ≡ x → ⊥) → All (λ k. entry f k ≡ entry fat k) (chain_of l c s)
  spared_fat x f in_root it h s less file ne =
      all_zip (Used l (entry fat)) (Off (chain_of l c x)) (λ k. entry f k ≡ entry fat k) h (chain_of l c s) (file_used st s (sound.chains s less file))
      (chains_apart l c sound s x less in_root file it ne)

  module _ (n : Span) (p : Program) (g : Deleted st is n p) {t : Card}
      (end : Ended size c [] (release (ks st (at n) g.it.live g.it.keeps) fat) (deletes_as st (at n) g.it.live g.it.keeps) t) where
    abbrev own : List ℕ
    own = ks st (at n) g.it.live g.it.keeps

    delete_spares : Spares c [] (release own fat) (deletes_as st (at n) g.it.live g.it.keeps) (at n)
    unfolding chain_of clusters_of file_at
    delete_spares = record {
      slot = λ s less file ne. unlisted_file (d s) _ (kept_slot st is n p g end s ne) file;
      fat = spared_fat (at n) (release own fat) g.it.live.in_root g.it.file (λ k u off. release_other own fat k off);
      bytes = no_data st sound;
    }

    delete_owned : (s : ℕ) → s < l.entries → is_file (slot_at l t s) ≡ true → (s ≡ at n) ⊎ (s ≡ at n → ⊥) → Owned st sound delete_spares end (λ r. r) z s
    delete_owned s less file (inl e) = clash
        (file_by st sound delete_spares end (λ r. r) z (at n) g.it.live.in_root (mark_deleted (d (at n))) (gone_slot st is n p g end)
        (rw e at file)) (deleted_file (d (at n)))
    delete_owned s less file (inr ne) =
        other_owned st sound delete_spares end (λ r. r) z s less
        (file_back st sound delete_spares end (λ r. r) z s less (kept_slot st is n p g end s ne) file) ne refl

    delete_keeps : Keeping v c (deletes n) t
    delete_keeps = record {
      others = other_same st sound delete_spares end;
      means = λ name less ne. delete_means st is n p g end name ne;
      sound = sound_then st sound delete_spares end (λ r. r) z (λ s less file. delete_owned s less file (same? s (at n)));
    }

  -- An operation that edits the slot of the file alone, and changes no entry of a cluster in use but along its chain. The file's clusters
  -- then were its own, or are new.
  module _ (n : Span) (g : NamedFile st is n) {ds : List Store} {f : Fat} {o : Change} {t : Card} (end : Ended size c ds f o t) {b : Bytes}
      (edit : Resizes c o (at n) b) (else_same : (k : ℕ) → Used l (entry fat) k → Off (chain_of l c (at n)) k → entry f k ≡ entry fat k)
      (spared : SparesFiles c ds) (js : List ℕ) (has : HasChain l t (at n) js) (owners : All (Owner c (λ r. r) (at n) (at n)) js) where
    resized_spares : Spares c ds f o (at n)
    resized_spares = record {
      slot = λ s less file ne. edit.others s ne;
      fat = spared_fat (at n) f g.live.in_root g.file else_same;
      bytes = spared;
    }

    resized_owned : (s : ℕ) → s < l.entries → is_file (slot_at l t s) ≡ true → (s ≡ at n) ⊎ (s ≡ at n → ⊥)
        → Owned st sound resized_spares end (λ r. r) (at n) s
    resized_owned s less file (inl e) = subst (λ s. Owned st sound resized_spares end (λ r. r) (at n) s) (sym e)
        (owned_by st sound resized_spares end (λ r. r) (at n) (at n) js has owners)
    resized_owned s less file (inr ne) =
        other_owned st sound resized_spares end (λ r. r) (at n) s less
        (file_by st sound resized_spares end (λ r. r) (at n) s less (d s) (edit.others s ne) file) ne refl

    resized_keeps : (k : Call) → ((s : ℕ) → s ≡ at n → Names v c k s) → Keeping v c k t
    resized_keeps k names = record {
      others = λ s less file ne. other_same st sound resized_spares end s less file (λ e. ne (names s e));
      means = λ name less ne. resized_means st is end name edit;
      sound = sound_then st sound resized_spares end (λ r. r) (at n) (λ s less file. resized_owned s less file (same? s (at n)));
    }

  -- A file's own clusters, and free ones that it takes.
  old_owned : (s : ℕ) → s < l.entries → is_file (d s) ≡ true → All (Owner c (λ r. r) s s) (chain_of l c s)
  old_owned s less file = owned_old st sound (λ r. r) s s s less file refl

  new_owned : (s : ℕ) (js : List ℕ) → All (Fresh l fat) js → All (Owner c (λ r. r) s s) js
  new_owned s js a = all_map (Fresh l fat) (Owner c (λ r. r) s s) (λ k q. Owner.new q.none refl) js a

  cut_keeps : (n : Span) (m : ℕ) (g : NamedFile st is n) (shorter : m < file_size (d (at n))) {sec : ℕ} {t : Card}
      → Ended size c [] (cut_fat st (at n) g.live g.keeps m) (truncates_as st (at n) g.live g.keeps m (stamp_of sec)) t
      → Keeping v c (truncates n m sec) t
  unfolding chain_of clusters_of file_at
  cut_keeps n m g shorter {sec} end =
      let s : ℕ = at n in
      let mine : List ℕ = ks st s g.live g.keeps in
      let i : ℕ = needed l m in
      resized_keeps n g end (cut_edit st s g.live g.keeps m shorter end)
      (λ k u off. shorten_other (take i mine) (drop i mine) fat k (all_take (λ j. k ≡ j → ⊥) i mine off) (all_drop (λ j. k ≡ j → ⊥) i mine off))
      (no_data st sound) (take i mine) (cut_chain st s g.live g.keeps m shorter end)
      (all_take (Owner c (λ r. r) s s) i mine (old_owned s g.live.in_root g.file)) (truncates n m sec) (λ s e. e)

  append_keeps : (n b : Span) (g : NamedFile st is n) (x : Growth st is n b g) (some : b.size ≡ 0 → ⊥) {sec : ℕ} {t : Card}
      → Ended size c (ds st x) (longer_fat st (at n) g.live g.keeps x) (updates_as st (at n) g.live g.keeps x (stamp_of sec)) t
      → Keeping v c (appends n b sec) t
  unfolding chain_of clusters_of file_at
  append_keeps n b g x some {sec} end =
      let s : ℕ = at n in
      let old : List ℕ = ks st s g.live g.keeps in
      let new : List ℕ = new_clusters v c (file_at l c s) b.size in
      resized_keeps n g end (grown_edit st s g.live g.keeps x some end) (λ k u off. extend_other old new fat k off (new_off st x k u))
      (append_spared st s g.live g.keeps x g.file sound) (old ++ new) (grown_chain st s g.live g.keeps x some end)
      (all_append (Owner c (λ r. r) s s) old new (old_owned s g.live.in_root g.file) (new_owned s new x.fresh)) (appends n b sec) (λ s e. e)

  replace_keeps : (n b : Span) (g : NamedFile st is n) (x : Renewal st is b) {sec : ℕ} {t : Card}
      → Ended size c (ds st x) (exchanged_fat st (at n) g.live g.keeps x) (replaces_as st (at n) g.live g.keeps x (stamp_of sec)) t
      → Keeping v c (replaces n b sec) t
  unfolding chain_of clusters_of file_at
  replace_keeps n b g x {sec} end =
      let s : ℕ = at n in
      let new : List ℕ = fresh_clusters v c b.size in
      resized_keeps n g end (replaced_edit st s g.live g.keeps x end)
      (λ k u off. exchange_other (ks st s g.live g.keeps) new fat k off (new_off st x k u)) (replace_spared st x sound)
      new (replaced_chain st s g.live g.keeps x end) (new_owned s new x.fresh) (replaces n b sec) (λ s e. e)

  -- ---- every call

  granted_keeps : (k : Call) (p : Program) → plan k w ≡ granted p → AllKept k (left largest k w)
  granted_keeps (creates n sec) p h =
      let g : Created st is n no_text sec p = create_granted st is n sec p h in
      finish_with st is (AllKept (creates n sec)) (creates n sec) p _ h g.same (create_keeps n no_text p g (create_end st is n no_text p g) (creates n sec))
  granted_keeps (creates_long n t sec) p h =
      let g : Created st is n t sec p = long_granted st is n t sec p h in
      finish_with st is (AllKept (creates_long n t sec)) (creates_long n t sec) p _ h g.same (create_keeps n t p g (create_end st is n t p g)
      (creates_long n t sec))
  granted_keeps (renames n m) p h =
      let g : Renamed st is n m p = rename_granted st is n m p h in
      finish_with st is (AllKept (renames n m)) (renames n m) p _ h g.same (rename_keeps n m p g (rename_end st is n m p g))
  granted_keeps (deletes n) p h =
      let g : Deleted st is n p = delete_granted st is n p h in
      finish_with st is (AllKept (deletes n)) (deletes n) p _ h g.same (delete_keeps n p g (delete_end st is n p g))
  granted_keeps (truncates n m sec) p h =
      let g : Truncated st is n m sec p = truncate_granted st is n m sec p h in
      let f : NamedFile st is n = g.it in
      let le : m ≤ file_size (d (at n)) = g.less in
      ⊎_elim
      (λ a. finish_with st is (AllKept (truncates n m sec)) (truncates n m sec) p (ending []) h (sym a.1) (none_keeps (truncates n m sec)))
      (λ a. let some : file_size (d (at n)) - m ≡ 0 → ⊥ = a.0 in
      finish_with st is (AllKept (truncates n m sec)) (truncates n m sec) p _ h a.1
      (cut_keeps n m f (omega arith) (ended st [] _ (truncates_as st (at n) f.live f.keeps m (stamp_of sec)) (truncate_supplies st (at n) f.live
      f.keeps m (stamp_of sec) le (stamp_small sec g.timely)))))
      g.same
  granted_keeps (appends n b sec) p h =
      let g : Appended st is n b sec p = append_granted st is n b sec p h in
      let f : NamedFile st is n = g.it in
      let x : Growth st is n b f = g.extent in
      ⊎_elim
      (λ a. finish_with st is (AllKept (appends n b sec)) (appends n b sec) p (ending []) h (sym a.1) (none_keeps (appends n b sec)))
      (λ a. finish_with st is (AllKept (appends n b sec)) (appends n b sec) p _ h a.1
      (append_keeps n b f x a.0 (ended st _ _ (updates_as st (at n) f.live f.keeps x (stamp_of sec)) (append_supplies st (at n) f.live
      f.keeps x (stamp_of sec) (stamp_small sec g.timely)))))
      g.same
  granted_keeps (replaces n b sec) p h =
      let g : Replaced st is n b sec p = replace_granted st is n b sec p h in
      let f : NamedFile st is n = g.it in
      let x : Renewal st is b = g.extent in
      finish_with st is (AllKept (replaces n b sec)) (replaces n b sec) p _ h g.same
      (replace_keeps n b f x (ended st _ _ (replaces_as st (at n) f.live f.keeps x (stamp_of sec)) (replace_supplies st (at n) f.live f.keeps x
      (stamp_of sec) (stamp_small sec g.timely))))
  granted_keeps recovers p h =
      let e : granted (ending []) ≡ granted p = sym (start_rests st) ∙ h in
      let same : ending [] ≡ p = cc in
      finish_with st is (AllKept recovers) recovers p (ending []) h same (none_keeps recovers)

  call_keeps : (k : Call) (a : Answer Program) → plan k w ≡ a → AllKept k (left largest k w)
  unfolding left made
  call_keeps k (refused g) h = rw h (none_keeps k)
  call_keeps k (granted p) h = granted_keeps k p h

  -- Another name is read as before.
  read_keeps : (k : Call) (x : Window) → clean x ≡ granted v → AllKept k x → (n : Span) (size' : ℕ) (content : Bytes) → Holds w n size' content
      → (Names v c k (at n) → ⊥) → Holds x n size' content
  read_keeps k x cleans h n size' content holds ne =
      let r : Read w v is n size' content = holds_read w v is n size' content holds in
      let less : at n < l.entries = r.found.in_root in
      let file : is_file (d (at n)) ≡ true = file_at_name st is n less r.found.plain in
      let same : SameFile l c x.card (at n) = h.others (at n) less file ne in
      let new : Bytes = slot_at l x.card (at n) in
      let head : SameHead new (d (at n)) = λ j small. same.slot j (omega arith) in
      holds_of x v cleans n (at n)
      (record {
        ok = r.found.ok;
        at = h.means n less ne;
        in_root = less;
        plain = same_directory new (d (at n)) head ∙ r.found.plain;
        keeps = h.sound.chains (at n) less (same_is_file new (d (at n)) head ∙ file);
      })
      size' content (same_size new (d (at n)) same.slot ∙ r.sized) (λ i small. same.bytes i (omega (arith, r.sized)) ∙ r.same i small)

pub all_keep : AllKeep
all_keep k w v real is sound =
    let same : v ≡ volume_of w.card Pending.Nothing = volume_is w v is in
    let st : Start w.size w.card = started w v real is in
    let now : clean w ≡ granted (volume_of w.card Pending.Nothing) = is ∙ ap granted same in
    let sound' : Sound (layout_of w.card) w.card = subst (λ v. Sound v.layout w.card) same sound in
    let h : Keeping (volume_of w.card Pending.Nothing) w.card k (left largest k w).card = call_keeps st now sound' k (plan k w) refl in
    let cleans : clean (left largest k w) ≡ granted (volume_of w.card Pending.Nothing) = (after_calls k w v real is).clean_again ∙ ap granted same in
    rw same (record { others = h.others; reads = read_keeps st now sound' k (left largest k w) cleans h; sound = h.sound })
