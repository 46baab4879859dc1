-- What is read after a create, a rename and a delete.
use Prim.Native.Nat.{ℕ, ◌/◌, ◌%◌, ◌<◌, ◌+◌, ◌-◌}
use native.Mathlib.Omega.{arith}
use mathlib.Core.Path.{◌≡◌, refl, sym, ap, ◌∙◌, subst}
use mathlib.Core.Logic.{◌⊎◌, inl, inr, ⊎_elim}
use mathlib.Core.List.{List, [], ◌∷◌, ◌++◌, append-nil}
use mathlib.Core.Bool.{true, false, not}
use borrow.Author.Tests.{not-true, eq-eqb, ne_eqb}
use Rattle.model.specs.Bytes.{Bytes, Span}
use Rattle.model.specs.Sector.{Card, Window, after}
use Rattle.model.specs.Fat.{Fat, entry, release}
use Rattle.model.specs.Chain.{file_sector}
use Rattle.model.specs.Root.{Directory, slot_at, free_slot, bears, is_label, listed, vacant, file_size, file_at, entry_at}
use Rattle.model.specs.Long.{name_slots, long_count, checksum}
use Rattle.model.specs.Calendar.{stamp_of}
use Rattle.model.specs.Ground.{granted}
use Rattle.model.specs.Volume.{clean}
use Rattle.model.specs.Record.{Change, text_length}
use Rattle.model.specs.declared.Entry.{Entry}
use Rattle.model.specs.declared.Layout.{Layout}
use Rattle.model.specs.declared.Pending.{Pending}
use Rattle.model.specs.declared.Volume.{Volume}
use Rattle.operations.specs.Program.{Program, stores}
use Rattle.operations.specs.Finish.{Edit, edit_from, set_slots, marks, effect, edits, operation_edits, new_entry, set_name, mark_deleted, name_slot}
use Rattle.operations.specs.Plan.{operate, slots_for, no_text, text_of}
use Rattle.operations.specs.Calls.{Call, plan, creates, renames, deletes, slot_of, name_of, run_end, creates_long}
use Rattle.operations.specs.Outcome.{left, largest}
use Rattle.operations.specs.Reading.{file_byte}
use Rattle.safety.specs.Sound.{chain_of, proper}
use Rattle.safety.specs.Saved.{Holds, Gone, Alone}
use Rattle.safety.specs.Fitting.{Empty}
use Rattle.model.proofs.Calendar.{stamp_small}
use Rattle.model.proofs.Tests.{clash, same?, told, and_right}
use Rattle.model.proofs.All.{All}
use Rattle.model.proofs.Long.{OfName, of_name, not_of_name, of_name?}
use Rattle.model.proofs.Cards.{after_nil}
use Rattle.model.proofs.Names.{name_fits, name_starts, found_listed}
use Rattle.model.proofs.Volumes.{window, layout_of, first_fat, volume_of}
use Rattle.safety.proofs.Start.{Start}
use Rattle.safety.proofs.Files.{file_clear}
use Rattle.safety.proofs.Theorem.{along}
use Rattle.safety.proofs.Ended.{Ended, ended, same_bears, same_directory, same_locked}
use Rattle.safety.proofs.Chained.{HasChain, head_is, size_is, empty_then, kept_then}
use Rattle.safety.proofs.Readings.{Meant, Read, holds_of, holds_read, gone_of, granted_write}
use Rattle.operations.proofs.Edits.{set_in, edits_out, only_in, only_out}
use Rattle.safety.proofs.Slots.{new_size, new_first, new_directory, new_locked, new_bears, named_size, named_first, named_directory, named_bears}
use Rattle.safety.proofs.Slots.{named_only, deleted_bears, Unlisted, unlisted_bears, old_marked, old_kept, old_unlisted, means, means_none}
use Rattle.safety.proofs.Slots.{lower_not, bearer, vacant_unlisted, entry_unlisted}
use Rattle.safety.proofs.Supplied.{creates_as, renames_as, deletes_as, create_supplies, rename_supplies, delete_supplies, free_apart, ks}
use Rattle.safety.proofs.Calls.{left_is}
use Rattle.safety.proofs.Granted.{Created, create_granted, Renamed, rename_granted, Deleted, delete_granted, long_granted}
use Rattle.model.specs.Scan.{among}
use Rattle.model.specs.LongName.{name_entry}
use Rattle.model.proofs.FreeRuns.{run_vacant}

module _ {size : ℕ} {c : Card} (st : Start size c) (is : clean (window size c) ≡ granted (volume_of c Pending.Nothing)) where
  abbrev l : Layout
  l = layout_of c

  abbrev v : Volume
  v = volume_of c Pending.Nothing

  abbrev w : Window
  w = window size c

  abbrev fat : Fat
  fat = first_fat c

  abbrev d : Directory
  d = slot_at l c

  abbrev at : Span → ℕ
  at n = slot_of v c n

  abbrev z : ℕ
  z = free_slot l c

  -- What holds of the card that a program's stores leave holds of the window that the call leaves.
  pub finish_with : (P : Window → Type 0) (k : Call) (p q : Program) → plan k w ≡ granted p → q ≡ p → P (window size (after (stores q) c))
      → P (left largest k w)
  finish_with P k p q h e x = subst P (sym (left_is st is k p h)) (subst (λ q. P (window size (after (stores q) c))) e x)

  -- ---- create

  module _ (n t : Span) {sec : ℕ} (p : Program) (g : Created st is n t sec p) {u : Card} (end : Ended size c [] fat (creates_as st n t (stamp_of sec)) u) where
    -- The slot of the new file.
    abbrev pub new : ℕ
    new = run_end l c t

    abbrev made : Entry
    made = record { slot = new; name = name_of n; attributes = 0x20 }

    pub new_in : new < l.entries
    new_in = omega (arith, g.room)

    own : among (name_slots new (slots_for t)) new ≡ true
    own = of_name new (slots_for t) new (omega arith, omega arith)

    pub new_slot : effect (creates_as st n t (stamp_of sec)) d new ≡ new_entry (name_of n) (stamp_of sec)
    unfolding effect edits operation_edits name_slot
    new_slot = only_in (λ k b. name_slot made (stamp_of sec) (text_of t) k) (name_slots new (slots_for t)) d new own ∙ rw (eq-eqb new new refl)

    -- A long entry's slot, and a slot that is not the name's.
    pub entry_slot : (k : ℕ) → OfName new (slots_for t) k → (k ≡ new → ⊥)
        → effect (creates_as st n t (stamp_of sec)) d k ≡ name_entry (checksum (new_entry (name_of n) (stamp_of sec))) (text_of t) (text_length (text_of t))
        (new - k)
    unfolding effect edits operation_edits name_slot
    entry_slot k w ne =
        only_in (λ k b. name_slot made (stamp_of sec) (text_of t) k) (name_slots new (slots_for t)) d k (of_name new (slots_for t) k w) ∙ rw (ne_eqb k new ne)

    pub off_slot : (k : ℕ) → (OfName new (slots_for t) k → ⊥) → effect (creates_as st n t (stamp_of sec)) d k ≡ d k
    unfolding effect edits operation_edits
    off_slot k off = only_out (λ k b. name_slot made (stamp_of sec) (text_of t) k) (name_slots new (slots_for t)) d k (not_of_name new (slots_for t) k off)

    pub new_vacant : (k : ℕ) → OfName new (slots_for t) k → vacant (d k) ≡ true
    new_vacant k w = run_vacant l c (slots_for t + 1) g.room k (omega (arith, w)) (omega (arith, w))

    pub other_slot : (k : ℕ) → (k ≡ new → ⊥) → Unlisted (d k) (effect (creates_as st n t (stamp_of sec)) d k)
    unfolding name_entry
    other_slot k ne = ⊎_elim
        (λ w. inr (vacant_unlisted (d k) (new_vacant k w), ap listed (entry_slot k w ne) ∙ entry_unlisted _ _ _))
        (λ off. inl (off_slot k off)) (of_name? new (slots_for t) k)

    pub create_found : Meant v u n new
    create_found = record {
      ok = g.ok;
      at = means v u n new new_in
          (same_bears (slot_at l u new) (new_entry (name_of n) (stamp_of sec)) (head_is st end new new_in (new_entry (name_of n) (stamp_of sec)) new_slot)
          (name_of n)
          ∙ new_bears (name_of n) (stamp_of sec) (name_fits n g.ok) (name_starts n g.ok))
          (λ j less. same_bears (slot_at l u j) (effect (creates_as st n t (stamp_of sec)) d j) (head_is st end j (omega (arith, new_in)) _ refl) (name_of n)
          ∙ unlisted_bears (name_of n) (d j) _ (other_slot j (λ e. omega arith))
          ∙ lower_not v c n j (omega (arith, new_in, g.unused)));
      in_root = new_in;
      plain = same_directory (slot_at l u new) (new_entry (name_of n) (stamp_of sec)) (head_is st end new new_in (new_entry (name_of n)
          (stamp_of sec)) new_slot)
          ∙ new_directory (name_of n) (stamp_of sec);
      keeps = (empty_then st end new new_in (new_entry (name_of n) (stamp_of sec)) new_slot (new_first (name_of n) (stamp_of sec)) (new_size (name_of n)
          (stamp_of sec))).keeps;
    }

    pub create_then : (content : Bytes) → Holds (window size u) n 0 content
    create_then content = holds_of (window size u) v end.cleans n new create_found 0 content
        (size_is st end new new_in (new_entry (name_of n) (stamp_of sec)) new_slot ∙ new_size (name_of n) (stamp_of sec)) (λ i less. absurd (omega arith))

    create_empty : Empty v u n
    unfolding file_at
    create_empty =
        let b : Bytes = new_entry (name_of n) (stamp_of sec) in
        let head = head_is st end new new_in b new_slot in (
          file_at l u new,
          granted_write (window size u) v end.cleans n new create_found (same_locked (slot_at l u new) b head ∙ new_locked (name_of n) (stamp_of sec)),
          size_is st end new new_in b new_slot ∙ new_size (name_of n) (stamp_of sec),
        )

  pub create_end : (n t : Span) {sec : ℕ} (p : Program) (g : Created st is n t sec p)
      → Ended size c [] fat (creates_as st n t (stamp_of sec)) (after (stores (operate v c [] fat (creates_as st n t (stamp_of sec)))) c)
  create_end n t {sec} p g = ended st [] fat (creates_as st n t (stamp_of sec)) (create_supplies st n t (stamp_of sec) g.ok g.fine g.room
      (stamp_small sec g.timely))

  pub create_holds : (n : Span) (sec : ℕ) (p : Program) → plan (creates n sec) w ≡ granted p → (content : Bytes)
      → Holds (left largest (creates n sec) w) n 0 content
  create_holds n sec p h content =
      let g : Created st is n no_text sec p = create_granted st is n sec p h in
      finish_with (λ x. Holds x n 0 content) (creates n sec) p _ h g.same (create_then n no_text p g (create_end n no_text p g) content)

  pub long_holds : (n t : Span) (sec : ℕ) (p : Program) → plan (creates_long n t sec) w ≡ granted p → (content : Bytes)
      → Holds (left largest (creates_long n t sec) w) n 0 content
  long_holds n t sec p h content =
      let g : Created st is n t sec p = long_granted st is n t sec p h in
      finish_with (λ x. Holds x n 0 content) (creates_long n t sec) p _ h g.same (create_then n t p g (create_end n t p g) content)

  pub create_leaves : (n : Span) (sec : ℕ) (p : Program) → plan (creates n sec) w ≡ granted p → Empty v (left largest (creates n sec) w).card n
  create_leaves n sec p h =
      let g : Created st is n no_text sec p = create_granted st is n sec p h in
      finish_with (λ x. Empty v x.card n) (creates n sec) p _ h g.same (create_empty n no_text p g (create_end n no_text p g))

  -- ---- rename

  module _ (n m : Span) (p : Program) (g : Renamed st is n m p) {t : Card} (end : Ended size c [] fat (renames_as st (at n) g.live m) t) where
    abbrev x : ℕ
    x = at n

    abbrev b : Bytes
    b = set_name (name_of m) (d x)

    abbrev named : List Edit
    named = edit_from x z (λ b. set_name (name_of m) b) ∷ []

    rename_edits : edits (renames_as st x g.live m) ≡ marks (name_slots x (long_count d x)) ++ named
    unfolding edits operation_edits entry_at
    rename_edits = refl

    stays : (k : ℕ) → (k ≡ z → ⊥) → set_slots named d k ≡ d k
    stays k other = edits_out named d k (other, tt)

    -- The slots of the old name are marked, the new one has its name, all others are as they were.
    pub left_slots : (k : ℕ) → OfName x (long_count d x) k → effect (renames_as st x g.live m) d k ≡ mark_deleted (d k)
    left_slots = old_marked d (renames_as st x g.live m) x named rename_edits

    pub left_slot : effect (renames_as st x g.live m) d x ≡ mark_deleted (d x)
    left_slot = left_slots x (omega arith, omega arith)

    pub named_slot : effect (renames_as st x g.live m) d z ≡ b
    named_slot = old_kept d (renames_as st x g.live m) x named rename_edits z (free_apart st x g.live g.room)
        ∙ set_in (edit_from x z (λ b. set_name (name_of m) b)) [] d z refl

    pub rest_slot : (k : ℕ) → (k ≡ x → ⊥) → (k ≡ z → ⊥) → Unlisted (d k) (effect (renames_as st x g.live m) d k)
    rest_slot k ne other = old_unlisted d (renames_as st x g.live m) x named rename_edits k ne (stays k other)

    x_listed : listed (d x) ≡ true
    unfolding slot_of
    x_listed = found_listed l c (name_of n) g.live.in_root

    no_label : is_label (d x) ≡ false
    unfolding listed
    no_label = not-true (is_label (d x)) (and_right (not (vacant (d x))) (not (is_label (d x))) x_listed)

    x_not : (name : Span) → bears (name_of name) (slot_at l t x) ≡ false
    x_not name = same_bears (slot_at l t x) (mark_deleted (d x)) (head_is st end x g.live.in_root (mark_deleted (d x)) left_slot) (name_of name)
        ∙ deleted_bears (name_of name) (d x)

    rest_bears : (name : Span) (k : ℕ) → k < l.entries → (k ≡ x → ⊥) → (k ≡ z → ⊥) → bears (name_of name) (slot_at l t k) ≡ bears (name_of name) (d k)
    rest_bears name k less ne other =
        let b : Bytes = effect (renames_as st x g.live m) d k in
        same_bears (slot_at l t k) b (head_is st end k less b refl) (name_of name) ∙ unlisted_bears (name_of name) (d k) b (rest_slot k ne other)

    lower : (j : ℕ) → j < z → bears (name_of m) (slot_at l t j) ≡ false
    lower j less = ⊎_elim (λ e. rw e (x_not m))
        (λ ne. rest_bears m j (omega (arith, g.room)) ne (λ e. omega arith) ∙ lower_not v c m j (omega (arith, g.room, g.unused))) (same? j x)

    -- The new name means the new slot.
    pub rename_at : slot_of v t m ≡ z
    rename_at = means v t m z g.room
        (same_bears (slot_at l t z) b (head_is st end z g.room b named_slot) (name_of m)
        ∙ named_bears (name_of m) (d x) (name_fits m g.new_ok) (name_starts m g.new_ok) no_label) lower

    module _ (keeps : proper l c x ≡ true) where
      pub rename_chain : HasChain l t z (chain_of l c x)
      rename_chain = kept_then st end z g.room b named_slot x (named_first (name_of m) (d x)) (named_size (name_of m) (d x)) keeps
          (all_same (chain_of l c x))
        where
          all_same : (js : List ℕ) → All (λ k. entry fat k ≡ entry fat k) js
          all_same [] = tt
          all_same (j ∷ js) = (refl, all_same js)

      rename_found : Meant v t m z
      rename_found = record {
        ok = g.new_ok;
        at = rename_at;
        in_root = g.room;
        plain = same_directory (slot_at l t z) b (head_is st end z g.room b named_slot) ∙ named_directory (name_of m) (d x) ∙ g.plain;
        keeps = rename_chain.keeps;
      }

      rename_bytes : (i : ℕ) → i < file_size (d x) → file_byte l t (file_at l t z) i ≡ file_byte l c (file_at l c x) i
      rename_bytes i less =
          let n : ℕ = file_sector l (chain_of l c x) (i / 512) in
          along l t z (chain_of l c x) i rename_chain.chain
          ∙ (λ j. (end.sectors n (file_clear st x keeps i less) ∙ (λ j. after_nil c j n)) j (i % 512))
          ∙ sym (along l c x (chain_of l c x) i refl)

    rename_then : (size' : ℕ) (content : Bytes) → Holds w n size' content → Holds (window size t) m size' content
    rename_then size' content h =
        let r : Read w v is n size' content = holds_read w v is n size' content h in
        let keeps : proper l c x ≡ true = r.found.keeps in
        holds_of (window size t) v end.cleans m z (rename_found keeps) size' content
        (size_is st end z g.room b named_slot ∙ named_size (name_of m) (d x) ∙ r.sized)
        (λ i less. rename_bytes keeps i (omega (arith, r.sized)) ∙ r.same i less)

    rename_from : slot_of v t n ≡ x → ⊥
    rename_from e =
        let less : slot_of v t n < l.entries = omega (arith, g.live.in_root) in
        clash (rw e at (bearer v t n less)) (x_not n)

    rename_gone : Alone v c n → Gone (window size t) n
    rename_gone alone = gone_of (window size t) v end.cleans n g.ok
        (means_none v t n (λ j less. go j less (same? j x) (same? j z) (told (bears (name_of n) (slot_at l t j)))))
      where
        other_name : bears (name_of n) (slot_at l t z) ≡ true → ⊥
        other_name h =
            let same : name_of m ≡ name_of n = named_only (name_of n) (name_of m) (d x) (name_fits m g.new_ok)
            (sym (same_bears (slot_at l t z) b (head_is st end z g.room b named_slot) (name_of n)) ∙ h) in
            clash (bearer v c n g.live.in_root) (ap (λ name. bears name (d x)) (sym same) ∙ lower_not v c m x (omega (arith, g.live.in_root, g.unused)))

        go : (j : ℕ) → j < l.entries → (j ≡ x) ⊎ (j ≡ x → ⊥) → (j ≡ z) ⊎ (j ≡ z → ⊥)
            → (bears (name_of n) (slot_at l t j) ≡ true) ⊎ (bears (name_of n) (slot_at l t j) ≡ false)
            → bears (name_of n) (slot_at l t j) ≡ false
        go j less a b (inr f) = f
        go j less (inl e) b (inl h) = rw e (x_not n)
        go j less (inr ne) (inl e) (inl h) = absurd (other_name (rw e at h))
        go j less (inr ne) (inr other) (inl h) = absurd (ne (alone j less (sym (rest_bears n j less ne other) ∙ h)))

  pub rename_end : (n m : Span) (p : Program) (g : Renamed st is n m p)
      → Ended size c [] fat (renames_as st (at n) g.live m) (after (stores (operate v c [] fat (renames_as st (at n) g.live m))) c)
  rename_end n m p g = ended st [] fat (renames_as st (at n) g.live m) (rename_supplies st (at n) g.live m g.new_ok g.room)

  pub rename_holds : (n m : Span) (p : Program) → plan (renames n m) w ≡ granted p → (size' : ℕ) (content : Bytes) → Holds w n size' content
      → Holds (left largest (renames n m) w) m size' content
  rename_holds n m p h size' content holds =
      let g : Renamed st is n m p = rename_granted st is n m p h in
      finish_with (λ x. Holds x m size' content) (renames n m) p _ h g.same (rename_then n m p g (rename_end n m p g) size' content holds)

  pub rename_leaves : (n m : Span) (p : Program) → plan (renames n m) w ≡ granted p → slot_of v (left largest (renames n m) w).card n ≡ at n → ⊥
  rename_leaves n m p h =
      let g : Renamed st is n m p = rename_granted st is n m p h in
      finish_with (λ x. slot_of v x.card n ≡ at n → ⊥) (renames n m) p _ h g.same (rename_from n m p g (rename_end n m p g))

  pub rename_absent : (n m : Span) (p : Program) → plan (renames n m) w ≡ granted p → Alone v c n → Gone (left largest (renames n m) w) n
  rename_absent n m p h alone =
      let g : Renamed st is n m p = rename_granted st is n m p h in
      finish_with (λ x. Gone x n) (renames n m) p _ h g.same (rename_gone n m p g (rename_end n m p g) alone)

  -- ---- delete

  module _ (n : Span) (p : Program) (g : Deleted st is n p) {t : Card}
      (end : Ended size c [] (release (ks st (at n) g.it.live g.it.keeps) fat) (deletes_as st (at n) g.it.live g.it.keeps) t) where
    abbrev gone : Change
    gone = deletes_as st (at n) g.it.live g.it.keeps

    delete_edits : edits gone ≡ marks (name_slots (at n) (long_count d (at n))) ++ []
    unfolding edits operation_edits entry_at
    delete_edits = sym (append-nil (marks (name_slots (at n) (long_count d (at n)))))

    same_slot : (k : ℕ) → set_slots [] d k ≡ d k
    unfolding set_slots
    same_slot k = refl

    pub gone_slots : (k : ℕ) → OfName (at n) (long_count d (at n)) k → effect gone d k ≡ mark_deleted (d k)
    gone_slots = old_marked d gone (at n) [] delete_edits

    pub gone_slot : effect gone d (at n) ≡ mark_deleted (d (at n))
    gone_slot = gone_slots (at n) (omega arith, omega arith)

    pub kept_slot : (k : ℕ) → (k ≡ at n → ⊥) → Unlisted (d k) (effect gone d k)
    kept_slot k ne = old_unlisted d gone (at n) [] delete_edits k ne (same_slot k)

    not_there : bears (name_of n) (slot_at l t (at n)) ≡ false
    not_there = same_bears (slot_at l t (at n)) (mark_deleted (d (at n)))
        (head_is st end (at n) g.it.live.in_root (mark_deleted (d (at n))) gone_slot) (name_of n)
        ∙ deleted_bears (name_of n) (d (at n))

    delete_from : slot_of v t n ≡ at n → ⊥
    delete_from e =
        let less : slot_of v t n < l.entries = omega (arith, g.it.live.in_root) in
        clash (rw e at (bearer v t n less)) not_there

    delete_gone : Alone v c n → Gone (window size t) n
    delete_gone alone = gone_of (window size t) v end.cleans n g.it.found.ok
        (means_none v t n (λ j less. go j less (same? j (at n)) (told (bears (name_of n) (slot_at l t j)))))
      where
        go : (j : ℕ) → j < l.entries → (j ≡ at n) ⊎ (j ≡ at n → ⊥) → (bears (name_of n) (slot_at l t j) ≡ true) ⊎ (bears (name_of n) (slot_at l t j) ≡ false)
            → bears (name_of n) (slot_at l t j) ≡ false
        go j less a (inr f) = f
        go j less (inl e) (inl h) = rw e not_there
        go j less (inr ne) (inl h) =
            let b : Bytes = effect gone d j in
            absurd (ne (alone j less (sym (unlisted_bears (name_of n) (d j) b (kept_slot j ne))
            ∙ sym (same_bears (slot_at l t j) b (head_is st end j less b refl) (name_of n)) ∙ h)))

  pub delete_end : (n : Span) (p : Program) (g : Deleted st is n p)
      → Ended size c [] (release (ks st (at n) g.it.live g.it.keeps) fat) (deletes_as st (at n) g.it.live g.it.keeps)
      (after (stores (operate v c [] (release (ks st (at n) g.it.live g.it.keeps) fat) (deletes_as st (at n) g.it.live g.it.keeps))) c)
  delete_end n p g = ended st [] _ (deletes_as st (at n) g.it.live g.it.keeps) (delete_supplies st (at n) g.it.live g.it.keeps)

  pub delete_leaves : (n : Span) (p : Program) → plan (deletes n) w ≡ granted p → slot_of v (left largest (deletes n) w).card n ≡ at n → ⊥
  delete_leaves n p h =
      let g : Deleted st is n p = delete_granted st is n p h in
      finish_with (λ x. slot_of v x.card n ≡ at n → ⊥) (deletes n) p _ h g.same (delete_from n p g (delete_end n p g))

  pub delete_absent : (n : Span) (p : Program) → plan (deletes n) w ≡ granted p → Alone v c n → Gone (left largest (deletes n) w) n
  delete_absent n p h alone =
      let g : Deleted st is n p = delete_granted st is n p h in
      finish_with (λ x. Gone x n) (deletes n) p _ h g.same (delete_gone n p g (delete_end n p g) alone)
