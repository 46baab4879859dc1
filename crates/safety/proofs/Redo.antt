-- What a recovery finds once a group's store is on the card, and the card that the operation ends with.
use Prim.Native.Nat.{ℕ, zero, suc, ◌+◌, ◌*◌, ◌/◌, ◌%◌, ◌≤◌, ◌<◌}
use native.Mathlib.Omega.{arith}
use mathlib.Core.Path.{◌≡◌, refl, sym, ap, ◌∙◌, subst}
use mathlib.Core.Logic.{◌⊎◌, inl, inr, ⊎_elim}
use mathlib.Core.List.Sublistᴰ
use mathlib.Core.List.{List, [], ◌∷◌, ◌++◌, map, Sublistᴰ}
use mathlib.Core.Bool.{true, false}
use lib.ListN.{length-append}
use lib.Dec.{ltb}
use borrow.Author.Tests.{lt-ltb}
use Rattle.model.specs.Bytes.{Bytes}
use Rattle.model.specs.Scan.{among, indices_from, walk}
use Rattle.model.specs.Sector.{Card, Store, put, after, clip}
use Rattle.model.specs.Fat.{is_reserved, fat1_of, fat2_of, write_fat}
use Rattle.model.specs.Root.{first_bytes, slot_at, root_place, root_ok}
use Rattle.model.specs.Log.{log_of}
use Rattle.model.specs.Record.{Change, Group, commit, committed, encode, group_records, group_in}
use Rattle.model.specs.Pending.{fills, named_slots, end_past, seen_end, pending}
use Rattle.model.specs.Ground.{granted}
use Rattle.model.specs.Volume.{clean}
use Rattle.model.specs.Promises.{Shape}
use Rattle.model.specs.declared.Area.{Area}
use Rattle.model.specs.declared.Layout.{Layout}
use Rattle.model.specs.declared.Pending.{Pending}
use Rattle.operations.specs.Program.{segment, ending}
use Rattle.operations.specs.Finish.{concerns, effect, finish, rising, redo, root_sector, root_stores}
use Rattle.operations.specs.Plan.{recover_stores}
use Rattle.safety.specs.Cuts.{Cut, recovery}
use Rattle.model.proofs.Tests.{told, same?, clash, by_pick}
use Rattle.model.proofs.All.{All, all_left}
use Rattle.model.proofs.Cards.{Away, put_out, put_in, put_case, clip_clip, after_append, after_away, after_snoc}
use Rattle.model.proofs.Changes.{Keeps, after_keeps, all_sub}
use Rattle.model.proofs.Fats.{entry_same, write_none, write_all, agree_of}
use Rattle.model.proofs.Order.{row_ok, any_ok, order_same, seen_same}
use Rattle.model.proofs.Recorded.{Recorded}
use Rattle.model.proofs.Pendings.{Stored, Quiet, pending_is, group_read, committed_quiet, rest_zero, quiet_calm}
use Rattle.model.proofs.Records.{operation_read}
use Rattle.model.proofs.Volumes.{layout_of, area_of, Alike, first_fat, window, volume_of, clean_same}
use Rattle.safety.proofs.Journal.{Leads, Forth, idle}
use Rattle.safety.proofs.Start.{Start, shape_of, Fixed, log_low, recovery_is, marks_same, slots_same, fatsize_few, entries_few}
use Rattle.safety.proofs.Steps.{root_store, finish_length}
use Rattle.operations.proofs.Seats.{unnamed}
use Rattle.operations.proofs.Roots.{redo_stores}
use Rattle.safety.proofs.Effect.{begins}
use Rattle.safety.proofs.After.{Entered, past_slot, LowSlots, Mixed, still_kept, still_boot, fat1_near, slot_near, new_root}
use Rattle.safety.proofs.After.{still_data, grp, complete}
use Rattle.safety.proofs.After.{unconcerned_same, mixed_keeps, root_hits, finish_keeps, finish_whole, done_mixed, start_mixed, done_fat1, still_fat2}
use Rattle.safety.proofs.After.{effect_same, done_root}

-- A cut of stores that wait for each other: some of those before them, or all of these and a cut of the rest.
rising_cut : (ys rs : List Store) (m : Store) (zs : List Store) → Cut (rising ys rs m) zs
    → Sublistᴰ zs ys ⊎ ((ws : List Store) × (zs ≡ ys ++ ws) × Cut (rising [] rs m) ws)
unfolding rising
rising_cut ys [] m zs (inl k) = inl k
rising_cut ys [] m zs (inr (ws, e, k)) = inr (m ∷ ws, e, inr (ws, refl, k))
rising_cut ys (r ∷ rs) m zs (inl k) = inl k
rising_cut ys (r ∷ rs) m zs (inr (ws, e, k)) = inr (r ∷ ws, e, inr (ws, refl, k))

module _ {size : ℕ} {c : Card} (st : Start size c) {u : Card} {i : ℕ} {o : Change} (h : Entered c u i o) where
  abbrev l : Layout
  l = layout_of c

  abbrev log : Area
  log = area_of c

  abbrev z : ℕ
  z = past_slot c o

  sh : Shape l
  sh = shape_of st

  -- ---- first bytes in a mixture

  abbrev old_first : Bytes
  old_first = first_bytes l c

  abbrev new_first : Bytes
  new_first k = new_root st h k 0

  first_kept : (k : ℕ) → k < l.entries → among (named_slots o.operation) k ≡ false → new_first k ≡ old_first k
  first_kept k less off = λ t. unnamed o (slot_at l c) k off t 0

  first_begins : (k : ℕ) → among (named_slots o.operation) k ≡ true → (k ≤ z) × (new_first k ≡ 0 → ⊥)
  first_begins k on = begins l.entries z o (slot_at l c) h.recorded h.lives k on

  first_near : (y : Card) → Mixed st h y → (k : ℕ) → k < l.entries → (first_bytes l y k ≡ old_first k) ⊎ (first_bytes l y k ≡ new_first k)
  first_near y m k less = slot_near st h y m 0 (omega arith) k less

  -- A mixture whose slots are in order.
  abbrev Rooted : Card → Type 0
  Rooted y = root_ok l.entries (first_bytes l y) ≡ true

  abbrev pub Held : Card → Type 0
  Held y = Mixed st h y × Rooted y

  -- Where no slot is above the lowest that begins 0, every mixture is.
  low_rooted : LowSlots c o → (y : Card) → Mixed st h y → Rooted y
  low_rooted low y m = any_ok l.entries o.operation old_first new_first st.clean.root first_kept (λ k less on. (first_begins k on).1) low
      (first_bytes l y) (first_near y m)

  -- The root sectors below r are as they are to become.
  abbrev NewBelow : ℕ → Card → Type 0
  NewBelow r y = (q : ℕ) → q < r → q < l.entries / 16 → y (root_place l q) ≡ clip (root_sector (new_root st h) q)

  new_slot : (y : Card) (r : ℕ) → NewBelow r y → (k : ℕ) → k < 16 * r → k < l.entries → first_bytes l y k ≡ new_first k
  unfolding slot_at root_sector
  new_slot y r below k low less =
      let at : (32 * (k % 16) + 0) % 512 ≡ 32 * (k % 16) = omega arith in
      let row : 16 * (k / 16) + 32 * (k % 16) / 32 ≡ k = omega arith in
      let col : 32 * (k % 16) % 32 ≡ 0 = omega arith in
      (λ t. below (k / 16) (omega arith) (omega (arith, sh)) t (32 * (k % 16) + 0)) ∙ (λ t. root_sector (new_root st h) (k / 16) (at t))
      ∙ (λ t. new_root st h (row t) (col t))

  -- A mixture in order whose root sectors are stored up to r is in order.
  row_rooted : (y x : Card) (r : ℕ) → Held y → NewBelow r x → ((q : ℕ) → r ≤ q → q < l.entries / 16 → x (root_place l q) ≡ y (root_place l q)) → Rooted x
  unfolding slot_at
  row_rooted y x r held below above =
      row_ok l.entries o.operation old_first new_first st.clean.root first_kept (λ k less on. (first_begins k on).1)
      (λ k less on. (first_begins k on).0) (first_bytes l y) (first_bytes l x) (16 * r) (first_near y held.0) held.1
      (λ k low less. new_slot x r below k low less)
      (λ k high less. ap (λ (b : Bytes). b (32 * (k % 16) + 0)) (above (k / 16) (omega arith) (omega (arith, sh))))

  pub start_held : Held u
  start_held = (
    start_mixed st h,
    order_same l.entries old_first (first_bytes l u) (λ k less. ap (λ (b : Bytes). b 0)
        (slots_same l sh u c (λ r less. h.fixed (root_place l r) (Fixed.root r less refl)) k less)) st.clean.root,
  )

  abbrev all_mixed : Mixed st h (complete st h)
  all_mixed = done_mixed st h u (start_mixed st h)

  -- The card when all but the mark is stored.
  complete_rooted : Rooted (complete st h)
  complete_rooted = row_rooted u (complete st h) (l.entries / 16) start_held (λ q low less. done_root st h u (start_mixed st h) q less)
      (λ q high less. absurd (omega arith))

  -- ---- what recovery finds in a mixture

  module _ (y : Card) (m : Mixed st h y) where
    mixed_alike : Alike c y
    mixed_alike = record {
      boot = still_kept st h y m 0 (still_boot st h) ∙ h.fixed 0 (Fixed.boot refl);
      marks = λ k low high. ⊎_elim
          (λ e. ap (λ v. is_reserved v) (entry_same (first_fat c) (fat1_of l y) k e))
          (λ e. ap (λ v. is_reserved v) (entry_same (fat2_of l u) (fat1_of l y) k e) ∙ h.marks k low high)
          (fat1_near st h y m (k / 256) (omega (arith, sh)));
    }

    log_kept : (j : ℕ) → y (log.sector + j) ≡ u (log.sector + j)
    log_kept j = still_kept st h y m (log.sector + j) (still_data st h (log.sector + j) (omega (arith, log_low st)))

    mixed_stored : Stored log.sectors (log_of log y) i o
    mixed_stored = record {
      in_log = h.stored.in_log;
      bytes = log_kept i ∙ h.stored.bytes;
      others = λ j less ne. subst Quiet (sym (log_kept j)) (h.stored.others j less ne);
    }

    -- RECORD reads the slots that the group names as it reads them of c.
    seen_is : seen_end l y (clip (encode o)) ≡ z
    seen_is =
        ap (λ x. end_past x l.entries (first_bytes l y)) (operation_read o h.fits)
        ∙ seen_same o.operation l.entries (first_bytes l y) old_first
        (λ k less off. ⊎_elim (λ e. e) (λ e. e ∙ first_kept k less off) (first_near y m k less))

    says : Rooted y → recovery size y ≡ granted (redo l (grp st h) y)
    unfolding recover_stores pending
    says ok =
        recovery_is st y mixed_alike (Pending.Held (log.sector + i)) ok
        (pending_is l.entries (seen_end l y) log (log_of log y) i o mixed_stored h.fits
        (subst (λ (z : ℕ). Recorded l.entries z o) (sym seen_is) h.recorded)) refl
        ∙ ap (λ (g : Group). granted (redo l g y)) (ap (group_in (log.sector + i)) (log_kept i ∙ h.stored.bytes) ∙ group_read (log.sector + i) o h.fits)

    same_mark : commit y (grp st h) ≡ commit u (grp st h)
    unfolding commit
    same_mark = ap (λ (b : Bytes). record { sector = log.sector + i; bytes = clip (committed (group_records o) b) }) (log_kept i)

  -- ---- steps 4 to 6, cut anywhere

  abbrev pub ended : Card
  ended = put (complete st h) (commit u (grp st h))

  module _ (y : Card) (held : Held y) where
    abbrev m : Mixed st h y
    m = held.0

    abbrev fats : List Store
    fats = write_fat l l.fat1 (fat2_of l y) (fat1_of l y)

    abbrev roots : List Store
    roots = root_stores l o y

    abbrev mark : Store
    mark = commit y (grp st h)

    marked : (x : Card) → x ≡ complete st h → put x mark ≡ ended
    marked x e = λ t. put (e t) (same_mark y m t)

    -- The stores of FAT1 leave the root directory alone.
    fats_keep : All (Keeps (Mixed st h)) fats
    unfolding finish
    fats_keep = all_left (Keeps (Mixed st h)) fats roots (finish_keeps st h y m)

    fats_away : (q : ℕ) → q < l.entries / 16 → Away fats (root_place l q)
    fats_away q less = write_all l l.fat1 (fat2_of l y) (fat1_of l y) (λ s. root_place l q ≡ s.sector → ⊥) (λ s small e. omega (arith, sh))

    fats_held : (zs : List Store) → Sublistᴰ zs fats → Held (after zs y)
    fats_held zs k = (
      after_keeps (Mixed st h) zs (all_sub (Keeps (Mixed st h)) k fats_keep) y m,
      order_same l.entries (first_bytes l y) (first_bytes l (after zs y)) (λ k less. ap (λ (b : Bytes). b 0)
          (slots_same l sh (after zs y) y (λ q small. after_away zs y (root_place l q)
          (all_sub (λ s. root_place l q ≡ s.sector → ⊥) k0 (fats_away q small))) k less))
          held.1,
    )
      where
        k0 : Sublistᴰ zs fats
        k0 = k

    -- Root sectors from r on, stored one after the other.
    stored_held : (r : ℕ) (x : Card) → r < l.entries / 16 → NewBelow r x → Held x
        → NewBelow (r + 1) (put x (root_store l o y r)) × Held (put x (root_store l o y r))
    stored_held r x less below w =
        (now, (mixed_keeps st h (root_store l o y r) (root_hits st h y m r less) x w.0, row_rooted x next (r + 1) w now other))
      where
        next : Card
        next = put x (root_store l o y r)

        own : next (root_place l r) ≡ clip (root_sector (new_root st h) r)
        own = put_in x (root_store l o y r) (root_place l r) refl ∙ clip_clip (root_sector (effect o (slot_at l y)) r) ∙ effect_same st h y m r less

        other : (q : ℕ) → r + 1 ≤ q → q < l.entries / 16 → next (root_place l q) ≡ x (root_place l q)
        other q more small = put_out x (root_store l o y r) (root_place l q) (λ e. omega (arith, sh))

        now : NewBelow (r + 1) next
        now q low small = ⊎_elim
            (λ e. ap (λ (q : ℕ). next (root_place l q)) e ∙ own ∙ ap (λ (q : ℕ). clip (root_sector (new_root st h) q)) (sym e))
            (λ ne. put_out x (root_store l o y r) (root_place l q) (λ e. ne (omega (arith, sh))) ∙ below q (omega arith) small) (same? q r)

    roots_held : (r n : ℕ) (x : Card) → r + n ≡ l.entries / 16 → NewBelow r x → Held x
        → after (map (root_store l o y) (indices_from (concerns o) r n)) x ≡ complete st h
        → (zs : List Store) → Cut (rising [] (map (root_store l o y) (indices_from (concerns o) r n)) mark) zs → Held (after zs x) ⊎ (after zs x ≡ ended)
    unfolding indices_from walk rising after
    roots_held r zero x whole below w ends zs (inl k) = inl (subst (λ zs. Held (after zs x)) (sym (Sublistᴰ.eq-nil k)) w)
    roots_held r zero x whole below w ends zs (inr (ws, e, k)) = inr (ap (λ ss. after ss x) (e ∙ ap (λ vs. mark ∷ vs) (Sublistᴰ.eq-nil k)) ∙ marked x ends)
    roots_held r (suc n) x whole below w ends zs k = go (told (concerns o r)) (roots_held (r + 1) n)
      where
        list : ℕ → ℕ → List Store
        list r n = map (root_store l o y) (indices_from (concerns o) r n)

        go : (concerns o r ≡ true) ⊎ (concerns o r ≡ false)
            → ((x : Card) → r + 1 + n ≡ l.entries / 16 → NewBelow (r + 1) x → Held x → after (list (r + 1) n) x ≡ complete st h
            → (zs : List Store) → Cut (rising [] (list (r + 1) n) mark) zs → Held (after zs x) ⊎ (after zs x ≡ ended))
            → Held (after zs x) ⊎ (after zs x ≡ ended)
        go (inr off) rec =
            rec x (omega arith) (λ q low small. ⊎_elim
            (λ e. subst (λ (q : ℕ). x (root_place l q) ≡ clip (root_sector (new_root st h) q)) (sym e) (unconcerned_same st h x w.0 r (omega arith) off))
            (λ ne. below q (omega arith) small) (same? q r)) w (rw off at ends) zs (rw off at k)
        go (inl on) rec = here (rw on at k)
          where
            here : Cut (rising [] (root_store l o y r ∷ list (r + 1) n) mark) zs → Held (after zs x) ⊎ (after zs x ≡ ended)
            here (inl k) = inl (subst (λ zs. Held (after zs x)) (sym (Sublistᴰ.eq-nil k)) w)
            here (inr (ws, e, k)) =
                let next = stored_held r x (omega arith) below w in
                subst (λ zs. Held (after zs x) ⊎ (after zs x ≡ ended)) (sym e)
                (rec (put x (root_store l o y r)) (omega arith) next.0 next.1 (rw on at ends) ws k)

    -- In a row,
    row_keeps : (zs : List Store) → Cut (rising fats roots mark) zs → Held (after zs y) ⊎ (after zs y ≡ ended)
    unfolding root_stores finish
    row_keeps zs k = ⊎_elim (λ some. inl (fats_held zs some))
        (λ w. subst (λ zs. Held (after zs y) ⊎ (after zs y ≡ ended)) (sym w.1)
        (subst (λ x. Held x ⊎ (x ≡ ended)) (sym (after_append fats w.0 y))
        (roots_held 0 (l.entries / 16) (after fats y) (omega arith) (λ q low. absurd (omega arith)) (fats_held fats (Sublistᴰ.refl fats))
        (sym (after_append fats roots y) ∙ finish_whole st h y m) w.0 w.2)))
        (rising_cut fats roots mark zs k)

    -- or in any order, where that is allowed.
    any_keeps : LowSlots c o → (zs : List Store) → Cut (segment (finish l o y) mark (ending [])) zs → Held (after zs y) ⊎ (after zs y ≡ ended)
    any_keeps low zs (inl k) =
        let kept : Mixed st h (after zs y) = after_keeps (Mixed st h) zs (all_sub (Keeps (Mixed st h)) k (finish_keeps st h y m)) y m in
        inl (kept, low_rooted low (after zs y) kept)
    any_keeps low zs (inr (ws, e, k)) =
        inr (ap (λ ss. after ss y) (e ∙ ap (λ vs. finish l o y ++ mark ∷ vs) (Sublistᴰ.eq-nil k)) ∙ after_snoc (finish l o y) mark y
        ∙ marked (after (finish l o y) y) (finish_whole st h y m))

    pub redo_leads : Leads Held ended (redo l (grp st h) y) y
    unfolding redo
    redo_leads = record {
      keeps = λ zs. by_pick (λ q. Cut q zs → Held (after zs y) ⊎ (after zs y ≡ ended)) (ltb 0 (fills o.operation)) _ _
          (λ _. row_keeps zs) (λ off. ⊎_elim (λ some. absurd (clash (lt-ltb 0 (fills o.operation) some) off)) (λ low. any_keeps low zs) h.lined);
      ends = ap (λ ss. after ss y) (redo_stores l (grp st h) y) ∙ after_snoc (finish l o y) mark y ∙ marked (after (finish l o y) y) (finish_whole st h y m);
    }

  pub goes_forth : (y : Card) → Held y → Forth size Held ended y
  goes_forth y held = record {
    rest = redo l (grp st h) y;
    says = says y held.0 held.1;
    leads = redo_leads y held;
    short = rw (redo_stores l (grp st h) y, length-append (finish l o y) (commit y (grp st h) ∷ []))
        (omega (arith, finish_length l o y, fatsize_few st, entries_few st));
  }

  -- ---- the card at the end

  ended_low : (n : ℕ) → n < l.start → ended n ≡ complete st h n
  unfolding commit
  ended_low n less = put_out (complete st h) (commit u (grp st h)) n (λ e. omega (arith, log_low st))

  pub ended_fat1 : (s : ℕ) → s < l.fatsize → ended (l.fat1 + s) ≡ u (l.fat2 + s)
  ended_fat1 s less = ended_low (l.fat1 + s) (omega (arith, sh)) ∙ done_fat1 st h u (start_mixed st h) s less

  pub ended_fat2 : (s : ℕ) → s < l.fatsize → ended (l.fat2 + s) ≡ u (l.fat2 + s)
  ended_fat2 s less = ended_low (l.fat2 + s) (omega (arith, sh)) ∙ still_kept st h (complete st h) all_mixed (l.fat2 + s) (still_fat2 st h s less)

  pub ended_root : (r : ℕ) → r < l.entries / 16 → ended (root_place l r) ≡ clip (root_sector (new_root st h) r)
  ended_root r less = ended_low (root_place l r) (omega (arith, sh)) ∙ done_root st h u (start_mixed st h) r less

  ended_alike : Alike c ended
  ended_alike = record {
    boot = ended_low 0 (omega (arith, sh)) ∙ (mixed_alike (complete st h) all_mixed).boot;
    marks = λ k low high. marks_same l sh (fat1_of l ended) (fat2_of l u) ended_fat1 k low high ∙ h.marks k low high;
  }

  ended_order : root_ok l.entries (first_bytes l ended) ≡ true
  ended_order =
      let roots : (r : ℕ) → r < l.entries / 16 → ended (root_place l r) ≡ complete st h (root_place l r) = λ r less. ended_low (root_place l r)
      (omega (arith, sh)) in
      let firsts : (k : ℕ) → k < l.entries → first_bytes l ended k ≡ first_bytes l (complete st h) k =
      λ k less. ap (λ (b : Bytes). b 0) (slots_same l sh ended (complete st h) roots k less) in
      order_same l.entries (first_bytes l (complete st h)) (first_bytes l ended) firsts complete_rooted

  -- The mark leaves no record pending.
  ended_quiet : (j : ℕ) → j < log.sectors → Quiet (ended (log.sector + j))
  unfolding commit
  ended_quiet j less =
      let mark : Bytes = committed (group_records o) (u (log.sector + i)) in
      let marked-quiet : Quiet (clip mark) =
      subst (λ (b : Bytes). Quiet (clip (committed (group_records o) b))) (sym h.stored.bytes)
      (committed_quiet (group_records o) (clip (encode o)) (rest_zero o h.fits)) in
      put_case Quiet (complete st h) (commit u (grp st h)) (log.sector + j)
      (λ _. subst Quiet (sym (clip_clip mark)) marked-quiet)
      (λ ne. subst Quiet (sym (log_kept (complete st h) all_mixed j)) (h.stored.others j less (λ e. ne (ap (λ j. log.sector + j) e))))

  ended_calm : pending l log ended ≡ Pending.Nothing
  unfolding pending
  ended_calm = quiet_calm l.entries _ log (log_of log ended) ended_quiet

  pub ended_rests : recovery size ended ≡ idle
  unfolding recover_stores
  ended_rests =
      recovery_is st ended ended_alike Pending.Nothing ended_order ended_calm refl
      ∙ ap (λ ss. granted (ending ss)) (write_none l l.fat2 (fat1_of l ended) (fat2_of l ended) (λ s less. ended_fat1 s less ∙ sym (ended_fat2 s less)))

  pub ended_clean : clean (window size ended) ≡ granted (volume_of c Pending.Nothing)
  ended_clean = clean_same size c ended ended_alike st.clean.fit ended_order ended_calm
      (agree_of l ended (λ s less. ended_fat1 s less ∙ sym (ended_fat2 s less)))
