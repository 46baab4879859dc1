-- Every operation that the log holds keeps the laws of a journal, if it supplies a few facts.
use Prim.Native.Nat.{ℕ, ◌+◌, ◌/◌, ◌<◌}
use native.Mathlib.Omega.{arith}
use mathlib.Core.Path.{◌≡◌, refl, sym, ap, ◌∙◌, subst}
use mathlib.Core.Logic.{◌⊎◌}
use mathlib.Core.List.{List, [], ◌∷◌, ◌++◌}
use lib.Dec.{ltb}
use borrow.Author.Tests.{ltb-true}
use Rattle.model.specs.Bytes.{pick, zeros}
use Rattle.model.specs.Sector.{Card, Store, clip, store, after, put}
use Rattle.model.specs.Fat.{Fat, fat1_of, fat2_of, write_fat, is_reserved}
use Rattle.model.specs.Root.{slot_at, root_place}
use Rattle.model.specs.Log.{unused, log_of}
use Rattle.model.specs.Record.{Change, Group, encode, group_of, commit}
use Rattle.model.specs.Pending.{fills}
use Rattle.model.specs.Ground.{granted}
use Rattle.model.specs.Volume.{clean}
use Rattle.model.specs.Promises.{Shape}
use Rattle.model.specs.declared.Area.{Area}
use Rattle.model.specs.declared.Layout.{Layout}
use Rattle.model.specs.declared.Pending.{Pending}
use Rattle.model.specs.declared.Volume.{Volume}
use Rattle.operations.proofs.Clearing.{clearing_all}
use Rattle.operations.specs.Program.{stores}
use Rattle.operations.specs.Finish.{root_sector, effect, finish, redo}
use Rattle.operations.specs.Plan.{prepare, group_store, operate, journal, new_group, clearing, group_sector}
use Rattle.model.proofs.Tests.{by_pick}
use Rattle.model.proofs.All.{All, all_map, all_append}
use Rattle.model.proofs.Cards.{Away, after_append, after_away, put_out, put_in, clip_clip}
use Rattle.model.proofs.Changes.{Keeps, after_keeps, put_clipped}
use Rattle.model.proofs.Fats.{write_done, entry_clip}
use Rattle.model.proofs.Records.{ChangeFits}
use Rattle.model.proofs.Recorded.{Recorded}
use Rattle.model.proofs.Pendings.{quiet_zeros, Quiet}
use Rattle.model.proofs.Volumes.{layout_of, SameMarks, first_fat, window, volume_of, area_of}
use Rattle.safety.proofs.Journal.{Laws, Kept, end_card}
use Rattle.safety.proofs.Start.{Clear, Start, shape_of, log_some, data_free, log_low, log_high}
use Rattle.safety.proofs.Before.{Harmless, Spared, Before, harmless_keeps, fat2_harmless, before_start, Wanted, goes_back}
use Rattle.safety.proofs.Effect.{Lives}
use Rattle.safety.proofs.Steps.{prepare_all, finish_all}
use Rattle.safety.proofs.After.{past_slot, LowSlots, Entered}
use Rattle.operations.proofs.Roots.{redo_stores}
use Rattle.safety.proofs.Redo.{Held, start_held, redo_leads, goes_forth, ended, ended_rests, ended_clean, ended_fat1, ended_fat2, ended_root}

-- A store within the card.
abbrev pub OnCard : Card → Store → Type 0
OnCard c s = s.sector < (layout_of c).total

-- What an operation supplies: its data goes to data sectors outside the log; its FAT marks the same clusters as the log; its group can be
-- written and read again, and RECORD accepts it; no slot that it fills begins 0;
-- its slots are filled from the lowest on, or are not above the lowest that begins 0.
pub record Supplies (c : Card) (ds : List Store) (f : Fat) (o : Change) : Type 0 where
  pub outside : All (λ s. Clear c s.sector) ds
  pub marks : SameMarks (layout_of c) f (first_fat c)
  pub fits : ChangeFits o
  pub recorded : Recorded (layout_of c).entries (past_slot c o) o
  pub lives : Lives (slot_at (layout_of c) c) o
  pub lined : (0 < fills o.operation) ⊎ LowSlots c o

-- What a finished operation leaves: a clean card, both FATs as the operation wants them, the root directory with its effect.
pub record Leaves (size : ℕ) (c : Card) (f : Fat) (o : Change) (t : Card) : Type 0 where
  pub cleans : clean (window size t) ≡ granted (volume_of c Pending.Nothing)
  pub fat1 : (s : ℕ) → s < (layout_of c).fatsize → fat1_of (layout_of c) t s ≡ clip (f s)
  pub fat2 : (s : ℕ) → s < (layout_of c).fatsize → fat2_of (layout_of c) t s ≡ clip (f s)
  pub root : (r : ℕ) → r < (layout_of c).entries / 16 → t (root_place (layout_of c) r) ≡ clip (root_sector (effect o (slot_at (layout_of c) c)) r)

module _ {size : ℕ} {c : Card} (st : Start size c) where
  abbrev l : Layout
  l = layout_of c

  abbrev log : Area
  log = area_of c

  abbrev v : Volume
  v = volume_of c Pending.Nothing

  sh : Shape l
  sh = shape_of st

  -- The group's sector, counted from the log's first.
  abbrev pub spot : ℕ
  spot = pick (ltb (unused log.sectors (log_of log c)) log.sectors) (unused log.sectors (log_of log c)) 0

  pub spot_in : spot < log.sectors
  spot_in = by_pick (λ i. i < log.sectors) (ltb (unused log.sectors (log_of log c)) log.sectors) (unused log.sectors (log_of log c)) 0
      (ltb-true (unused log.sectors (log_of log c)) log.sectors) (λ _. log_some st)

  -- ---- before the group's store

  zeros_harmless : (ds : List Store) (i : ℕ) → i < log.sectors → Harmless c ds (store (log.sector + i) zeros)
  zeros_harmless ds i less = record {
    elsewhere = data_free l sh (log.sector + i) (omega (arith, log_low st));
    quiet = λ j small e. quiet_zeros;
    spares = λ n j m e. absurd (m.clear.no_log i less (sym e));
  }

  -- A data store spares what it spares.
  data_harmless : (ds es : List Store) → ((n j : ℕ) → Spared c ds n j → All (λ s. n ≡ s.sector → clip s.bytes j ≡ c n j) es)
      → All (λ s. Clear c s.sector) es → All (Harmless c ds) es
  data_harmless ds [] h k = tt
  data_harmless ds (s ∷ es) h k =
      let own : Harmless c ds s = record {
        elsewhere = data_free l sh s.sector k.0.in_data;
        quiet = λ i less e. absurd (k.0.no_log i less e);
        spares = λ n j m. (h n j m).0;
      } in
      (own, data_harmless ds es (λ n j m. (h n j m).1) k.1)

  module _ (ds : List Store) (f : Fat) (o : Change) (given : Supplies c ds f o) where
    abbrev prep : List Store
    prep = prepare v c ds f

    prepare_keeps : All (Keeps (Before c ds)) prep
    prepare_keeps =
        let own : All (Harmless c ds) ds = data_harmless ds ds (λ n j m. m.kept) given.outside in
        all_map (Harmless c ds) (Keeps (Before c ds)) (harmless_keeps c ds) prep
        (prepare_all v c ds f (Harmless c ds) own (λ s less. fat2_harmless st ds (f s) s less) (zeros_harmless ds))

    prepared : Before c ds (after prep c)
    prepared = after_keeps (Before c ds) prep prepare_keeps c (before_start st ds)

    -- FAT2 is then as the operation wants it.
    prepare_fat2 : (s : ℕ) → s < l.fatsize → after prep c (l.fat2 + s) ≡ clip (f s)
    unfolding prepare
    prepare_fat2 s less =
        let fats : List Store = write_fat l l.fat2 f (fat2_of l c) in
        let cleared : List Store = clearing log (log_of log c) in
        let data_away : Away ds (l.fat2 + s) =
        all_map (λ t. Clear c t.sector) (λ t. l.fat2 + s ≡ t.sector → ⊥) (λ t k q. omega (arith, sh, k.in_data)) ds given.outside in
        let log-away : Away cleared (l.fat2 + s) = clearing_all log (log_of log c) (λ t. l.fat2 + s ≡ t.sector → ⊥)
        (λ i k q. omega (arith, sh, log_low st)) in
        (λ t. (after_append ds (fats ++ cleared) c ∙ after_append fats cleared (after ds c)) t (l.fat2 + s))
        ∙ after_away cleared (after fats (after ds c)) (l.fat2 + s) log-away
        ∙ write_done l l.fat2 f (fat2_of l c) (after ds c) s less (st.clipped (l.fat2 + s) ∙ sym (after_away ds c (l.fat2 + s) data_away))

    -- ---- the group's store

    abbrev the_group : Group
    the_group = group_of (log.sector + spot) o

    abbrev with_group : Card
    with_group = put (after prep c) (group_store the_group)

    group_else : (n : ℕ) → (n ≡ log.sector + spot → ⊥) → with_group n ≡ after prep c n
    unfolding group_store
    group_else n e = put_out (after prep c) (group_store the_group) n e

    fat2_is : (s : ℕ) → s < l.fatsize → with_group (l.fat2 + s) ≡ clip (f s)
    fat2_is s less = group_else (l.fat2 + s) (λ e. omega (arith, sh, log_low st)) ∙ prepare_fat2 s less

    entered : Entered c with_group spot o
    unfolding group_store
    entered = record {
      clipped = put_clipped (after prep c) (group_store the_group) prepared.clipped;
      fixed = λ n k. group_else n (λ e. data_free l sh n (omega (arith, log_low st)) k) ∙ prepared.fixed n k;
      marks = λ k low high. ap (λ y. is_reserved y) (entry_clip f (fat2_of l with_group) k (fat2_is (k / 256) (omega (arith, sh)))) ∙ given.marks k low high;
      stored = record {
        in_log = spot_in;
        bytes = put_in (after prep c) (group_store the_group) (log.sector + spot) refl ∙ clip_clip (encode o);
        others = λ j less ne. subst Quiet (sym (group_else (log.sector + j) (λ e. ne (omega arith)))) (prepared.quiet j less);
      };
      fits = given.fits;
      recorded = given.recorded;
      lives = given.lives;
      lined = given.lined;
    }

    laws : Laws size (Wanted c ds) (Before c ds) (Held st entered) c prep (group_store the_group) (redo l the_group with_group) with_group (ended st entered)
    laws = record {
      starts = before_start st ds;
      prepares = prepare_keeps;
      back = goes_back st ds;
      u_is = refl;
      leads = redo_leads st entered with_group (start_held st entered);
      forth = goes_forth st entered;
      rests = ended_rests st entered;
    }

    -- The generic lemma: an operation that supplies these facts keeps the laws.
    pub operate_kept : Kept size (Wanted c ds) c (operate v c ds f o)
    unfolding operate journal new_group group_sector
    operate_kept = Kept.group laws

    pub leaves : Leaves size c f o (after (stores (operate v c ds f o)) c)
    unfolding operate journal new_group group_sector
    leaves = subst (Leaves size c f o)
        (sym (end_card size (Wanted c ds) (Before c ds) (Held st entered) c prep (group_store the_group) (redo l the_group with_group) with_group
        (ended st entered) laws))
        (record {
          cleans = ended_clean st entered;
          fat1 = λ s less. ended_fat1 st entered s less ∙ fat2_is s less;
          fat2 = λ s less. ended_fat2 st entered s less ∙ fat2_is s less;
          root = ended_root st entered;
        })

    -- Every store is within the card.
    pub operate_inside : All (OnCard c) (stores (operate v c ds f o))
    unfolding operate journal new_group group_sector group_store commit
    operate_inside =
        let own : All (OnCard c) ds = all_map (λ s. Clear c s.sector) (OnCard c) (λ s k. k.inside) ds given.outside in
        let before : All (OnCard c) prep = prepare_all v c ds f (OnCard c) own (λ s less. omega (arith, sh)) (λ i less. omega (arith, log_high st)) in
        let then : All (OnCard c) (finish l o with_group) = finish_all l o with_group (OnCard c) (λ s less. omega (arith, sh)) (λ r less. omega (arith, sh)) in
        let at : log.sector + spot < l.total = omega (arith, spot_in, log_high st) in
        all_append (OnCard c) prep _ before
        (at, subst (All (OnCard c)) (sym (redo_stores l the_group with_group)) (all_append (OnCard c) (finish l o with_group) _ then (at, tt)))
