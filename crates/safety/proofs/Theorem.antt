-- Demand 3 holds for every call, and the other promises.
use Prim.Native.Nat.{ℕ, ◌+◌, ◌*◌, ◌/◌, ◌%◌, ◌<◌}
use native.Mathlib.Omega.{arith}
use mathlib.Core.Path.{◌≡◌, refl, sym, ap, ◌∙◌, subst, fun_ext}
use mathlib.Core.List.{List, [], ◌∷◌}
use mathlib.Core.Bool.{Bool, true, false}
use lib.Dec.{leb}
use lib.ListN.{take, length, get_or}
use lib.Seq.{take-nil, take_all}
use borrow.Author.Tests.{leb-true, le-leb}
use Rattle.model.specs.Bytes.{pick}
use Rattle.model.specs.Sector.{Card, Store, after, Window, window_of}
use Rattle.model.specs.Fat.{fat1_of}
use Rattle.model.specs.Chain.{file_sector}
use Rattle.model.specs.Root.{file_at, root_place}
use Rattle.model.specs.Ground.{Answer, refused, granted}
use Rattle.model.specs.Volume.{clean}
use Rattle.model.specs.declared.Ground.{Ground}
use Rattle.model.specs.declared.Layout.{Layout}
use Rattle.model.specs.declared.Pending.{Pending}
use Rattle.model.specs.declared.Volume.{Volume}
use Rattle.model.specs.Outcome.{Refused, Done, Stopped}
use Rattle.operations.specs.Program.{Program, stores}
use Rattle.operations.specs.Calls.{Call, plan, taken_by, released_by, recovers}
use Rattle.operations.specs.Outcome.{made, left, outcome, largest}
use Rattle.operations.specs.Reading.{file_byte}
use Rattle.safety.specs.Sound.{chain_of, Sound}
use Rattle.safety.specs.Cuts.{program_of, Later, recovery, Cut, next, passes_group, now}
use Rattle.safety.specs.Demand3.{recoveries, Genuine, finished, group_stored, SameTables, settles_as, SameFiles, Settles, HeldBack, Demand3}
use Rattle.safety.specs.AfterCall.{AfterCall, AfterCalls, RecoveryRests}
use Rattle.model.proofs.Indices.{mem_all}
use Rattle.model.proofs.Cards.{clip_clip}
use Rattle.model.proofs.Fats.{free}
use Rattle.model.proofs.Volumes.{window, layout_of, volume_of, cleaned, first_fat}
use Rattle.safety.proofs.Journal.{prefix_cut, Ends, idle, Goal, every_run}
use Rattle.safety.proofs.Start.{Start, Table}
use Rattle.safety.proofs.Before.{Wanted, start_rests}
use Rattle.safety.proofs.Operate.{OnCard}
use Rattle.safety.proofs.Clusters.{FreeThen}
use Rattle.safety.proofs.Files.{chain_kept}
use Rattle.safety.proofs.Fair.{Fair}
use Rattle.safety.proofs.Calls.{if_granted, shown}

-- ---- cuts by limits

pub limit_made : (limit : ℕ) (a : Answer Program) → made limit a ≡ take limit (stores (program_of a))
unfolding made
limit_made limit (refused g) = sym (take-nil limit)
limit_made limit (granted p) = refl

pub limits_later : (size : ℕ) (limits : List ℕ) (y z : Card) → Later size y z → Later size y (recoveries limits (window size z)).card
unfolding left
limits_later size [] y z k = k
limits_later size (limit ∷ limits) y z k =
    let q : Program = program_of (recovery size z) in
    let cut : Cut q (take limit (stores q)) = (prefix_cut q limit).0 in
    limits_later size limits y (after (made limit (recovery size z)) z)
    (next (take limit (stores q)) k cut (ap (λ ss. after ss z) (limit_made limit (recovery size z))))

pub same_window : (size : ℕ) (limits : List ℕ) (z : Card) → recoveries limits (window size z) ≡ window size (recoveries limits (window size z)).card
unfolding left
same_window size [] z = refl
same_window size (limit ∷ limits) z = same_window size limits (after (made limit (recovery size z)) z)

-- ---- the last recovery

module _ (size : ℕ) (Good : Card → Type 0) (x : Card) (once : ℕ) where
  ends_accepted : (a : Answer Program) → Ends size Good a x → (g : Ground) → outcome once a ≡ Refused g → ⊥
  unfolding outcome
  ends_accepted (refused f) h g e = h
  ends_accepted (granted p) h g e = go (leb (length (stores p)) once) e
    where
      go : (t : Bool) → pick t (Done (length (stores p))) (Stopped once) ≡ Refused g → ⊥
      go true r = let z : ◌≡◌ {A = ℕ} 0 1 = cc in omega arith
      go false r = let z : ◌≡◌ {A = ℕ} 0 1 = cc in omega arith

  pub ends_done : (a : Answer Program) → Ends size Good a x → (n : ℕ) → outcome once a ≡ Done n
      → Good (after (made once a) x) × (recovery size (after (made once a) x) ≡ idle)
  unfolding outcome made
  ends_done (refused f) h n e = absurd h
  ends_done (granted p) h n e = go (leb (length (stores p)) once) refl e
    where
      go : (t : Bool) → leb (length (stores p)) once ≡ t → pick t (Done (length (stores p))) (Stopped once) ≡ Done n
          → Good (after (take once (stores p)) x) × (recovery size (after (take once (stores p)) x) ≡ idle)
      go true t r = rw (take_all once (stores p) (leb-true (length (stores p)) once t)) (h.0, h.1)
      go false t r = let z : ◌≡◌ {A = ℕ} 0 1 = cc in absurd (omega arith)

-- Under the largest limit it ends.
pub ends_at_last : (size : ℕ) (Good : Card → Type 0) (x : Card) (a : Answer Program) → Ends size Good a x → (n : ℕ) × (outcome largest a ≡ Done n)
unfolding outcome
ends_at_last size Good x (refused f) h = absurd h
ends_at_last size Good x (granted p) h = (length (stores p), rw (le-leb (length (stores p)) largest h.2))

-- Bytes of a file along its chain.
pub along : (l : Layout) (x : Card) (s : ℕ) (ks : List ℕ) (i : ℕ) → chain_of l x s ≡ ks
    → file_byte l x (file_at l x s) i ≡ x (file_sector l ks (i / 512)) (i % 512)
unfolding file_byte chain_of
along l x s ks i e = ap (λ (ks : List ℕ). x (file_sector l ks (i / 512)) (i % 512)) e

-- ---- the theorem

module _ (k : Call) (w : Window) (v : Volume) (real : Genuine w) (is : clean w ≡ granted v) where
  abbrev c : Card
  c = w.card

  abbrev l : Layout
  l = layout_of c

  abbrev q : Program
  q = program_of (plan k w)

  pub volume : v ≡ volume_of c Pending.Nothing
  volume = (cleaned w.size c v is).1

  pub the_start : Start w.size c
  the_start = record { clean = (cleaned w.size c v is).0; clipped = real.sectors; small = real.bytes }

  pub fair : Fair w.size c (if_granted (plan k w) (taken_by (volume_of c Pending.Nothing) c k))
      (if_granted (plan k w) (released_by (volume_of c Pending.Nothing) c k)) q
  fair = shown the_start (is ∙ ap granted volume) k

  -- What is wanted of bytes: of the FATs, of the root directory, and of the files of a sound card.
  abbrev pub Kind : ℕ → ℕ → Type 0
  Kind = Wanted c fair.data_stores

  abbrev pub all_made : Card
  all_made = after (stores q) c

  -- The largest limit lets the call finish.
  pub most_finishes : finished k w ≡ all_made
  unfolding left
  most_finishes = ap (λ ss. after ss c) (limit_made largest (plan k w) ∙ take_all largest (stores q) fair.short)

  good_tables : (b : Bool) (x : Card) → Goal Kind c all_made b x → SameTables l x (settles_as b k w)
  good_tables true x g =
      let same : x ≡ finished k w = g ∙ sym most_finishes in
      record { fat1 = λ s less. λ t. same t (l.fat1 + s); fat2 = λ s less. λ t. same t (l.fat2 + s); root = λ r less. λ t. same t (root_place l r) }
  good_tables false x g = record {
    fat1 = λ s less. fun_ext (λ j. g (l.fat1 + s) j (Wanted.table (Table.fat1 s less refl)));
    fat2 = λ s less. fun_ext (λ j. g (l.fat2 + s) j (Wanted.table (Table.fat2 s less refl)));
    root = λ r less. fun_ext (λ j. g (root_place l r) j (Wanted.table (Table.root r less refl)));
  }

  pub good_files : Sound l c → (b : Bool) (x : Card) → Goal Kind c all_made b x → SameFiles l x (settles_as b k w)
  good_files sound true x g = λ s less is i small. λ t. file_byte l ((g ∙ sym most_finishes) t) (file_at l ((g ∙ sym most_finishes) t) s) i
  good_files sound false x g = λ s less is i small.
      let chains : chain_of l x s ≡ chain_of l c s = chain_kept the_start s (sound.chains s less is) less x (λ n h. fun_ext (λ j. g n j (Wanted.table h))) in
      along l x s (chain_of l c s) i chains ∙ g (file_sector l (chain_of l c s) (i / 512)) (i % 512) (Wanted.file (fair.spares sound s i less is small))
      ∙ sym (along l c s (chain_of l c s) i refl)

  settled_at : (b : Bool) (once : ℕ) (x : Card) → Ends w.size (Goal Kind c all_made b) (recovery w.size x) x → Settles b k w v once (window w.size x)
  unfolding left
  settled_at b once x h = rw volume (
      let done = ends_done w.size (Goal Kind c all_made b) x once (recovery w.size x) h in
      record {
        accepted = ends_accepted w.size (Goal Kind c all_made b) x once (recovery w.size x) h;
        tables = λ n e. good_tables b (after (made once (recovery w.size x)) x) (done n e).0;
        files = λ n e sound. good_files sound b (after (made once (recovery w.size x)) x) (done n e).0;
        rests = λ n e. (done n e).1;
      })

  after_it : AfterCall k w v
  unfolding left outcome
  after_it = rw volume (record {
    ends = λ p e. rw (e, le-leb (length (stores p)) largest (rw e at fair.short));
    clean_again = ap (λ x. clean (window w.size x)) most_finishes ∙ fair.cleans;
    free_clusters_then = λ p e j less.
        ap (λ x. free (fat1_of l x) j) most_finishes ∙ fair.frees j less
        ∙ (λ t. FreeThen (first_fat c) (if_granted (e t) (taken_by (volume_of c Pending.Nothing) c k))
        (if_granted (e t) (released_by (volume_of c Pending.Nothing) c k)) j);
    within = mem_all (OnCard c) (stores q) fair.inside;
  })

-- On a card that holds stores back.
pub held_back : HeldBack
held_back k w v real is zs cut y later once =
    settled_at k w v real is (passes_group (program_of (plan k w)) zs cut) once y
    (every_run w.size (Kind k w v real is) w.card (program_of (plan k w)) (fair k w v real is).kept zs cut y later)

-- A cut by a limit, and recoveries cut by limits, are a cut and recoveries of a card that holds stores back.
pub by_limits : (P : Bool → Window → Type 0) (k : Call) (w : Window) (limit : ℕ) (limits : List ℕ)
    → ((zs : List Store) (cut : Cut (program_of (plan k w)) zs) (y : Card) → Later w.size (after zs w.card) y
    → P (passes_group (program_of (plan k w)) zs cut) (window w.size y))
    → P (group_stored limit k w) (recoveries limits (left limit k w))
unfolding left
by_limits P k w limit limits back =
    let q : Program = program_of (plan k w) in
    let z : Card = after (take limit (stores q)) w.card in
    let start : after (made limit (plan k w)) w.card ≡ z = ap (λ ss. after ss w.card) (limit_made limit (plan k w)) in
    let x : Card = (recoveries limits (window w.size z)).card in
    let cut = prefix_cut q limit in
    rw (start, same_window w.size limits z)
    (subst (λ b. P b (window w.size x)) cut.1 (back (take limit (stores q)) cut.0 x (limits_later w.size limits z z now)))

-- Demand 3.
pub demand3 : Demand3
demand3 k w v real is limit limits once =
    by_limits (λ b x. Settles b k w v once x) k w limit limits (λ zs cut y later. held_back k w v real is zs cut y later once)

-- The window of a slice of bytes is genuine.
pub genuine : (xs : List ℕ) → ((i : ℕ) → get_or xs i 0 < 256) → Genuine (window_of xs)
genuine xs h = record { sectors = λ n. clip_clip (λ j. get_or xs (512 * n + j) 0); bytes = λ n j. h (512 * n + j % 512) }

pub after_calls : AfterCalls
after_calls = after_it

pub recovery_rests : RecoveryRests
recovery_rests w v real is = start_rests (the_start recovers w v real is)
