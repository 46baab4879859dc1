-- What is shown of the program of every call, and that an operation's program has it.
use Prim.Native.Nat.{ℕ, ◌+◌, ◌/◌, ◌≤◌, ◌<◌}
use native.Mathlib.Omega.{arith}
use mathlib.Core.Path.{◌≡◌, ap, ◌∙◌}
use mathlib.Core.List.{List, [], ◌∷◌, ◌++◌}
use lib.ListN.{length, length-append}
use Rattle.model.specs.Sector.{Card, Store, after, put}
use Rattle.model.specs.Fat.{fat1_of, Fat, fat2_of, is_free}
use Rattle.model.specs.Log.{log_of}
use Rattle.model.specs.Ground.{granted}
use Rattle.model.specs.Volume.{clean}
use Rattle.model.specs.Promises.{Shape}
use Rattle.model.specs.Record.{Group, commit}
use Rattle.model.specs.declared.Layout.{Layout}
use Rattle.model.specs.Record.{Change}
use Rattle.model.specs.declared.Pending.{Pending}
use Rattle.model.specs.declared.Volume.{Volume}
use Rattle.operations.proofs.Clearing.{clearing_length}
use Rattle.operations.specs.Program.{Program, stores, ending}
use Rattle.operations.specs.Finish.{finish, redo}
use Rattle.operations.proofs.Roots.{redo_stores}
use Rattle.operations.specs.Plan.{operate, journal, prepare, new_group, group_store}
use Rattle.operations.specs.Outcome.{largest}
use Rattle.safety.specs.Sound.{Sound}
use Rattle.model.proofs.All.{All}
use Rattle.model.proofs.Fats.{free, write_length, entry_clip}
use Rattle.model.proofs.Volumes.{window, volume_of, layout_of, first_fat, area_of}
use Rattle.safety.proofs.Journal.{Kept}
use Rattle.safety.proofs.Start.{Start, shape_of, fatsize_few, entries_few, log_few}
use Rattle.safety.proofs.Before.{Wanted, start_rests}
use Rattle.safety.proofs.Steps.{finish_length}
use Rattle.safety.proofs.Operate.{OnCard, Supplies, operate_kept, operate_inside, leaves}
use Rattle.safety.proofs.Clusters.{FreeThen, none_free}
use Rattle.safety.proofs.Files.{SparesFiles, no_data}

pub record Fair (size : ℕ) (c : Card) (taken released : List ℕ) (q : Program) : Type 1 where
  -- The data stores of the program, and the laws of a journal.
  pub data_stores : List Store
  pub kept : Kept size (Wanted c data_stores) c q
  -- The largest limit lets all stores through, and they are within the card.
  pub short : length (stores q) ≤ largest
  pub inside : All (OnCard c) (stores q)
  -- The card at the end is clean, and its free clusters are those before, less those taken, plus those released.
  pub cleans : clean (window size (after (stores q) c)) ≡ granted (volume_of c Pending.Nothing)
  pub frees : (j : ℕ) → j < 2 + (layout_of c).clusters → free (fat1_of (layout_of c) (after (stores q) c)) j ≡ FreeThen (first_fat c) taken released j
  -- On a sound card the data stores spare every byte of every file.
  pub spares : Sound (layout_of c) c → SparesFiles c data_stores

module _ {size : ℕ} {c : Card} (st : Start size c) where
  abbrev l : Layout
  l = layout_of c

  abbrev v : Volume
  v = volume_of c Pending.Nothing

  sh : Shape l
  sh = shape_of st

  -- How many stores there are.
  operate_length : (ds : List Store) (f : Fat) (o : Change) → length (stores (operate v c ds f o)) ≤ length ds + 140000
  unfolding operate journal prepare
  operate_length ds f o =
      let g : Group = new_group (area_of c) c o in
      let u : Card = put (after (prepare v c ds f) c) (group_store g) in
      let fat2 = write_length l l.fat2 f (fat2_of l c) in
      let cleared = clearing_length (area_of c) (log_of (area_of c) c) in
      let steps : length (stores (redo l g u)) ≡ length (finish l g.change u ++ (commit u g ∷ [])) = ap (λ ss. length ss) (redo_stores l g u) in
      let last = length-append (finish l g.change u) (commit u g ∷ []) in
      simp length-append (omega (arith, fat2, cleared, steps, last, finish_length l g.change u, fatsize_few st, entries_few st, log_few st))

  -- ---- operations

  module _ (ds : List Store) (f : Fat) (o : Change) (given : Supplies c ds f o) (taken released : List ℕ) where
    pub operate_fair : length ds ≤ 8388608 → ((j : ℕ) → free f j ≡ FreeThen (first_fat c) taken released j)
        → (Sound l c → SparesFiles c ds) → Fair size c taken released (operate v c ds f o)
    operate_fair less frees spares = record {
      data_stores = ds;
      kept = operate_kept st ds f o given;
      short = omega (arith, operate_length ds f o);
      inside = operate_inside st ds f o given;
      cleans = (leaves st ds f o given).cleans;
      frees = λ j less. ap (λ y. is_free y) (entry_clip f (fat1_of l (after (stores (operate v c ds f o)) c)) j
          ((leaves st ds f o given).fat1 (j / 256) (omega (arith, sh)))) ∙ frees j;
      spares = spares;
    }

  -- An operation without data stores.
  pub plain_fair : (f : Fat) (o : Change) → Supplies c [] f o → (taken released : List ℕ) → ((j : ℕ) → free f j ≡ FreeThen (first_fat c) taken released j)
      → Fair size c taken released (operate v c [] f o)
  plain_fair f o given taken released frees = operate_fair [] f o given taken released (omega arith) frees (no_data st)

  -- A call that stores nothing.
  pub idle_fair : clean (window size c) ≡ granted v → Fair size c [] [] (ending [])
  unfolding after
  idle_fair is = record {
    data_stores = [];
    kept = Kept.none (start_rests st);
    short = omega arith;
    inside = tt;
    cleans = is;
    frees = λ j less. none_free (first_fat c) j;
    spares = no_data st;
  }
