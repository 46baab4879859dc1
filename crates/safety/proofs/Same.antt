-- A card with the boot sector, the FATs and the root directory of the one at the start, on which a recovery stores nothing: it is clean,
-- sound if that was, and a name is read as on it.
use Prim.Native.Nat.{ℕ, zero, suc, ◌+◌, ◌-◌, ◌/◌, ◌<◌, min}
use native.Mathlib.Omega.{arith}
use mathlib.Core.Path.{◌≡◌, refl, sym, ap, ◌∙◌, subst}
use mathlib.Core.Logic.{⊎_elim}
use mathlib.Core.List.{[], ◌∷◌, ◌++◌, Memᴰ}
use lib.ListN.{length, length-append}
use mathlib.Core.Bool.{Bool, true, false}
use lib.Dec.{eqb}
use Rattle.model.specs.Bytes.{Bytes, Span, pick}
use Rattle.model.specs.Sector.{Card}
use Rattle.model.specs.Fat.{entry, fat1_of, in_range, is_end}
use Rattle.model.specs.Chain.{ends_after, keeps_chain, needed}
use Rattle.model.specs.Root.{slot_at, root_place, is_file, file_size, first_cluster, file_at, find, lowest_slot, bears, slot_holds}
use Rattle.model.specs.Pending.{pending, is_broken}
use Rattle.model.specs.Ground.{Answer, refused, granted}
use Rattle.model.specs.Volume.{clean, examine}
use Rattle.model.specs.Promises.{Shape}
use Rattle.model.specs.declared.File.{File}
use Rattle.model.specs.declared.Layout.{Layout}
use Rattle.model.specs.declared.Pending.{Pending}
use Rattle.model.specs.declared.Volume.{Volume}
use Rattle.operations.specs.Program.{ending, stores}
use Rattle.model.specs.Record.{Group, group_in, commit}
use Rattle.operations.specs.Finish.{finish, redo}
use Rattle.operations.proofs.Roots.{redo_stores}
use Rattle.operations.specs.Plan.{recover_stores}
use Rattle.operations.specs.Calls.{plan, recover, slot_of, admit, file_named, file_of, whole, name_of}
use Rattle.operations.specs.Reading.{read, reading, file_byte, filled_outcome, buffer_after}
use Rattle.safety.specs.Sound.{Sound, chain_of, proper}
use Rattle.safety.specs.Cuts.{recovery}
use Rattle.safety.specs.Demand3.{SameFiles}
use Rattle.safety.specs.Restored.{ReadsAs}
use Rattle.model.proofs.Laying.{overlay_same}
use Rattle.model.proofs.Tests.{clash, less?}
use Rattle.model.proofs.Scan.{first_same}
use Rattle.model.proofs.Fats.{agree_of, entry_same}
use Rattle.model.proofs.Walks.{inside}
use Rattle.model.proofs.Grounds.{bound, then, ends}
use Rattle.model.proofs.Lookups.{holds_none}
use Rattle.operations.proofs.Admitted.{named_is}
use Rattle.model.proofs.Volumes.{window, layout_of, area_of, pending_of, first_fat, volume_of, Alike, layout_same, area_same, examined, clean_same}
use Rattle.safety.proofs.Journal.{idle}
use Rattle.safety.proofs.Start.{Start, Table, shape_of, fats_same, marks_same, slots_same, root_kept}
use Rattle.safety.proofs.Files.{chain_kept}
use Rattle.safety.proofs.Granted.{file_at_name}
use Rattle.safety.proofs.Readings.{opened, found_in}
use Rattle.model.specs.declared.Access.{Access}

-- ---- chains along entries that are the same within the card

module _ (l : Layout) (e g : ℕ → ℕ) (same : (k : ℕ) → k < 2 + l.clusters → e k ≡ g k) where
  in_same : {A : Type 0} (p : ℕ → A) (z : A) (k : ℕ) → pick (in_range l k) (p (e k)) z ≡ pick (in_range l k) (p (g k)) z
  in_same p z k = go (in_range l k) refl
    where
      go : (t : Bool) → in_range l k ≡ t → pick t (p (e k)) z ≡ pick t (p (g k)) z
      go true h = let b = inside l k h in ap p (same k (omega arith))
      go false h = refl

  ends_same : (n k : ℕ) → ends_after l e n k ≡ ends_after l g n k
  unfolding ends_after
  ends_same zero k = refl
  ends_same (suc zero) k = in_same is_end false k
  ends_same (suc (suc n)) k = in_same (ends_after l e (suc n)) false k ∙ ap (λ b. pick (in_range l k) b false) (ends_same (suc n) (g k))

  pub keeps_same : (k size : ℕ) → keeps_chain l e k size ≡ keeps_chain l g k size
  unfolding keeps_chain
  keeps_same k size = ap (λ b. pick (eqb size 0) (eqb k 0) b) (ends_same (needed l size) k)

-- ---- recovery that stores nothing finds nothing pending

calm_by : (l : Layout) (y : Card) (p : Pending) → is_broken p ≡ false → granted (recover_stores l y p) ≡ idle → p ≡ Pending.Nothing
unfolding recover_stores
calm_by l y Pending.Nothing b h = refl
calm_by l y Pending.Broken b h = clash refl b
calm_by l y (Pending.Held n) b h =
    let g : Group = group_in n (y n) in
    let e : redo l g y ≡ ending [] = cc in
    let none : length (finish l g.change y ++ (commit y g ∷ [])) ≡ 0 = ap (λ ss. length ss) (sym (redo_stores l g y)) ∙ ap (λ q. length (stores q)) e in
    absurd (omega (arith, length-append (finish l g.change y) (commit y g ∷ [])))

rests_calm : (size : ℕ) (y : Card) → recovery size y ≡ idle → pending_of y ≡ Pending.Nothing
unfolding plan recover
rests_calm size y h =
    let b = bound (examine (window size y)) _ (ending []) h in
    let e = examined size y b.0 b.1 in
    calm_by (layout_of y) y (pending_of y) e.0.sound (ap (λ (u : Volume). granted (recover_stores u.layout y u.pending)) (sym e.1) ∙ b.2)

-- ---- what read gives of a file, by its bytes

sized : (l : Layout) (c : Card) (s : ℕ) → file_size (slot_at l c s) ≡ (file_at l c s).size
unfolding file_at
sized l c s = refl

counts : (l : Layout) (y c : Card) (f : File) (offset room : ℕ)
    → filled_outcome (granted (reading l y f offset room)) ≡ filled_outcome (granted (reading l c f offset room))
unfolding filled_outcome reading
counts l y c f offset room = refl

lays : (l : Layout) (y c : Card) (f : File) (offset room : ℕ) (b : Bytes) (i : ℕ) → ((i : ℕ) → i < f.size → file_byte l y f i ≡ file_byte l c f i)
    → buffer_after (granted (reading l y f offset room)) b i ≡ buffer_after (granted (reading l c f offset room)) b i
unfolding buffer_after reading
lays l y c f offset room b i h =
    overlay_same (min room (f.size - offset)) (λ j. file_byte l y f (offset + j)) (λ j. file_byte l c f (offset + j)) 0 b
    (λ j less. h (offset + j) (omega arith)) i

-- ---- the card

module _ {size : ℕ} {c : Card} (st : Start size c) (y : Card) (boot : y 0 ≡ c 0) (tables : (n : ℕ) → Table (layout_of c) n → y n ≡ c n) where
  abbrev l : Layout
  l = layout_of c

  abbrev v : Volume
  v = volume_of c Pending.Nothing

  sh : Shape l
  sh = shape_of st

  slots : (k : ℕ) → k < l.entries → slot_at l y k ≡ slot_at l c k
  slots = slots_same l sh y c (λ r less. tables (root_place l r) (Table.root r less refl))

  fat1_same : (s : ℕ) → s < l.fatsize → fat1_of l y s ≡ fat1_of l c s
  fat1_same s less = tables (l.fat1 + s) (Table.fat1 s less refl)

  entries_same : (k : ℕ) → k < 2 + l.clusters → entry (fat1_of l y) k ≡ entry (first_fat c) k
  entries_same k less = entry_same (first_fat c) (fat1_of l y) k (fat1_same (k / 256) (omega (arith, sh)))

  pub clean_kept : recovery size y ≡ idle → clean (window size y) ≡ granted v
  clean_kept h =
      let alike : Alike c y = record { boot = boot; marks = marks_same l sh (fat1_of l y) (first_fat c) fat1_same } in
      let calm : pending l (area_of c) y ≡ Pending.Nothing = sym (λ t. pending (layout_same size c y alike t) (area_same size c y alike t) y)
      ∙ rests_calm size y h in
      clean_same size c y alike st.clean.fit (root_kept st y (λ r less. tables (root_place l r) (Table.root r less refl))) calm
      (agree_of l y (λ s less. fat1_same s less ∙ fats_same st s less ∙ sym (tables (l.fat2 + s) (Table.fat2 s less refl))))

  pub sound_kept : Sound l c → Sound l y
  unfolding proper
  sound_kept sound = record {
    chains = λ s less is.
        keeps_same l (entry (fat1_of l y)) (entry (first_fat c)) entries_same (first_cluster (slot_at l y s)) (file_size (slot_at l y s))
        ∙ (λ t. keeps_chain l (entry (first_fat c)) (first_cluster (slots s less t)) (file_size (slots s less t)))
        ∙ sound.chains s less (file s less is);
    apart = λ s t less more is it ne k m n. sound.apart s t less more (file s less is) (file t more it) ne k (there s less is k m) (there t more it k n);
  }
    where
      file : (s : ℕ) → s < l.entries → is_file (slot_at l y s) ≡ true → is_file (slot_at l c s) ≡ true
      file s less is = sym (ap is_file (slots s less)) ∙ is

      there : (s : ℕ) → s < l.entries → is_file (slot_at l y s) ≡ true → (k : ℕ) → Memᴰ k (chain_of l y s) → Memᴰ k (chain_of l c s)
      there s less is k m = subst (λ ks. Memᴰ k ks) (chain_kept st s (sound.chains s less (file s less is)) less y tables) m

  -- ---- names and grounds

  slot_same : (n : Span) → slot_of v y n ≡ slot_of v c n
  unfolding slot_of find lowest_slot
  slot_same n = first_same (λ k. bears (name_of n) (slot_at l y k)) (λ k. bears (name_of n) (slot_at l c k)) 0 l.entries
      (λ k lo hi. ap (bears (name_of n)) (slots k (omega arith)))

  file_same : (s : ℕ) → s < l.entries → file_at l y s ≡ file_at l c s
  unfolding file_at
  file_same s less = ap (λ (b : Bytes). file_by s b) (slots s less)
    where
      file_by : ℕ → Bytes → File
      file_by s b = record { entry = Rattle.model.specs.Root.entry_at s b; first = first_cluster b; size = file_size b }

  in_slot : (s : ℕ) → slot_holds l y s ≡ slot_holds l c s
  unfolding slot_holds
  in_slot s = ⊎_elim (λ less. rw (file_same s less, slots s less)) (λ more. holds_none l y s more ∙ sym (holds_none l c s more)) (less? s l.entries)

  named_same : (a : Access) (n : Span) → file_named a v y n ≡ file_named a v c n
  named_same a n = named_is a v y n ∙ ap (λ s. admit a (slot_holds l y s)) (slot_same n) ∙ ap (admit a) (in_slot (slot_of v c n)) ∙ sym (named_is a v c n)

  whole_same : whole v y ≡ whole v c
  unfolding whole
  whole_same = mathlib.Core.Path.fun_ext λ f. rw (keeps_same l (entry (fat1_of l y)) (entry (first_fat c)) entries_same f.first f.size)

  found_same : (a : Access) (n : Span) → file_of a v y n ≡ file_of a v c n
  unfolding file_of
  found_same a n = rw (named_same a n, whole_same)

  -- ---- reading

  module _ (sound : Sound l c) (files : SameFiles l y c) (is : clean (window size c) ≡ granted v) (now : clean (window size y) ≡ granted v) (n : Span) where
    byte_same : (f : File) → file_of Access.Read v c n ≡ granted f → (i : ℕ) → i < f.size → file_byte l y f i ≡ file_byte l c f i
    byte_same f e i less =
        let s : ℕ = slot_of v c n in
        let b = found_in (window size c) v is Access.Read n f e in
        let a = b.meant in
        let mine : file_at l c s ≡ f = b.mine in
        let file : is_file (slot_at l c s) ≡ true = file_at_name st is n a.in_root a.plain in
        (λ t. file_byte l y ((sym mine ∙ sym (file_same s a.in_root)) t) i)
        ∙ files s a.in_root file i (subst (λ m. i < m) (sym (size_at s f mine)) less)
        ∙ (λ t. file_byte l c (mine t) i)
      where
        size_at : (s : ℕ) (f : File) → file_at l c s ≡ f → file_size (slot_at l c s) ≡ f.size
        size_at s f e = sized l c s ∙ ap (λ (f : File). f.size) e

    pub reads_kept : ReadsAs (window size y) (window size c) n
    reads_kept = go (file_of Access.Read v c n) refl
      where
        go : (a : Answer File) → file_of Access.Read v c n ≡ a → ReadsAs (window size y) (window size c) n
        go (refused g) e =
            let there : (offset room : ℕ) → read (window size y) n offset room ≡ refused g =
            λ offset room. opened (window size y) v now n offset room ∙ ends (file_of Access.Read v y n) _ g (found_same Access.Read n ∙ e) in
            let here : (offset room : ℕ) → read (window size c) n offset room ≡ refused g =
            λ offset room. opened (window size c) v is n offset room ∙ ends (file_of Access.Read v c n) _ g e in
            record {
              answers = λ offset room. ap filled_outcome (there offset room ∙ sym (here offset room));
              buffer = λ offset room b i. λ t. buffer_after ((there offset room ∙ sym (here offset room)) t) b i;
            }
        go (granted f) e =
            let there : (offset room : ℕ) → read (window size y) n offset room ≡ granted (reading l y f offset room) =
            λ offset room. opened (window size y) v now n offset room ∙ then (file_of Access.Read v y n) _ f (found_same Access.Read n ∙ e) in
            let here : (offset room : ℕ) → read (window size c) n offset room ≡ granted (reading l c f offset room) =
            λ offset room. opened (window size c) v is n offset room ∙ then (file_of Access.Read v c n) _ f e in
            record {
              answers = λ offset room. ap filled_outcome (there offset room) ∙ counts l y c f offset room ∙ sym (ap filled_outcome (here offset room));
              buffer = λ offset room b i.
                  (λ t. buffer_after (there offset room t) b i)
                  ∙ lays l y c f offset room b i (byte_same f e)
                  ∙ sym (λ t. buffer_after (here offset room t) b i);
            }
