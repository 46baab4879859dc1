-- The card that a finished operation leaves, by FAT entries, slots and data sectors; and that what is read of a slot depends on its 32 bytes.
use Prim.Native.Nat.{ℕ, ◌+◌, ◌*◌, ◌/◌, ◌%◌, ◌<◌}
use native.Mathlib.Omega.{arith}
use mathlib.Core.Path.{◌≡◌, refl, sym, ap, ◌∙◌, fun_ext, subst}
use mathlib.Core.List.{List, [], ◌∷◌, ◌++◌}
use Rattle.model.specs.Bytes.{Bytes, le}
use Rattle.model.specs.Sector.{Card, Store, after, put}
use Rattle.model.specs.Fat.{Fat, entry, fat1_of, fat2_of, write_fat}
use Rattle.model.specs.Root.{slot_at, bears, is_file, is_directory, is_locked, is_label, listed, vacant, same_name, file_size, first_cluster, Directory}
use Rattle.model.specs.Log.{log_of}
use Rattle.model.specs.Record.{commit}
use Rattle.model.specs.Ground.{granted}
use Rattle.model.specs.Volume.{clean}
use Rattle.model.specs.Promises.{Shape}
use Rattle.model.specs.declared.Area.{Area}
use Rattle.model.specs.Record.{Group}
use Rattle.model.specs.declared.Layout.{Layout}
use Rattle.model.specs.declared.Name.{Name}
use Rattle.model.specs.Record.{Change}
use Rattle.model.specs.declared.Pending.{Pending}
use Rattle.model.specs.declared.Volume.{Volume}
use Rattle.operations.proofs.Clearing.{clearing_all}
use Rattle.operations.specs.Program.{stores}
use Rattle.operations.specs.Finish.{root_sector, effect, finish, redo}
use Rattle.operations.proofs.Roots.{redo_stores}
use Rattle.operations.specs.Plan.{prepare, group_store, operate, journal, new_group, clearing, group_sector}
use Rattle.model.proofs.All.{all_append}
use Rattle.model.proofs.Cards.{Away, after_append, after_away, clip_at}
use Rattle.model.proofs.Fats.{write_all, entry_clip}
use Rattle.model.proofs.Volumes.{layout_of, window, volume_of, area_of}
use Rattle.safety.proofs.Start.{Clear, Start, shape_of}
use Rattle.safety.proofs.Steps.{finish_all}
use Rattle.safety.proofs.Operate.{Supplies, Leaves, leaves, spot, spot_in}

pub record Ended (size : ℕ) (c : Card) (ds : List Store) (f : Fat) (o : Change) (t : Card) : Type 0 where
  pub cleans : clean (window size t) ≡ granted (volume_of c Pending.Nothing)
  pub fat : (k : ℕ) → k < 2 + (layout_of c).clusters → entry (fat1_of (layout_of c) t) k ≡ entry f k
  pub slots : (k : ℕ) → k < (layout_of c).entries → (j : ℕ) → j < 32 → slot_at (layout_of c) t k j ≡ effect o (slot_at (layout_of c) c) k j
  pub sectors : (n : ℕ) → Clear c n → t n ≡ after ds c n

module _ {size : ℕ} {c : Card} (st : Start size c) (ds : List Store) (f : Fat) (o : Change) where
  abbrev l : Layout
  l = layout_of c

  abbrev log : Area
  log = area_of c

  abbrev v : Volume
  v = volume_of c Pending.Nothing

  abbrev t : Card
  t = after (stores (operate v c ds f o)) c

  sh : Shape l
  sh = shape_of st

  -- A data sector outside the log is written by data stores alone.
  ended_data : (n : ℕ) → Clear c n → t n ≡ after ds c n
  unfolding operate journal prepare new_group group_sector group_store commit
  ended_data n k =
      let fats : List Store = write_fat l l.fat2 f (fat2_of l c) in
      let cleared : List Store = clearing log (log_of log c) in
      let prep : List Store = ds ++ (fats ++ cleared) in
      let g : Group = new_group log c o in
      let u : Card = put (after prep c) (group_store g) in
      let Off : Store → Type 0 = λ s. n ≡ s.sector → ⊥ in
      let at : n ≡ log.sector + spot st → ⊥ = λ e. k.no_log (spot st) (spot_in st) (sym e) in
      let first : Away (fats ++ cleared) n = all_append Off fats cleared
      (write_all l l.fat2 f (fat2_of l c) Off (λ s less e. omega (arith, sh, k.in_data)))
      (clearing_all log (log_of log c) Off (λ i less e. k.no_log i less (sym e))) in
      let then : Away (finish l o u) n = finish_all l o u Off (λ s less e. omega (arith, sh, k.in_data)) (λ r less e. omega (arith, sh, k.in_data)) in
      let steps : List Store = stores (redo l g u) in
      let rest : List Store = group_store g ∷ steps in
      (λ i. after_append prep rest c i n)
      ∙ after_away rest (after prep c) n (at, subst (λ ss. Away ss n) (sym (redo_stores l g u)) (all_append Off (finish l o u) (commit u g ∷ []) then (at, tt)))
      ∙ (λ i. after_append ds (fats ++ cleared) c i n) ∙ after_away (fats ++ cleared) (after ds c) n first

  module _ (given : Supplies c ds f o) where
    h : Leaves size c f o t
    h = leaves st ds f o given

    ended_slot : (k : ℕ) → k < l.entries → (j : ℕ) → j < 32 → slot_at l t k j ≡ effect o (slot_at l c) k j
    unfolding slot_at root_sector
    ended_slot k less j small =
        let new : Directory = effect o (slot_at l c) in
        let row : 16 * (k / 16) + (32 * (k % 16) + j) / 32 ≡ k = omega arith in
        let col : (32 * (k % 16) + j) % 32 ≡ j = omega arith in
        (λ i. h.root (k / 16) (omega (arith, sh)) i (32 * (k % 16) + j))
        ∙ clip_at (root_sector new (k / 16)) (32 * (k % 16) + j) (omega arith) ∙ (λ i. new (row i) (col i))

    pub ended : Ended size c ds f o t
    ended = record {
      cleans = h.cleans;
      fat = λ k less. entry_clip f (fat1_of l t) k (h.fat1 (k / 256) (omega (arith, sh)));
      slots = ended_slot;
      sectors = ended_data;
    }

-- ---- what is read of a slot

-- Two slots with the same 32 bytes.
abbrev pub SameSlot : Bytes → Bytes → Type 0
SameSlot a b = (j : ℕ) → j < 32 → a j ≡ b j

by_slot : {A : Type 0} (F : Bytes → A) → ((b : Bytes) → F (λ j. b (j % 32)) ≡ F b) → (a b : Bytes) → SameSlot a b → F a ≡ F b
by_slot F local a b h = sym (local a) ∙ ap F (fun_ext (λ j. h (j % 32) (omega arith))) ∙ local b

module _ (a b : Bytes) (h : SameSlot a b) where
  pub same_size : file_size a ≡ file_size b
  unfolding le
  same_size = by_slot (λ b. file_size b) (λ b. refl) a b h

  pub same_first : first_cluster a ≡ first_cluster b
  unfolding le
  same_first = by_slot (λ b. first_cluster b) (λ b. refl) a b h

-- The bytes of names and attributes are before byte 12.
abbrev pub SameHead : Bytes → Bytes → Type 0
SameHead a b = (j : ℕ) → j < 16 → a j ≡ b j

head_clip : (a b : Bytes) → SameHead a b → ◌≡◌ {A = Bytes} (λ j. a (j % 16)) (λ j. b (j % 16))
head_clip a b h = fun_ext (λ j. h (j % 16) (omega arith))

module _ (a b : Bytes) (h : SameHead a b) where
  pub same_directory : is_directory a ≡ is_directory b
  unfolding is_directory
  same_directory = ap is_directory (head_clip a b h)

  pub same_locked : is_locked a ≡ is_locked b
  unfolding is_locked
  same_locked = ap is_locked (head_clip a b h)

  pub same_is_file : is_file a ≡ is_file b
  unfolding is_file listed vacant is_label is_directory
  same_is_file = ap is_file (head_clip a b h)

  pub same_bears : (name : Name) → bears name a ≡ bears name b
  unfolding bears listed vacant is_label same_name le
  same_bears name = ap (bears name) (head_clip a b h)
