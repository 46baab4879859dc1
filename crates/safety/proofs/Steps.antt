-- Laws of the stores of steps 1 to 5, all at once.
use Prim.Native.Nat.{ℕ, ◌+◌, ◌/◌, ◌≤◌, ◌<◌}
use native.Mathlib.Omega.{arith}
use mathlib.Core.Path.{◌≡◌, refl}
use mathlib.Core.Logic.{◌⊎◌, inl, inr, ⊎_elim}
use mathlib.Core.List.{List, ◌++◌}
use mathlib.Core.Bool.{true}
use lib.ListN.{length, length-append, length-map}
use Rattle.model.specs.Bytes.{zeros}
use Rattle.model.specs.Scan.{indices}
use Rattle.model.specs.Sector.{Card, Store, store, clip}
use Rattle.model.specs.Fat.{Fat, write_fat, fat2_of, fat1_of}
use Rattle.model.specs.Root.{root_place, slot_at}
use Rattle.model.specs.Log.{log_of}
use Rattle.model.specs.declared.Layout.{Layout}
use Rattle.model.specs.Record.{Change}
use Rattle.model.specs.declared.Volume.{Volume}
use Rattle.operations.proofs.Clearing.{clearing_all}
use Rattle.operations.specs.Finish.{root_sector, effect, root_stores, concerns, finish}
use Rattle.operations.specs.Plan.{prepare, clearing}
use Rattle.model.proofs.All.{All, all_append, all_image}
use Rattle.model.proofs.Indices.{indices_all0, indices_has0, indices_length}
use Rattle.model.proofs.Changes.{Covers, covers_left, covers_right, covers_image}
use Rattle.model.proofs.Fats.{write_all, write_covers, write_length}

-- ---- before the group

-- What holds of the data stores, of the store of each sector of FAT2 and of the clearing of each log sector holds of all that are made.
pub prepare_all : (v : Volume) (c : Card) (ds : List Store) (f : Fat) (P : Store → Type 0) → All P ds
    → ((s : ℕ) → s < v.layout.fatsize → P (store (v.layout.fat2 + s) (f s)))
    → ((i : ℕ) → i < v.log.sectors → P (store (v.log.sector + i) zeros))
    → All P (prepare v c ds f)
unfolding prepare
prepare_all v c ds f P own fat log =
    let fats : List Store = write_fat v.layout v.layout.fat2 f (fat2_of v.layout c) in
    let cleared : List Store = clearing v.log (log_of v.log c) in
    let all-fats : All P fats = write_all v.layout v.layout.fat2 f (fat2_of v.layout c) P fat in
    all_append P ds (fats ++ cleared) own (all_append P fats cleared all-fats (clearing_all v.log (log_of v.log c) P log))

-- ---- after it

module _ (l : Layout) (o : Change) (c : Card) where
  -- The store of a root sector.
  abbrev pub root_store : ℕ → Store
  root_store r = store (root_place l r) (root_sector (effect o (slot_at l c)) r)

  abbrev pub fat_stores : List Store
  fat_stores = write_fat l l.fat1 (fat2_of l c) (fat1_of l c)

  roots_all : (P : Store → Type 0) → ((r : ℕ) → r < l.entries / 16 → P (root_store r)) → All P (root_stores l o c)
  unfolding root_stores
  roots_all P h = all_image P root_store (indices (concerns o) (l.entries / 16))
      (indices_all0 (concerns o) (l.entries / 16) (λ r. P (root_store r)) (λ r less e. h r less))

  -- What holds of the store of each sector of FAT1 and of the root directory holds of all that are made.
  pub finish_all : (P : Store → Type 0) → ((s : ℕ) → s < l.fatsize → P (store (l.fat1 + s) (c (l.fat2 + s))))
      → ((r : ℕ) → r < l.entries / 16 → P (root_store r))
      → All P (finish l o c)
  unfolding finish
  finish_all P f r = all_append P fat_stores (root_stores l o c) (write_all l l.fat1 (fat2_of l c) (fat1_of l c) P f) (roots_all P r)

  -- A sector of FAT1 is stored, or is as FAT2's already; a root sector that is concerned is stored.
  pub finish_fat : (s : ℕ) → s < l.fatsize → Covers (l.fat1 + s) (finish l o c) ⊎ (clip (c (l.fat2 + s)) ≡ clip (c (l.fat1 + s)))
  unfolding finish
  finish_fat s less =
      ⊎_elim (λ k. inl (covers_left (l.fat1 + s) fat_stores (root_stores l o c) k)) (λ e. inr e) (write_covers l l.fat1 (fat2_of l c) (fat1_of l c) s less)

  pub finish_root : (r : ℕ) → r < l.entries / 16 → concerns o r ≡ true → Covers (root_place l r) (finish l o c)
  unfolding finish root_stores
  finish_root r less h =
      let has = indices_has0 (concerns o) (l.entries / 16) r less h in
      covers_right (root_place l r) fat_stores (root_stores l o c)
      (covers_image root_store (root_place l r) r (indices (concerns o) (l.entries / 16)) refl has)

  pub finish_length : length (finish l o c) ≤ l.fatsize + l.entries / 16
  unfolding finish root_stores
  finish_length = simp (length-append, length-map)
      (omega (arith, write_length l l.fat1 (fat2_of l c) (fat1_of l c), indices_length (concerns o) 0 (l.entries / 16)))
