-- A file with a proper chain lies outside the log, and has the same chain on a card with the same FAT1 and root directory.
use Prim.Native.Nat.{ℕ, ◌+◌, ◌/◌, ◌%◌, ◌<◌}
use native.Mathlib.Omega.{arith}
use mathlib.Core.Path.{◌≡◌, refl, ◌∙◌, subst}
use mathlib.Core.List.{List, [], Memᴰ}
use mathlib.Core.Bool.{true}
use lib.ListN.{length}
use Rattle.model.specs.Sector.{Card, Store}
use Rattle.model.specs.Fat.{entry, fat1_of}
use Rattle.model.specs.Chain.{needed, file_sector, chain}
use Rattle.model.specs.Root.{is_file, slot_at, file_size, file_at, first_cluster, root_place}
use Rattle.model.specs.Promises.{Shape}
use Rattle.model.specs.declared.Layout.{Layout}
use Rattle.model.proofs.Walks.{chain_length}
use Rattle.operations.specs.Plan.{clusters_of}
use Rattle.safety.specs.Sound.{Sound, chain_of, proper}
use Rattle.model.proofs.All.{All, all_map}
use Rattle.model.proofs.Indices.{all_mem}
use Rattle.model.proofs.Fats.{entry_same}
use Rattle.model.proofs.Chains.{Used, chain_used, in_cluster, chain_same}
use Rattle.model.proofs.Volumes.{layout_of, first_fat}
use Rattle.safety.proofs.Start.{Start, shape_of, Clear, Table, slots_same}
use Rattle.safety.proofs.Before.{Spared}
use Rattle.safety.proofs.Clusters.{sector_clear, used_plain}
use Rattle.safety.proofs.Linked.{Off}

module _ {size : ℕ} {c : Card} (st : Start size c) (s : ℕ) (keeps : proper (layout_of c) c s ≡ true) where
  abbrev l : Layout
  l = layout_of c

  sh : Shape l
  sh = shape_of st

  abbrev ks : List ℕ
  ks = chain_of l c s

  abbrev n : ℕ
  n = file_size (slot_at l c s)

  pub file_used : All (Used l (entry (first_fat c))) ks
  unfolding chain_of clusters_of file_at proper
  file_used = chain_used l sh.few (entry (first_fat c)) sh.factor_low (first_cluster (slot_at l c s)) n keeps

  pub file_within : (i : ℕ) → i < n → i / 512 / l.factor < length ks
  unfolding chain_of clusters_of file_at
  file_within i less = rw (chain_length (entry (first_fat c)) (needed l n) (first_cluster (slot_at l c s)))
      (in_cluster l sh.factor_low (i / 512) n (omega arith))

  pub file_clear : (i : ℕ) → i < n → Clear c (file_sector l ks (i / 512))
  file_clear i less = sector_clear st ks (used_plain l (first_fat c) ks file_used) (i / 512) (file_within i less)

  -- The same chain on a card whose FAT1 and root directory are the same.
  pub chain_kept : s < l.entries → (z : Card) → ((n : ℕ) → Table l n → z n ≡ c n) → chain_of l z s ≡ ks
  unfolding chain_of clusters_of file_at
  chain_kept in_root z h =
      let slots : slot_at l z s ≡ slot_at l c s = slots_same l sh z c (λ r k. h (root_place l r) (Table.root r k refl)) s in_root in
      (λ t. chain (entry (fat1_of l z)) (needed l (file_size (slots t))) (first_cluster (slots t)))
      ∙ chain_same (entry (first_fat c)) (entry (fat1_of l z)) (needed l n) (first_cluster (slot_at l c s))
      (all_map (Used l (entry (first_fat c))) (λ k. entry (fat1_of l z) k ≡ entry (first_fat c) k)
      (λ k u. entry_same (first_fat c) (fat1_of l z) k (h (l.fat1 + k / 256) (Table.fat1 (k / 256) (omega (arith, sh, u.high)) refl))) ks file_used)

-- On a sound card the chain of another file has no cluster of this one.
pub chains_apart : (l : Layout) (c : Card) → Sound l c → (s x : ℕ) → s < l.entries → x < l.entries → is_file (slot_at l c s) ≡ true
    → is_file (slot_at l c x) ≡ true → (s ≡ x → ⊥) → All (Off (chain_of l c x)) (chain_of l c s)
chains_apart l c sound s x less in_root file it ne = all_mem (Off (chain_of l c x)) (chain_of l c s)
    (λ k m. all_mem (λ j. k ≡ j → ⊥) (chain_of l c x) (λ j n e. sound.apart s x less in_root file it ne j (subst (λ j. Memᴰ j (chain_of l c s)) e m) n))

-- The data stores ds spare every byte of every file.
abbrev pub SparesFiles : Card → List Store → Type 0
SparesFiles c ds = (s i : ℕ) → s < (layout_of c).entries → is_file (slot_at (layout_of c) c s) ≡ true → i < file_size (slot_at (layout_of c) c s)
    → Spared c ds (file_sector (layout_of c) (chain_of (layout_of c) c s) (i / 512)) (i % 512)

-- No data stores, no change of data.
pub no_data : {size : ℕ} {c : Card} → Start size c → Sound (layout_of c) c → SparesFiles c []
no_data st sound s i in_root is less = record { clear = file_clear st s (sound.chains s in_root is) i less; kept = tt }
