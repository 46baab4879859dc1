-- The chains of files on the card that a finished operation leaves.
use Prim.Native.Nat.{ℕ, ◌+◌, ◌≤◌, ◌<◌}
use native.Mathlib.Omega.{arith}
use mathlib.Core.Path.{◌≡◌, refl, ◌∙◌}
use mathlib.Core.List.{List, []}
use mathlib.Core.Bool.{true}
use lib.ListN.{length, get_or}
use borrow.Author.Tests.{le-leb}
use Rattle.model.specs.Bytes.{Bytes}
use Rattle.model.specs.Scan.{between}
use Rattle.model.specs.Sector.{Card, Store}
use Rattle.model.specs.Fat.{Fat, entry, fat1_of, in_range}
use Rattle.model.specs.Chain.{chain, keeps_chain, needed}
use Rattle.model.specs.Root.{slot_at, file_size, first_cluster, file_at, Directory}
use Rattle.model.specs.Promises.{Shape}
use Rattle.model.specs.declared.Layout.{Layout}
use Rattle.model.specs.Record.{Change}
use Rattle.operations.specs.Finish.{effect}
use Rattle.operations.specs.Plan.{clusters_of}
use Rattle.safety.specs.Sound.{proper, chain_of}
use Rattle.model.proofs.Tests.{and_both}
use Rattle.model.proofs.All.{All, all_map}
use Rattle.model.proofs.Needed.{needed_none}
use Rattle.model.proofs.Chains.{Used, chain_same, chain_used}
use Rattle.model.proofs.Volumes.{layout_of, first_fat}
use Rattle.safety.proofs.Start.{Start, shape_of}
use Rattle.safety.proofs.Ended.{Ended, SameSlot, SameHead, same_size, same_first}
use Rattle.safety.proofs.Linked.{Linked, Ranged, all_zip, linked_same, linked_keeps, keeps_same}

-- A cluster in range.
pub ranged : (l : Layout) → l.clusters ≤ 65524 → (k : ℕ) → 2 ≤ k → k < 2 + l.clusters → Ranged l k
unfolding in_range between
ranged l few k low high = (and_both _ _ (le-leb 2 k low) (le-leb k (l.clusters + 1) (omega arith)), omega arith)

-- The file in a slot keeps the chain rule, with this chain.
pub record HasChain (l : Layout) (t : Card) (s : ℕ) (ks : List ℕ) : Type 0 where
  pub keeps : proper l t s ≡ true
  pub chain : chain_of l t s ≡ ks

module _ {size : ℕ} {c : Card} (st : Start size c) {ds : List Store} {f : Fat} {o : Change} {t : Card} (end : Ended size c ds f o t) where
  abbrev l : Layout
  l = layout_of c

  abbrev d : Directory
  d = slot_at l c

  sh : Shape l
  sh = shape_of st

  abbrev e : ℕ → ℕ
  e = entry (fat1_of l t)

  -- By the first cluster and the size of a slot.
  by_slot : (s k n : ℕ) (ks : List ℕ) → first_cluster (slot_at l t s) ≡ k → file_size (slot_at l t s) ≡ n
      → (keeps_chain l e k n ≡ true) × (chain e (needed l n) k ≡ ks) → HasChain l t s ks
  unfolding proper chain_of clusters_of file_at
  by_slot s k n ks first sized h = record {
    keeps = (λ i. keeps_chain l e (first i) (sized i)) ∙ h.0;
    chain = (λ i. chain e (needed l (sized i)) (first i)) ∙ h.1;
  }

  module _ (s : ℕ) (in_root : s < l.entries) (b : Bytes) (is : effect o d s ≡ b) where
    pub slot_is : SameSlot (slot_at l t s) b
    slot_is j small = end.slots s in_root j small ∙ (λ i. is i j)

    pub head_is : SameHead (slot_at l t s) b
    head_is j small = slot_is j (omega arith)

    first_is : first_cluster (slot_at l t s) ≡ first_cluster b
    first_is = same_first (slot_at l t s) b slot_is

    pub size_is : file_size (slot_at l t s) ≡ file_size b
    size_is = same_size (slot_at l t s) b slot_is

    -- An empty file.
    pub empty_then : first_cluster b ≡ 0 → file_size b ≡ 0 → HasChain l t s []
    unfolding keeps_chain chain
    empty_then none no_size = by_slot s 0 0 [] (first_is ∙ none) (size_is ∙ no_size) (refl, rw (needed_none l sh.factor_low))

    -- A chain that the new FAT links.
    pub linked_then : (ks : List ℕ) → Linked l (entry f) ks → All (λ k. k < 2 + l.clusters) ks → get_or ks 0 0 ≡ first_cluster b
        → length ks ≡ needed l (file_size b) → (file_size b ≡ 0 → ⊥)
        → HasChain l t s ks
    linked_then ks h a first long some = by_slot s (first_cluster b) (file_size b) ks first_is size_is
        (linked_keeps l e (first_cluster b) (file_size b) ks
        (linked_same l (entry f) e ks (all_map (λ k. k < 2 + l.clusters) (λ k. e k ≡ entry f k) (λ k less. end.fat k less) ks a) h) first long some)

    -- The chain of a file of the old card, whose entries are as they were.
    pub kept_then : (r : ℕ) → first_cluster b ≡ first_cluster (d r) → file_size b ≡ file_size (d r) → proper l c r ≡ true
        → All (λ k. entry f k ≡ entry (first_fat c) k) (chain_of l c r) → HasChain l t s (chain_of l c r)
    unfolding proper chain_of clusters_of file_at
    kept_then r first sized keeps a =
        let g : ℕ → ℕ = entry (first_fat c) in
        let k : ℕ = first_cluster (d r) in
        let n : ℕ = file_size (d r) in
        let used : All (Used l g) (chain g (needed l n) k) = chain_used l sh.few g sh.factor_low k n keeps in
        let agree : All (λ j. e j ≡ g j) (chain g (needed l n) k) =
        all_zip (Used l g) (λ j. entry f j ≡ g j) (λ j. e j ≡ g j) (λ j u q. end.fat j u.high ∙ q) (chain g (needed l n) k) used a in
        by_slot s k n (chain g (needed l n) k) (first_is ∙ first) (size_is ∙ sized) (keeps_same l g e k n agree keeps, chain_same g e (needed l n) k agree)
