-- What the later parts of a redo find as it was.
use Prim.Native.Nat.{ℕ, ◌≤◌}
use native.Mathlib.Omega.{arith}
use mathlib.Core.Path.{◌≡◌, ap}
use mathlib.Core.List.{List}
use Rattle.model.specs.Bytes.{Bytes}
use Rattle.model.specs.Sector.{Card, card_of, Store, store}
use Rattle.model.specs.Fat.{fat1_of, fat2_of, write_fat}
use Rattle.model.specs.Root.{root_place}
use Rattle.model.specs.Record.{Change, Group, committed, commit}
use Rattle.std.proofs.Common.{Result}
use Rattle.model.specs.Promises.{Shape, Spent}
use Rattle.model.specs.declared.Stopped.{Stopped}
use Rattle.model.specs.declared.Layout.{Layout}
use Rattle.model.proofs.All.{all_append}
use Rattle.model.proofs.Cards.{Away}
use Rattle.model.proofs.Copies.{write_fat_away}
use Rattle.model.proofs.Runs.{spent_away}
use Rattle.operations.specs.Finish.{Slots, root_stores, finish}
use Rattle.operations.proofs.Roots.{root_stores_same, root_stores_away}

-- The commit mark is told by the group's sector alone.
pub commit_same : (c d : Card) (g : Group) → c g.sector ≡ d g.sector → commit c g ≡ commit d g
unfolding commit
commit_same c d g e = ap (λ (b : Bytes). store g.sector (committed g.records b)) e

-- FAT stores leave the root as it was, and all stores of `finish` the data region.
module _ (l : Layout) (sh : Shape l) (o : Change) where
  abbrev fats : Card → List Store
  fats c = write_fat l l.fat1 (fat2_of l c) (fat1_of l c)

  fats_away : (c : Card) (s : ℕ) → l.root ≤ s → Away (fats c) s
  fats_away c s low = write_fat_away l l.fat1 (fat2_of l c) (fat1_of l c) s (λ lo hi. omega (arith, sh))

  finish_away : (c : Card) (s : ℕ) → l.start ≤ s → Away (finish l o c) s
  unfolding finish
  finish_away c s low = all_append (λ t. s ≡ t.sector → ⊥) (fats c) (root_stores l o c) (fats_away c s (omega (arith, sh)))
      (root_stores_away l o c s (λ lo hi. omega (arith, sh)))

  module _ {b left : ℕ} {e x : List ℕ} {r : Result Unit Stopped} where
    pub root_kept : Slots l.entries o → Spent b left (fats (card_of e)) e x r → root_stores l o (card_of x) ≡ root_stores l o (card_of e)
    root_kept fit so = root_stores_same l o (card_of x) (card_of e) sh.whole_sectors fit
        (λ i less. spent_away so (root_place l i) (fats_away (card_of e) (root_place l i) (omega arith)))

    pub group_kept : (g : Group) → l.start ≤ g.sector → Spent b left (finish l o (card_of e)) e x r → commit (card_of x) g ≡ commit (card_of e) g
    group_kept g low so = commit_same (card_of x) (card_of e) g (spent_away so g.sector (finish_away (card_of e) g.sector low))
