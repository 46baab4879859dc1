-- The stores of an operation are those of its parts: data, FAT2, and steps 3 to 6 on the card that these leave.
use Prim.Native.Nat.{ℕ, ◌+◌, ◌<◌, ◌≤◌}
use native.Mathlib.Omega.{arith}
use mathlib.Core.Path.{◌≡◌, refl, ap, ◌∙◌, subst}
use mathlib.Core.Bool.{Bool, true, false}
use mathlib.Core.List.{List, [], ◌∷◌, ◌++◌, append_assoc}
use lib.Dec.{ltb}
use borrow.Author.Tests.{ltb-true}
use Rattle.model.specs.Bytes.{pick}
use Rattle.model.specs.Sector.{Card, card_of, Store, put, after}
use Rattle.model.specs.Fat.{Fat, fat1_of, fat2_of, write_fat}
use Rattle.model.specs.Log.{Log, log_of, unused}
use Rattle.std.proofs.Common.{Result, Ok, Err}
use Rattle.model.specs.Promises.{Spent}
use Rattle.model.specs.declared.Stopped.{Stopped}
use Rattle.model.specs.declared.Area.{Area}
use Rattle.model.specs.declared.Layout.{Layout}
use Rattle.model.specs.Record.{Change, Group}
use Rattle.model.specs.declared.Volume.{Volume}
use Rattle.operations.specs.Program.{stores}
use Rattle.operations.specs.Finish.{redo}
use Rattle.operations.specs.Plan.{clearing, group_sector, new_group, group_store, prepare, journal, operate}
use Rattle.model.proofs.Logs.{unused_same}
use Rattle.model.proofs.Cards.{after_append}
use Rattle.model.proofs.Runs.{spent_then, spent_stop, spent_card}
use Rattle.log_steps.specs.Steps.{group_steps, log_steps}

-- Two cards with the same log.
module _ (a : Area) (g h : Log) (same : (s : ℕ) → s < a.sectors → g s ≡ h s) where
  pub clearing_same : clearing a g ≡ clearing a h
  unfolding clearing
  clearing_same = rw (unused_same a.sectors g h same)

  pub group_sector_same : group_sector a g ≡ group_sector a h
  unfolding group_sector
  group_sector_same = rw (unused_same a.sectors g h same)

module _ (v : Volume) (c : Card) (ds : List Store) (f : Fat) (o : Change) where
  abbrev fs : List Store
  fs = write_fat v.layout v.layout.fat2 f (fat2_of v.layout c)

  abbrev clr : List Store
  clr = clearing v.log (log_of v.log c)

  -- The card that data and FAT2 leave, where its log is as it was.
  pub operate_is : (x : Card) → after fs (after ds c) ≡ x → ((s : ℕ) → s < v.log.sectors → log_of v.log x s ≡ log_of v.log c s)
      → stores (operate v c ds f o) ≡ ds ++ (fs ++ log_steps v o x)
  unfolding operate journal prepare log_steps group_steps new_group
  operate_is x e same =
      let k : clearing v.log (log_of v.log x) ≡ clr = clearing_same v.log (log_of v.log x) (log_of v.log c) same in
      let s : group_sector v.log (log_of v.log x) ≡ group_sector v.log (log_of v.log c) = group_sector_same v.log (log_of v.log x)
      (log_of v.log c) same in
      let u : after (ds ++ (fs ++ clr)) c ≡ after clr x =
      after_append ds (fs ++ clr) c ∙ after_append fs clr (after ds c) ∙ ap (after clr) e in
      rw (k, s, u) (append_assoc ds (fs ++ clr) _ ∙ ap (λ (t : List Store). ds ++ t) (append_assoc fs clr _))

-- ---- parts under one limit

module _ (l : Layout) (g : Group) {b m : ℕ} {e x : List ℕ} {r : Result Unit Stopped} where
  pub group_steps_cut : {d : Stopped} → r ≡ Err d → Spent b m (group_store g ∷ []) e x r → Spent b m (group_steps l g (card_of e)) e x (Err d)
  unfolding group_steps
  group_steps_cut f so = spent_stop f so (stores (redo l g (put (card_of e) (group_store g))))

  pub group_steps_ran : {u : Unit} → r ≡ Ok u → Spent b m (group_store g ∷ []) e x r → {n : ℕ} {y : List ℕ} {q : Result Unit Stopped}
      → Spent m n (stores (redo l g (card_of x))) x y q → Spent b n (group_steps l g (card_of e)) e y q
  unfolding group_steps after
  group_steps_ran f so {n} {y} {q} next =
      let same : card_of x ≡ put (card_of e) (group_store g) = spent_card f so in
      spent_then f so (subst (λ (c : Card). Spent m n (stores (redo l g c)) x y q) same next)

module _ (v : Volume) (o : Change) where
  abbrev cleared : Card → List Store
  cleared c = clearing v.log (log_of v.log c)

  module _ {b m : ℕ} {e x : List ℕ} {r : Result Unit Stopped} where
    pub log_steps_cut : {d : Stopped} → r ≡ Err d → Spent b m (cleared (card_of e)) e x r → Spent b m (log_steps v o (card_of e)) e x (Err d)
    unfolding log_steps
    log_steps_cut f so = spent_stop f so (group_steps v.layout (new_group v.log (card_of e) o) (after (cleared (card_of e)) (card_of e)))

    pub log_steps_ran : {u : Unit} → r ≡ Ok u → Spent b m (cleared (card_of e)) e x r → {n : ℕ} {y : List ℕ} {q : Result Unit Stopped}
        → Spent m n (group_steps v.layout (new_group v.log (card_of e) o) (card_of x)) x y q → Spent b n (log_steps v o (card_of e)) e y q
    unfolding log_steps
    log_steps_ran f so {n} {y} {q} next =
        spent_then f so (subst (λ (c : Card). Spent m n (group_steps v.layout (new_group v.log (card_of e) o) c) x y q) (spent_card f so) next)

-- An operation without data whose FAT is as it is: FAT2 needs no store where the FATs agree.
pub plain_is : (v : Volume) (c : Card) (o : Change) → write_fat v.layout v.layout.fat2 (fat1_of v.layout c) (fat2_of v.layout c) ≡ []
    → stores (operate v c [] (fat1_of v.layout c) o) ≡ log_steps v o c
unfolding after
plain_is v c o none =
    operate_is v c [] (fat1_of v.layout c) o c (rw none) (λ s less. refl)
    ∙ ap (λ (t : List Store). t ++ log_steps v o c) none

-- The group's sector is one of the log's.
pub group_sector_in : (a : Area) (g : Log) → 1 ≤ a.sectors → (a.sector ≤ group_sector a g) × (group_sector a g < a.sector + a.sectors)
unfolding group_sector
group_sector_in a g some = go (ltb (unused a.sectors g) a.sectors) refl
  where
    go : (t : Bool) → ltb (unused a.sectors g) a.sectors ≡ t
        → (a.sector ≤ a.sector + pick t (unused a.sectors g) 0) × (a.sector + pick t (unused a.sectors g) 0 < a.sector + a.sectors)
    go true e = let less : unused a.sectors g < a.sectors = ltb-true (unused a.sectors g) a.sectors e in (omega arith, omega arith)
    go false e = (omega arith, omega arith)
