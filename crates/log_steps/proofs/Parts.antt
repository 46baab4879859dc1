-- An operation by its parts, under one limit: data and FAT2, then steps 3 to 6 on the card that these leave.
use Prim.Native.Nat.{ℕ, ◌+◌, ◌<◌, ◌≤◌}
use native.Mathlib.Omega.{arith}
use mathlib.Core.Path.{◌≡◌, sym, ap, ◌∙◌}
use mathlib.Core.List.{List, ◌++◌, append_assoc}
use Rattle.model.specs.Sector.{Card, card_of, Store, after}
use Rattle.model.specs.Fat.{Fat, fat2_of, write_fat}
use Rattle.std.proofs.Common.{Result, Ok, Err}
use Rattle.model.specs.declared.Stopped.{Stopped}
use Rattle.model.specs.Promises.{Shape, Spent}
use Rattle.model.specs.Record.{Change}
use Rattle.model.specs.declared.Volume.{Volume}
use Rattle.model.proofs.Cards.{Away, after_away, after_append}
use Rattle.model.proofs.Fats.{write_all}
use Rattle.model.proofs.Runs.{spent_then, spent_stop, spent_card}
use Rattle.operations.specs.Program.{stores}
use Rattle.operations.specs.Plan.{operate}
use Rattle.log_steps.specs.Steps.{log_steps}
use Rattle.log_steps.proofs.Laws.{operate_is}

-- The log lies in the data, and the data stores leave it alone.
module _ (v : Volume) (ds : List Store) (f : Fat) (o : Change) (sh : Shape v.layout) (above : v.layout.start ≤ v.log.sector)
    (off : (s : ℕ) → s < v.log.sectors → Away ds (v.log.sector + s)) where
  abbrev fs : Card → List Store
  fs c = write_fat v.layout v.layout.fat2 f (fat2_of v.layout c)

  abbrev front : Card → List Store
  front c = ds ++ fs c

  log_kept : (c : Card) (s : ℕ) → s < v.log.sectors → after (front c) c (v.log.sector + s) ≡ c (v.log.sector + s)
  log_kept c s less =
      ap (λ (k : Card). k (v.log.sector + s)) (after_append ds (fs c) c)
      ∙ after_away (fs c) (after ds c) (v.log.sector + s)
      (write_all v.layout v.layout.fat2 f (fat2_of v.layout c) (λ t. v.log.sector + s ≡ t.sector → ⊥)
      (λ k h e. omega (arith, sh.root_at, sh.start_at, above)))
      ∙ after_away ds c (v.log.sector + s) (off s less)

  pub operate_parts : (c : Card) → stores (operate v c ds f o) ≡ front c ++ log_steps v o (after (front c) c)
  operate_parts c =
      operate_is v c ds f o (after (front c) c) (sym (after_append ds (fs c) c)) (log_kept c)
      ∙ sym (append_assoc ds (fs c) (log_steps v o (after (front c) c)))

  module _ {b m : ℕ} {e x : List ℕ} {r : Result Unit Stopped} where
    pub operate_cut : {d : Stopped} → r ≡ Err d → Spent b m (front (card_of e)) e x r → Spent b m (stores (operate v (card_of e) ds f o)) e x (Err d)
    operate_cut g so = rw (operate_parts (card_of e)) (spent_stop g so (log_steps v o (after (front (card_of e)) (card_of e))))

    pub operate_ran : {u : Unit} → r ≡ Ok u → Spent b m (front (card_of e)) e x r → {n : ℕ} {y : List ℕ} {q : Result Unit Stopped}
        → Spent m n (log_steps v o (card_of x)) x y q → Spent b n (stores (operate v (card_of e) ds f o)) e y q
    operate_ran g so next = rw (operate_parts (card_of e), ← spent_card g so) (spent_then g so next)
