-- Laws of `Ran`: parts that run one after the other under one limit, and loops.
use Prim.Native.Nat.{ℕ, zero, suc, ◌+◌, ◌-◌, ◌<◌, ◌≤◌}
use native.Mathlib.Omega.{arith}
use native.Mathlib.Nat.{eq-or-lt_of_le}
use native.Mathlib.Numerals.{add-one}
use mathlib.Core.Path.{◌≡◌, refl, sym, ap, ◌∙◌, subst}
use mathlib.Core.Logic.{⊎_elim}
use mathlib.Core.Bool.{Bool, true, false}
use mathlib.Core.List.{List, [], ◌∷◌, ◌++◌, append-nil, append_assoc}
use lib.ListN.{length, take, length-append}
use lib.Seq.{take_all, take-nil, take-append-le, take-append-add}
use borrow.Author.Tests.{le-leb, lt-leb, leb-true, leb-false}
use Rattle.model.specs.Sector.{Card, card_of, Store, put, after}
use Rattle.std.proofs.Common.{Result, Ok, Err, is_ok}
use Rattle.model.specs.declared.Stopped.{Stopped}
use Rattle.model.specs.Promises.{Ran, Spent, up_to}
use Rattle.model.proofs.Tests.{leb_same}
use Rattle.model.proofs.All.{all_append, all_take}
use Rattle.model.proofs.Cards.{after_append, Away, after_away}

-- nothing to make
pub ran_none : (limit : ℕ) (e : List ℕ) → Ran limit [] e e 0 true
unfolding after
ran_none limit e = record { stores = omega arith; all = sym (le-leb 0 limit (omega arith)); card = rw (take-nil {A = Store} limit) refl }

-- one store, if the limit allows it
pub ran_one : (s : Store) (e x : List ℕ) (limit : ℕ) → 0 < limit → card_of x ≡ put (card_of e) s → Ran limit (s ∷ []) e x 1 true
unfolding after
ran_one s e x limit l h =
    record {
      stores = omega arith;
      all = sym (le-leb 1 limit (omega arith));
      card = rw (take_all limit (s ∷ []) (omega arith)) h;
    }

pub ran_zero : (s : Store) (ss : List Store) (e : List ℕ) → Ran 0 (s ∷ ss) e e 0 false
unfolding after
ran_zero s ss e = record { stores = omega arith; all = sym (lt-leb (length (s ∷ ss)) 0 (omega arith)); card = refl }

module _ (limit : ℕ) (ss : List Store) (e x : List ℕ) (m : ℕ) where
  -- a part that was cut short is the last to run
  pub ran_stop : Ran limit ss e x m false → (ts : List Store) → Ran limit (ss ++ ts) e x m false
  ran_stop so ts =
      let l : limit < length ss = leb-false (length ss) limit (sym so.all) in
      record {
        stores = omega (arith, so.stores, length-append ss ts);
        all = sym (lt-leb (length (ss ++ ts)) limit (omega (arith, length-append ss ts)));
        card = so.card ∙ ap (λ (l : List Store). after l (card_of e)) (sym (take-append-le limit ss ts (omega arith)));
      }

  -- a part that ended has made all its stores
  pub ran_card : Ran limit ss e x m true → card_of x ≡ after ss (card_of e)
  ran_card so = so.card ∙ ap (λ (l : List Store). after l (card_of e)) (take_all limit ss (leb-true (length ss) limit (sym so.all)))

  -- a part that ended, and the next with what is left of the limit
  pub ran_then : Ran limit ss e x m true → (ts : List Store) (y : List ℕ) (n : ℕ) (w : Bool) → Ran (limit - m) ts x y n w → Ran limit (ss ++ ts) e y (m + n) w
  ran_then so ts y n w next =
      let l : length ss ≤ limit = leb-true (length ss) limit (sym so.all) in
      let f : length ss + (limit - m) ≡ limit = omega (arith, so.stores) in
      record {
        stores = omega (arith, so.stores, next.stores, length-append ss ts);
        all = next.all ∙ leb_same (length ts) (limit - m) (length (ss ++ ts)) limit (λ h. omega (arith, so.stores, length-append ss ts))
            (λ h. omega (arith, so.stores, length-append ss ts));
        card =
            next.card
            ∙ ap (after (take (limit - m) ts)) (ran_card so)
            ∙ sym (after_append ss (take (limit - m) ts) (card_of e))
            ∙ ap (λ (l : List Store). after l (card_of e)) (sym (take-append-add ss ts (limit - m)) ∙ ap (λ (z : ℕ). take z (ss ++ ts)) f);
      }

-- what a part that ran leaves alone
pub ran_away : (limit : ℕ) (ss : List Store) (e x : List ℕ) (m : ℕ) (w : Bool) → Ran limit ss e x m w → (s : ℕ) → Away ss s → card_of x s ≡ card_of e s
ran_away limit ss e x m w r s a = ap (λ (c : Card). c s) r.card ∙ after_away (take limit ss) (card_of e) s (all_take (λ t. s ≡ t.sector → ⊥) limit ss a)

-- loops whose turns each run a list of stores
module _ (st : ℕ → List Store) where
  pub upto_none : up_to st 0 ≡ []
  unfolding up_to
  upto_none = refl

  pub upto_step : (n : ℕ) → up_to st (n + 1) ≡ up_to st n ++ st n
  unfolding up_to
  upto_step n = rw add-one

  -- the lists below k come first
  pub upto_split : (k n : ℕ) → k ≤ n → (ts : List Store) × (up_to st n ≡ up_to st k ++ ts)
  unfolding up_to
  upto_split k zero l = ([], rw (zero_of k l))
    where
      zero_of : (k : ℕ) → k ≤ 0 → k ≡ 0
      zero_of k l = omega arith
  upto_split k (suc n) l =
      ⊎_elim
      (λ e. ([], rw e (sym (append-nil (up_to st (suc n))))))
      (λ m. let r = upto_split k n (omega arith) in (r.0 ++ st n, ap (λ (x : List Store). x ++ st n) r.1 ∙ append_assoc (up_to st k) r.0 (st n)))
      (eq-or-lt_of_le l)

  pub upto_away : (n s : ℕ) → ((k : ℕ) → k < n → Away (st k) s) → Away (up_to st n) s
  unfolding up_to
  upto_away zero s a = tt
  upto_away (suc n) s a = all_append (λ t. s ≡ t.sector → ⊥) (up_to st n) (st n) (upto_away n s (λ k l. a k (omega arith))) (a n (omega arith))

  pub turns_none : (limit : ℕ) (e : List ℕ) → Ran limit (up_to st 0) e e 0 true
  turns_none limit e = rw upto_none (ran_none limit e)

  module _ (limit k : ℕ) (e x y : List ℕ) (m p : ℕ) (so : Ran limit (up_to st k) e x m true) where
    -- a turn that ran whole
    pub turns_more : Ran (limit - m) (st k) x y p true → Ran limit (up_to st (k + 1)) e y (m + p) true
    turns_more t = rw (upto_step k) (ran_then limit (up_to st k) e x m so (st k) y p true t)

    -- a turn that the limit cut short is the last
    pub turns_cut : (n : ℕ) → k < n → Ran (limit - m) (st k) x y p false → Ran limit (up_to st n) e y (m + p) false
    turns_cut n l t =
        let r = upto_split (k + 1) n (omega arith) in
        rw (r.1, upto_step k) (ran_stop limit (up_to st k ++ st k) e y (m + p) (ran_then limit (up_to st k) e x m so (st k) y p false t) r.0)

-- ---- the limit lent: what runs next takes what is left

abbrev whole : Result Unit Stopped
whole = Ok (tt {0})

-- a limit that was given and what a list made of it
spent : (b l : ℕ) (ss : List Store) (e x : List ℕ) (r : Result Unit Stopped) (m : ℕ) → l + m ≡ b → Ran b ss e x m (is_ok r) → Spent b l ss e x r
spent b l ss e x r m g so = record { within = omega arith; ran = subst (λ (k : ℕ). Ran b ss e x k (is_ok r)) (omega arith) so }

pub spent_none : (b : ℕ) (e : List ℕ) → Spent b b [] e e whole
spent_none b e = spent b b [] e e whole 0 (omega arith) (ran_none b e)

pub spent_one : (s : Store) (e x : List ℕ) (b : ℕ) → 0 < b → card_of x ≡ put (card_of e) s → Spent b (b - 1) (s ∷ []) e x whole
spent_one s e x b h g = spent b (b - 1) (s ∷ []) e x whole 1 (omega arith) (ran_one s e x b h g)

pub spent_zero : (s : Store) (ss : List Store) (e : List ℕ) (d : Stopped) → Spent 0 0 (s ∷ ss) e e (Err d)
spent_zero s ss e d = spent 0 0 (s ∷ ss) e e (Err d) 0 (omega arith) (ran_zero s ss e)

module _ {b l : ℕ} {ss : List Store} {e x : List ℕ} {r : Result Unit Stopped} where
  -- a part that was cut short is the last to run
  pub spent_stop : {d : Stopped} → r ≡ Err d → Spent b l ss e x r → (ts : List Store) → Spent b l (ss ++ ts) e x (Err d)
  spent_stop {d} f so ts =
      record { within = so.within; ran = ran_stop b ss e x (b - l) (subst (λ (k : Result Unit Stopped). Ran b ss e x (b - l) (is_ok k)) f so.ran) ts }

  -- a part that ended has made all its stores
  pub spent_all : {u : Unit} → r ≡ Ok u → Spent b l ss e x r → Ran b ss e x (b - l) true
  spent_all f so = subst (λ (k : Result Unit Stopped). Ran b ss e x (b - l) (is_ok k)) f so.ran

  pub spent_card : {u : Unit} → r ≡ Ok u → Spent b l ss e x r → card_of x ≡ after ss (card_of e)
  spent_card f so = ran_card b ss e x (b - l) (spent_all f so)

  -- a part that ended, and the next
  pub spent_then : {u : Unit} → r ≡ Ok u → Spent b l ss e x r → {n : ℕ} {ts : List Store} {y : List ℕ} {q : Result Unit Stopped}
      → Spent l n ts x y q → Spent b n (ss ++ ts) e y q
  spent_then f so {n} {ts} {y} {q} next =
      let p : l ≤ b = so.within in
      let t : n ≤ l = next.within in
      let g : b - (b - l) ≡ l = omega arith in
      spent b n (ss ++ ts) e y q ((b - l) + (l - n)) (omega arith)
      (ran_then b ss e x (b - l) (spent_all f so) ts y (l - n) (is_ok q) (subst (λ (k : ℕ). Ran k ts x y (l - n) (is_ok q)) (sym g) next.ran))

-- what a part that ran leaves alone
pub spent_away : {b l : ℕ} {ss : List Store} {e x : List ℕ} {r : Result Unit Stopped} → Spent b l ss e x r → (s : ℕ) → Away ss s → card_of x s ≡ card_of e s
spent_away {b} {l} {ss} {e} {x} {r} so s a = ran_away b ss e x (b - l) (is_ok r) so.ran s a

-- loops whose turns each run a list of stores
module _ (st : ℕ → List Store) where
  pub spends_none : (b : ℕ) (e : List ℕ) → Spent b b (up_to st 0) e e whole
  spends_none b e = rw (upto_none st) (spent_none b e)

  module _ {b l k : ℕ} {e x y : List ℕ} {n : ℕ} {r : Result Unit Stopped} (so : Spent b l (up_to st k) e x whole) (turn : Spent l n (st k) x y r) where
    -- a turn that ran whole
    pub spends_more : {u : Unit} → r ≡ Ok u → Spent b n (up_to st (k + 1)) e y whole
    spends_more f = rw (upto_step st k) (spent_then refl so (subst (λ (q : Result Unit Stopped). Spent l n (st k) x y q) f turn))

    -- a turn that the limit cut short is the last
    pub spends_cut : {d : Stopped} → r ≡ Err d → (m : ℕ) → k < m → Spent b n (up_to st m) e y (Err d)
    spends_cut f m h =
        let p = upto_split st (k + 1) m (omega arith) in
        rw (p.1, upto_step st k) (spent_stop f (spent_then refl so turn) p.0)
