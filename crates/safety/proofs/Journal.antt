-- The two-run theorem, for every operation of a journal that keeps a few laws.
use Prim.Native.Nat.{ℕ, zero, suc, ◌≤◌, ◌<◌}
use native.Mathlib.Omega.{arith}
use mathlib.Core.Path.{◌≡◌, refl, sym, ap, ◌∙◌}
use mathlib.Core.Logic.{◌⊎◌, inl, inr}
use mathlib.Core.List.Sublistᴰ
use mathlib.Core.List.{List, [], ◌∷◌, ◌++◌, Sublistᴰ}
use mathlib.Core.Bool.{Bool, true, false}
use lib.ListN.{take, length}
use borrow.Author.Tests.{le-ltb, lt-ltb}
use Rattle.model.specs.Sector.{Card, Store, after, put}
use Rattle.model.specs.Ground.{Answer, granted, refused}
use Rattle.operations.specs.Program.{Program, ending, segment, stores}
use Rattle.operations.specs.Outcome.{largest}
use Rattle.safety.specs.Cuts.{recovery, Cut, passes_group, program_of, Later, now, next, reaches_group}
use Rattle.model.proofs.All.{All}
use Rattle.model.proofs.Cards.{after_append, after_nil}
use Rattle.model.proofs.Changes.{Keeps, after_keeps, all_sub}

-- Recovery that stores nothing.
abbrev pub idle : Answer Program
idle = granted (ending [])

-- ---- the laws of an operation

-- With no group pending, recovery from x keeps what holds before the group's store, leaves the wanted bytes as in c, and then rests.
pub record Back (size : ℕ) (Want : ℕ → ℕ → Type 0) (Before : Card → Type 0) (c x : Card) : Type 0 where
  pub ys : List Store
  pub says : recovery size x ≡ granted (ending ys)
  pub keeps : All (Keeps Before) ys
  pub short : length ys < largest
  pub whole : (n j : ℕ) → Want n j → after ys x n j ≡ c n j
  pub rests : recovery size (after ys x) ≡ idle

-- Program q, cut anywhere, keeps on x what holds after the group's store, or has led to t; left to end it leads there.
pub record Leads (After : Card → Type 0) (t : Card) (q : Program) (x : Card) : Type 0 where
  pub keeps : (zs : List Store) → Cut q zs → After (after zs x) ⊎ (after zs x ≡ t)
  pub ends : after (stores q) x ≡ t

-- With the group pending, recovery from x does so.
pub record Forth (size : ℕ) (After : Card → Type 0) (t x : Card) : Type 0 where
  pub rest : Program
  pub says : recovery size x ≡ granted rest
  pub leads : Leads After t rest x
  pub short : length (stores rest) ≤ largest

-- The program of an operation: what stands before the group, the group, and steps 4 to 6. c is the card at the start, u the one with the group
-- on it, t the one at the end.
pub record Laws (size : ℕ) (Want : ℕ → ℕ → Type 0) (Before After : Card → Type 0) (c : Card)
    (prep : List Store) (g : Store) (q : Program) (u t : Card) : Type 0 where
  pub starts : Before c
  pub prepares : All (Keeps Before) prep
  pub back : (x : Card) → Before x → Back size Want Before c x
  pub u_is : put (after prep c) g ≡ u
  pub leads : Leads After t q u
  pub forth : (x : Card) → After x → Forth size After t x
  pub rests : recovery size t ≡ idle

-- ---- the theorem

-- What the card must be at the end: the finished run's, whole, if the group's store was on it at the cut; else as at the start, where
-- wanted.
abbrev pub Goal : (ℕ → ℕ → Type 0) → Card → Card → Bool → Card → Type 0
Goal Want c t false z = (n j : ℕ) → Want n j → z n j ≡ c n j
Goal Want c t true z = z ≡ t

-- Recovery is not refused, and at its end the goal is met and a further recovery stores nothing. The largest limit lets it end.
abbrev pub Ends : ℕ → (Card → Type 0) → Answer Program → Card → Type 0
Ends size Good (refused g) y = ⊥
Ends size Good (granted q) y = Good (after (stores q) y) × (recovery size (after (stores q) y) ≡ idle) × (length (stores q) ≤ largest)

module _ (size : ℕ) (Want : ℕ → ℕ → Type 0) (Before After : Card → Type 0) (c : Card)
    (prep : List Store) (g : Store) (q : Program) (u t : Card)
    (laws : Laws size Want Before After c prep g q u t) where
  abbrev Inv : Bool → Card → Type 0
  Inv false y = Before y
  Inv true y = After y ⊎ (y ≡ t)

  past : (ws : List Store) → after (prep ++ g ∷ ws) c ≡ after ws u
  unfolding after
  past ws = after_append prep (g ∷ ws) c ∙ ap (after ws) laws.u_is

  pub end_card : after (stores (segment prep g q)) c ≡ t
  end_card = past (stores q) ∙ laws.leads.ends

  -- The operation, cut.
  op_cut : (zs : List Store) (k : Cut (segment prep g q) zs) → Inv (passes_group (segment prep g q) zs k) (after zs c)
  op_cut zs (inl k) = after_keeps Before zs (all_sub (Keeps Before) k laws.prepares) c laws.starts
  op_cut zs (inr (ws, e, k)) = rw (e, past ws) (laws.leads.keeps ws k)

  -- A recovery, cut.
  step : (b : Bool) (y : Card) (zs : List Store) → Inv b y → Cut (program_of (recovery size y)) zs → Inv b (after zs y)
  step false y zs h k = let r : Back size Want Before c y = laws.back y h in after_keeps Before zs (all_sub (Keeps Before) (rw r.says at k) r.keeps) y h
  step true y zs (inl h) k = let r : Forth size After t y = laws.forth y h in r.leads.keeps zs (rw r.says at k)
  step true y zs (inr h) k = inr (rw (Sublistᴰ.eq-nil (rw (h, laws.rests) at k), after_nil y) h)

  later : (b : Bool) (x y : Card) → Later size x y → Inv b x → Inv b y
  later b x y now h = h
  later b x z (next {y = y} zs l k e) h = rw e (step b y zs (later b x y l h) k)

  -- A recovery, left to end.
  ends : (b : Bool) (y : Card) → Inv b y → Ends size (Goal Want c t b) (recovery size y) y
  ends false y h = let r : Back size Want Before c y = laws.back y h in rw r.says (r.whole, r.rests, omega (arith, r.short))
  ends true y (inl h) = let r : Forth size After t y = laws.forth y h in rw r.says (r.leads.ends, rw (r.leads.ends, laws.rests), r.short)
  ends true y (inr h) = rw (h, laws.rests) (rw (after_nil t) (refl, laws.rests, omega arith))

  -- Cut the operation anywhere, then any number of recoveries anywhere, on a card that may hold stores back: recovery is not refused;
  -- left to end, it makes the card the finished run's if the group's store was there at the first cut, and else as it was; and then it
  -- rests.
  pub two_run : (zs : List Store) (k : Cut (segment prep g q) zs) (y : Card) → Later size (after zs c) y
      → Ends size (Goal Want c (after (stores (segment prep g q)) c) (passes_group (segment prep g q) zs k)) (recovery size y) y
  two_run zs k y l = rw end_card (ends (passes_group (segment prep g q) zs k) y
      (later (passes_group (segment prep g q) zs k) (after zs c) y l (op_cut zs k)))

-- ---- one theorem for every call: it has the laws of a group, or makes no store on a card at rest

pub data Kept (size : ℕ) (Want : ℕ → ℕ → Type 0) (c : Card) : Program → Type 1 where
  none : recovery size c ≡ idle → Kept size Want c (ending [])
  group : {prep : List Store} {g : Store} {q : Program} {u t : Card} {Before After : Card → Type 0}
      → Laws size Want Before After c prep g q u t → Kept size Want c (segment prep g q)

-- A card at rest stays as it is.
rest_later : (size : ℕ) (x y : Card) → recovery size x ≡ idle → Later size x y → y ≡ x
rest_later size x y h now = refl
rest_later size x z h (next {y = y} zs l k e) =
    let same : y ≡ x = rest_later size x y h l in
    e ∙ rw (same, Sublistᴰ.eq-nil (rw (same, h) at k)) (after_nil x)

pub every_run : (size : ℕ) (Want : ℕ → ℕ → Type 0) (c : Card) (q : Program) → Kept size Want c q
    → (zs : List Store) (k : Cut q zs) (y : Card) → Later size (after zs c) y
    → Ends size (Goal Want c (after (stores q) c) (passes_group q zs k)) (recovery size y) y
every_run size Want c q (Kept.none h) zs k y l =
    let e : y ≡ c = rest_later size c y h (rw (Sublistᴰ.eq-nil k, after_nil c) at l) in
    rw (e, h) (rw (after_nil c) ((λ n j w. refl), h, omega arith))
every_run size Want c p (Kept.group {prep} {g} {q} {u} {t} {Before = B} {After = A} laws) zs k y l = two_run size Want B A c prep g q u t laws zs k y l

-- ---- the cut of a card that holds nothing back

take_sub : (k : ℕ) (ys : List Store) → Sublistᴰ (take k ys) ys
take_sub zero [] = Sublistᴰ.slnil
take_sub zero (s ∷ ys) = Sublistᴰ.nil-sublist (s ∷ ys)
take_sub (suc k) [] = Sublistᴰ.slnil
take_sub (suc k) (s ∷ ys) = Sublistᴰ.cons-cons refl (take_sub k ys)

-- A first part ends before the barrier b, or goes past it.
abbrev Split : ℕ → List Store → Store → List Store → Type 0
Split k ys b rest = ((k ≤ length ys) × Sublistᴰ (take k (ys ++ b ∷ rest)) ys)
    ⊎ ((length ys < k) × ((m : ℕ) × (take k (ys ++ b ∷ rest) ≡ ys ++ b ∷ take m rest)))

split : (k : ℕ) (ys : List Store) (b : Store) (rest : List Store) → Split k ys b rest
split zero [] b rest = inl (omega arith, Sublistᴰ.slnil)
split zero (s ∷ ys) b rest = inl (omega arith, Sublistᴰ.nil-sublist (s ∷ ys))
split (suc k) [] b rest = inr (omega arith, (k, refl))
split (suc k) (s ∷ ys) b rest = go (split k ys b rest)
  where
    go : Split k ys b rest → Split (suc k) (s ∷ ys) b rest
    go (inl h) = let e : k ≤ length ys = h.0 in inl (omega arith, Sublistᴰ.cons-cons refl h.1)
    go (inr h) = let e : length ys < k = h.0 in inr (omega arith, (h.1.0, ap (λ l. s ∷ l) h.1.1))

-- The first k stores are a cut, and whether it has passed the first barrier is told by their number.
abbrev Prefix : Program → ℕ → Type 0
Prefix p k = (h : Cut p (take k (stores p))) × (passes_group p (take k (stores p)) h ≡ reaches_group p k)

pub prefix_cut : (p : Program) (k : ℕ) → Prefix p k
prefix_cut (ending ys) k = (take_sub k ys, refl)
prefix_cut (segment ys b p) k = go (prefix_cut p) (split k ys b (stores p))
  where
    go : ((m : ℕ) → Prefix p m) → Split k ys b (stores p) → Prefix (segment ys b p) k
    go rec (inl h) = (inl h.1, sym (le-ltb (length ys) k h.0))
    go rec (inr h) = (inr (take h.1.0 (stores p), h.1.1, (rec h.1.0).0), sym (lt-ltb (length ys) k h.0))
