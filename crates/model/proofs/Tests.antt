-- Laws of tests.
use Prim.Native.Nat.{ℕ, zero, suc, ◌≤◌, ◌<◌}
use native.Mathlib.Omega.{arith}
use mathlib.Core.Path.{◌≡◌, refl, sym}
use mathlib.Core.Logic.{◌⊎◌, inl, inr}
use mathlib.Core.List.{List, [], ◌∷◌}
use mathlib.Core.Bool.{Bool, true, false, ◌&&◌, ◌||◌, and-false}
use lib.Dec.{leb, ltb, eqb}
use borrow.Author.Tests.{leb-true, leb-false, le-leb, lt-leb, ltb-true, ltb-false, eqb-true, eqb-false}
use Rattle.model.specs.Bytes.{pick}
use Rattle.model.specs.Scan.{every, any, between}

-- Either a test holds or it does not; not both.
pub told : (b : Bool) → (b ≡ true) ⊎ (b ≡ false)
told true = inl refl
told false = inr refl

pub clash : {A : Type 0} {b : Bool} → b ≡ true → b ≡ false → A
clash e f = let z : ◌≡◌ {A = ℕ} 0 1 = cc in absurd (omega arith)

-- A number is below another or not, and equal to it or not.
pub less? : (a b : ℕ) → (a < b) ⊎ (b ≤ a)
less? a b = go (ltb a b) refl
  where
    go : (t : Bool) → ltb a b ≡ t → (a < b) ⊎ (b ≤ a)
    go true h = inl (ltb-true a b h)
    go false h = inr (ltb-false a b h)

pub same? : (a b : ℕ) → (a ≡ b) ⊎ (a ≡ b → ⊥)
same? a b = go (eqb a b) refl
  where
    go : (t : Bool) → eqb a b ≡ t → (a ≡ b) ⊎ (a ≡ b → ⊥)
    go true h = inl (eqb-true a b h)
    go false h = inr (eqb-false a b h)

pub and_left : (a b : Bool) → (a && b) ≡ true → a ≡ true
and_left true b h = refl
and_left false b h = h

pub and_right : (a b : Bool) → (a && b) ≡ true → b ≡ true
and_right true b h = h
and_right false b h = cc

pub and_both : (a b : Bool) → a ≡ true → b ≡ true → (a && b) ≡ true
and_both a b e f = rw (e, f)

pub or_left : (a b : Bool) → a ≡ true → (a || b) ≡ true
or_left a b e = rw e

pub or_right : (a b : Bool) → b ≡ true → (a || b) ≡ true
or_right true b e = refl
or_right false b e = e

pub or_false : (a b : Bool) → (a || b) ≡ false → (a ≡ false) × (b ≡ false)
or_false true b h = clash refl h
or_false false b h = (refl, h)

pub or_assoc : (a b c : Bool) → ((a || b) || c) ≡ (a || (b || c))
or_assoc true b c = refl
or_assoc false b c = refl

-- Two tests of orders that follow from each other.
pub leb_same : (a b c d : ℕ) → (a ≤ b → c ≤ d) → (b < a → d < c) → leb a b ≡ leb c d
leb_same a b c d f g = go (leb a b) refl
  where
    go : (t : Bool) → leb a b ≡ t → t ≡ leb c d
    go true h = sym (le-leb c d (f (leb-true a b h)))
    go false h = sym (lt-leb c d (g (leb-false a b h)))

-- Lists of tests. Test number n of a list; one past its end counts as holding.
abbrev pub Each : List Bool → Type 0
Each [] = Unit {0}
Each (b ∷ bs) = (b ≡ true) × Each bs

abbrev pub nth : List Bool → ℕ → Bool
nth [] n = true
nth (b ∷ bs) zero = b
nth (b ∷ bs) (suc n) = nth bs n

pub every_at : (bs : List Bool) → every bs ≡ true → (n : ℕ) → nth bs n ≡ true
unfolding every
every_at [] h n = refl
every_at (b ∷ bs) h zero = and_left b (every bs) h
every_at (b ∷ bs) h (suc n) = every_at bs (and_right b (every bs) h) n

pub each_every : (bs : List Bool) → Each bs → every bs ≡ true
unfolding every
each_every [] h = refl
each_every (b ∷ bs) h = and_both b (every bs) h.0 (each_every bs h.1)

-- A pair without brackets, for long lists: `each_every _ (first also second also tt)`.
infixr 5 ◌also◌
pub ◌also◌ : {A B : Type 0} → A → B → A × B
a also b = (a, b)

-- One test that fails is enough.
pub every_not : (bs : List Bool) (n : ℕ) → nth bs n ≡ false → every bs ≡ false
unfolding every
every_not [] n h = h
every_not (b ∷ bs) zero h = rw h
every_not (b ∷ bs) (suc n) h = go b (every_not bs n h)
  where
    go : (b : Bool) → every bs ≡ false → (b && every bs) ≡ false
    go true e = e
    go false e = refl

-- What follows from each test that may hold.
abbrev pub Implies : Type 0 → List Bool → Type 0
Implies P [] = Unit {0}
Implies P (b ∷ bs) = (b ≡ true → P) × Implies P bs

pub any_elim : {P : Type 0} (bs : List Bool) → Implies P bs → any bs ≡ true → P
unfolding any
any_elim [] f h = clash h refl
any_elim {P} (b ∷ bs) f h = go b (any bs) f.0 (any_elim bs f.1) h
  where
    go : (b c : Bool) → (b ≡ true → P) → (c ≡ true → P) → (b || c) ≡ true → P
    go true c f g h = f refl
    go false c f g h = g h

pub between_true : (lo hi n : ℕ) → between lo hi n ≡ true → (lo ≤ n) × (n ≤ hi)
unfolding between
between_true lo hi n h = (leb-true lo n (and_left (leb lo n) (leb n hi) h), leb-true n hi (and_right (leb lo n) (leb n hi) h))

pub between_is : (lo hi n : ℕ) → lo ≤ n → n ≤ hi → between lo hi n ≡ true
unfolding between
between_is lo hi n l h = rw (le-leb lo n l, le-leb n hi h)

pub between_low : (lo hi n : ℕ) → n < lo → between lo hi n ≡ false
unfolding between
between_low lo hi n h = rw (lt-leb lo n h)

pub between_high : (lo hi n : ℕ) → hi < n → between lo hi n ≡ false
unfolding between
between_high lo hi n h = rw (lt-leb n hi h, and-false)

-- Which of two was picked, and what holds of either.
pub which : {A : Type 0} (t : Bool) (x y z : A) → pick t x y ≡ z → ((t ≡ true) × (x ≡ z)) ⊎ ((t ≡ false) × (y ≡ z))
which true x y z h = inl (refl, h)
which false x y z h = inr (refl, h)

pub by_pick : {A : Type 0} (P : A → Type 0) (b : Bool) (x y : A) → (b ≡ true → P x) → (b ≡ false → P y) → P (pick b x y)
by_pick P true x y f h = f refl
by_pick P false x y f h = h refl

pub both : (a b : Bool) → pick a b false ≡ true → (a ≡ true) × (b ≡ true)
both true b h = (refl, h)
both false b h = clash h refl
