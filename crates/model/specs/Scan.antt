-- Tests, and scans over the numbers from a start on. Every scan of the card is one of these.
use Rattle.std.specs.Prelude.{ℕ, zero, suc, ◌+◌, ◌-◌, List, [], ◌∷◌, map, Bool, true, false, ◌&&◌, ◌||◌, leb, eqb, get_or}
use Rattle.model.specs.Bytes.{pick}

-- All of a list of tests hold.
unfoldable pub every : List Bool → Bool
every [] = true
every (b ∷ bs) = b && every bs

-- One of a list of tests holds.
unfoldable pub any : List Bool → Bool
any [] = false
any (b ∷ bs) = b || any bs

-- A number is from lo to hi.
unfoldable pub between : ℕ → ℕ → ℕ → Bool
between lo hi n = leb lo n && leb n hi

-- A walk over the n numbers from i on: what is made of a number that p holds of and of what is made of the rest; of one
-- that it does not hold of; and of none.
unfoldable pub walk : {A : Type 0} → (ℕ → A → A) → (ℕ → A → A) → (ℕ → A) → (ℕ → Bool) → ℕ → ℕ → A
walk hit miss end p i zero = end i
walk hit miss end p i (suc n) =
    let r = walk hit miss end p (i + 1) n in
    pick (p i) (hit i r) (miss i r)

-- The lowest of the n numbers from i on that p holds of, else i + n.
unfoldable pub first_from : (ℕ → Bool) → ℕ → ℕ → ℕ
first_from p i n = walk (λ j r. j) (λ j r. r) (λ j. j) p i n

abbrev pub first : (ℕ → Bool) → ℕ → ℕ
first p n = first_from p 0 n

-- The numbers among the n from i on that p holds of, rising.
unfoldable pub indices_from : (ℕ → Bool) → ℕ → ℕ → List ℕ
indices_from p i n = walk (λ j r. j ∷ r) (λ j r. r) (λ j. []) p i n

abbrev pub indices : (ℕ → Bool) → ℕ → List ℕ
indices p n = indices_from p 0 n

-- The n numbers from i on.
abbrev pub range : ℕ → ℕ → List ℕ
range i n = indices_from (λ k. true) i n

-- The m-th of the n numbers from i on that p holds of, the first being number 1, else i + n.
unfoldable pub nth_from : (ℕ → Bool) → ℕ → ℕ → ℕ → ℕ
nth_from p i n m = get_or (indices_from p i n) (m - 1) (i + n)

-- How many of the n numbers from i on p holds of.
unfoldable pub count_from : (ℕ → Bool) → ℕ → ℕ → ℕ
count_from p i n = walk (λ j r. suc r) (λ j r. r) (λ j. 0) p i n

-- Whether p holds of all n numbers from i on.
unfoldable pub all_from : (ℕ → Bool) → ℕ → ℕ → Bool
all_from p i n = walk (λ j r. r) (λ j r. false) (λ j. true) p i n

abbrev pub all : (ℕ → Bool) → ℕ → Bool
all p n = all_from p 0 n

-- Whether a number is one of a list.
abbrev pub among : List ℕ → ℕ → Bool
among ks k = any (map (eqb k) ks)
