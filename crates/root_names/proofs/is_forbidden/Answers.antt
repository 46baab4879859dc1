use Rattle.std.proofs.Common.{◌≡◌, ℕ, ◌+◌, ◌<◌, ◌≤◌, Bool, true, false, ◌||◌, List, [], ◌∷◌, sym, refl, ⊎_elim, arith, ne_eqb}
use mir.Val.{has_key}
use types.Run.{OneOf}
use Rattle.model.specs.Scan.{any, between, all, all_from, walk}
use Rattle.model.specs.LongName.{forbidden}
use Rattle.model.proofs.Match.{like, ranged, keyed}
use Rattle.model.proofs.Tests.{less?, between_high}
use Rattle.root_names.proofs.is_forbidden.Goals as goal

-- The single numbers among the patterns.
abbrev keys : List ℕ
keys = 34 ∷ 42 ∷ 47 ∷ 58 ∷ 60 ∷ 92 ∷ 124 ∷ []

-- On the n numbers from lo on, but for the keys.
on : (v : Bool) (lo n : ℕ) → all (λ k. like v (forbidden (lo + k)) || has_key keys (lo + k)) n ≡ true → (x : ℕ) → (OneOf keys x → ⊥)
    → lo ≤ x → x < lo + n → v ≡ forbidden x
on v lo n t x other l h = sym (ranged forbidden v keys lo n t x other l h)

-- Above the last of them all are allowed.
past : (k : ℕ) → 124 < k → false ≡ forbidden k
unfolding forbidden any
past k h =
    rw (
      between_high 0 31 k (omega arith),
      ne_eqb k 34 (λ e. omega arith),
      ne_eqb k 42 (λ e. omega arith),
      ne_eqb k 47 (λ e. omega arith),
      ne_eqb k 58 (λ e. omega arith),
      ne_eqb k 60 (λ e. omega arith),
      between_high 62 63 k (omega arith),
      ne_eqb k 92 (λ e. omega arith),
      ne_eqb k 124 (λ e. omega arith),
    )

pub returns-in_default : goal.returns-in_default
unfolding forbidden any between all_from walk
returns-in_default c = on false 32 30 refl c.args.c c.in_default.in_default-own.rest.1 (omega arith) (omega arith)

pub returns-in_default-2 : goal.returns-in_default-2
unfolding forbidden any between all_from walk
returns-in_default-2 c =
    ⊎_elim (λ low. on false 64 61 refl c.args.c c.in_default.in_default-own.rest.1 (omega arith) low) (λ high. past c.args.c high)
    (less? c.args.c 125)

pub returns-in-0-to-31 : goal.returns-in-0-to-31
unfolding forbidden any between
returns-in-0-to-31 c = sym (keyed forbidden true keys refl _ c.in-0-to-31.in-0-to-31-own.keys1)

pub returns-in-0-to-31-2 : goal.returns-in-0-to-31-2
unfolding forbidden any between all_from walk
returns-in-0-to-31-2 c = on true 0 32 refl c.args.c c.in-0-to-31.in_default-own.rest.1 (omega arith) (omega arith)

pub returns-in-0-to-31-3 : goal.returns-in-0-to-31-3
unfolding forbidden any between all_from walk
returns-in-0-to-31-3 c = on true 62 2 refl c.args.c c.in-0-to-31.in_default-own.rest.1 (omega arith) (omega arith)
