use Rattle.std.proofs.Common.{◌≡◌, ℕ, ◌+◌, ◌<◌, ◌≤◌, Bool, true, false, ◌||◌, List, [], ◌∷◌, sym, refl, arith}
use mir.Val.{has_key}
use types.Run.{OneOf}
use Rattle.model.specs.Scan.{any, between, all, all_from, walk}
use Rattle.model.specs.Root.{name_byte}
use Rattle.model.proofs.Match.{like, ranged, keyed}
use Rattle.root_names.proofs.name_byte.Goals as goal

-- The single numbers among the patterns.
abbrev keys : List ℕ
keys = 33 ∷ 45 ∷ 123 ∷ []

-- On the n numbers from lo on, but for the keys.
on : (v : Bool) (lo n : ℕ) → all (λ k. like v (name_byte (lo + k)) || has_key keys (lo + k)) n ≡ true → (x : ℕ) → (OneOf keys x → ⊥)
    → lo ≤ x → x < lo + n → v ≡ name_byte x
on v lo n t x other l h = sym (ranged name_byte v keys lo n t x other l h)

pub returns-in-65-to-90 : goal.returns-in-65-to-90
unfolding name_byte any between
returns-in-65-to-90 c = sym (keyed name_byte true keys refl _ c.in-65-to-90.in-65-to-90-own.keys1)

pub returns-in-65-to-90-2 : goal.returns-in-65-to-90-2
unfolding name_byte any between all_from walk
returns-in-65-to-90-2 c = on true 35 7 refl c.args.b c.in-65-to-90.in_default-own.rest.1 (omega arith) (omega arith)

pub returns-in-65-to-90-3 : goal.returns-in-65-to-90-3
unfolding name_byte any between all_from walk
returns-in-65-to-90-3 c = on true 48 10 refl c.args.b c.in-65-to-90.in_default-own.rest.1 (omega arith) (omega arith)

pub returns-in-65-to-90-4 : goal.returns-in-65-to-90-4
unfolding name_byte any between all_from walk
returns-in-65-to-90-4 c = on true 64 27 refl c.args.b c.in-65-to-90.in_default-own.rest.1 (omega arith) (omega arith)

pub returns-in-65-to-90-5 : goal.returns-in-65-to-90-5
unfolding name_byte any between all_from walk
returns-in-65-to-90-5 c = on true 94 3 refl c.args.b c.in-65-to-90.in_default-own.rest.1 (omega arith) (omega arith)

pub returns-in-65-to-90-6 : goal.returns-in-65-to-90-6
unfolding name_byte any between all_from walk
returns-in-65-to-90-6 c = on true 125 2 refl c.args.b c.in-65-to-90.in_default-own.rest.1 (omega arith) (omega arith)

pub returns-in_default : goal.returns-in_default
unfolding name_byte any between all_from walk
returns-in_default c = on false 0 35 refl c.args.b c.in_default.in_default-own.rest.1 (omega arith) (omega arith)

pub returns-in_default-2 : goal.returns-in_default-2
unfolding name_byte any between all_from walk
returns-in_default-2 c = on false 42 6 refl c.args.b c.in_default.in_default-own.rest.1 (omega arith) (omega arith)

pub returns-in_default-3 : goal.returns-in_default-3
unfolding name_byte any between all_from walk
returns-in_default-3 c = on false 58 6 refl c.args.b c.in_default.in_default-own.rest.1 (omega arith) (omega arith)

pub returns-in_default-4 : goal.returns-in_default-4
unfolding name_byte any between all_from walk
returns-in_default-4 c = on false 91 3 refl c.args.b c.in_default.in_default-own.rest.1 (omega arith) (omega arith)

pub returns-in_default-5 : goal.returns-in_default-5
unfolding name_byte any between all_from walk
returns-in_default-5 c = on false 97 28 refl c.args.b c.in_default.in_default-own.rest.1 (omega arith) (omega arith)

pub returns-in_default-6 : goal.returns-in_default-6
unfolding name_byte any between all_from walk
returns-in_default-6 c = on false 127 129 refl c.args.b c.in_default.in_default-own.rest.1 (omega arith) (omega arith)
