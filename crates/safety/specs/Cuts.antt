-- What is on a card when the power goes in the middle of a call, and in the middle of recoveries after it.
use Rattle.std.specs.Prelude.{ℕ, ◌≡◌, ◌⊎◌, Bool, true, false, ltb, length}
use mathlib.Core.Logic.{inl, inr}
use mathlib.Core.List.{List, [], ◌∷◌, ◌++◌, Sublistᴰ}
use Rattle.model.specs.Sector.{Store, Card, after}
use Rattle.model.specs.Ground.{Answer, refused, granted}
use Rattle.operations.specs.Program.{Program, ending, segment}
use Rattle.operations.specs.Calls.{plan, recovers}

-- The stores of a call; a refused one has none.
abbrev pub program_of : Answer Program → Program
program_of (refused g) = ending []
program_of (granted p) = p

-- Of a program's stores, zs may be what reached the card: all up to some barrier, and any choice of those after it, up to the next
-- barrier. "A cut leaves the stores made, whole, and no others" is one such choice, a first part of the list.
abbrev pub Cut : Program → List Store → Type 0
Cut (ending ys) zs = Sublistᴰ zs ys
Cut (segment ys b p) zs = Sublistᴰ zs ys ⊎ ((ws : List Store) × (zs ≡ ys ++ b ∷ ws) × Cut p ws)

-- The first barrier of an operation's program is "the store of the log record". Whether it is on the card at a cut, and whether it is
-- among the stores made under a limit.
abbrev pub passes_group : (p : Program) (zs : List Store) → Cut p zs → Bool
passes_group (ending ys) zs k = false
passes_group (segment ys b p) zs (inl k) = false
passes_group (segment ys b p) zs (inr k) = true

abbrev pub reaches_group : Program → ℕ → Bool
reaches_group (ending ys) limit = false
reaches_group (segment ys b p) limit = ltb (length ys) limit

-- Recovery of a card in a window of this size.
abbrev pub recovery : ℕ → Card → Answer Program
recovery size c = plan recovers (record { size = size; card = c })

-- Recoveries, however many and each cut somewhere, may lead from one card to another.
pub data Later (size : ℕ) : Card → Card → Type 0 where
  now : {x : Card} → Later size x x
  next : {x y z : Card} (zs : List Store) → Later size x y → Cut (program_of (recovery size y)) zs → z ≡ after zs y → Later size x z
