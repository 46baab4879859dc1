use mathlib.Core.Path.{refl, sym}
use native.Mathlib.Omega.{arith}
use Rattle.model.specs.Ground.{◌when◌, ◌>>◌}
use Rattle.call_outcome.proofs.Ends.{did_refused}
use Rattle.operations.specs.Calls.{create_on}
use Rattle.call_create.proofs.create_on.Goals as goal

pub returns-then-not-is_name : goal.returns-then-not-is_name
unfolding create_on ◌when◌ ◌>>◌
returns-then-not-is_name c = rw (← c.if-not-is_name.ensures) (did_refused _ _ _)

pub create_as-requires : goal.create_as-requires
create_as-requires c = record { ready = c.requires; names = (sym c.if-not-is_name.ensures, refl, omega arith) }

pub returns : goal.returns
unfolding create_on ◌when◌ ◌>>◌
returns c = rw (← c.if-not-is_name.ensures) c.create_as.ensures
