use mathlib.Core.Path.{sym}
use native.Mathlib.Omega.{arith}
use Rattle.model.specs.Bytes.{view}
use Rattle.model.specs.Ground.{◌when◌, ◌>>◌}
use Rattle.call_outcome.proofs.Ends.{did_refused}
use Rattle.operations.specs.Calls.{create_long_on}
use Rattle.operations.proofs.Spelled.{text_even, text_few}
use Rattle.call_create.proofs.create_long_on.Goals as goal

pub returns-then-not-is_name : goal.returns-then-not-is_name
unfolding create_long_on ◌when◌ ◌>>◌
returns-then-not-is_name c = rw (← c.if-not-is_name.ensures) (did_refused _ _ _)

pub returns-then-not-is_text : goal.returns-then-not-is_text
unfolding create_long_on ◌when◌ ◌>>◌
returns-then-not-is_text c = rw (← c.if-not-is_name.ensures, ← c.if-not-is_text.ensures) (did_refused _ _ _)

pub create_as-requires : goal.create_as-requires
create_as-requires c =
    let a = c.args in
    let fine = sym c.if-not-is_text.ensures in
    let even = text_even (view a.text.now) fine in
    let few = text_few (view a.text.now) fine in
    record { ready = c.requires; names = (sym c.if-not-is_name.ensures, even, omega arith) }

pub returns : goal.returns
unfolding create_long_on ◌when◌ ◌>>◌
returns c = rw (← c.if-not-is_name.ensures, ← c.if-not-is_text.ensures) c.create_as.ensures
