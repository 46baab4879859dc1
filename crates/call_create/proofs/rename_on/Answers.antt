use mathlib.Core.Path.{sym}
use Rattle.std.proofs.lemmas.Result.{err_from_is_err_and}
use Rattle.model.specs.Ground.{◌when◌, ◌>>=◌, ◌>>◌}
use Rattle.operations.specs.Calls.{rename_on}
use Rattle.call_outcome.proofs.Ends.{did_refused}
use Rattle.call_create.proofs.rename_on.Goals.{then-not-is_name-via-then-not-is_name, then-not-is_name-via-else-not-is_name+then-not-is_name-2}
use Rattle.call_create.proofs.rename_on.Goals as goal

pub returns-then-not-is_name : goal.returns-then-not-is_name
unfolding rename_on ◌when◌ ◌>>◌
returns-then-not-is_name c = elim c.then-not-is_name.branch [
  | then-not-is_name-via-then-not-is_name w ↦ rw (← c.is_name.ensures, w.if-not-is_name.true) (did_refused _ _ _)
  | then-not-is_name-via-else-not-is_name+then-not-is_name-2 w ↦
      rw (← c.is_name.ensures, w.if-not-is_name.false, ← w.is_name-else-not-is_name.ensures, w.if-not-is_name-2.true) (did_refused _ _ _)
]

pub rename_as-requires : goal.rename_as-requires
rename_as-requires c =
    record { ready = c.requires; slot_and_name = (c.in_ok-f.ensures.seated.slot, sym c.if-not-is_name-2.ensures) }

pub returns-in_err-f : goal.returns-in_err-f
unfolding rename_on ◌when◌ ◌>>◌ ◌>>=◌
returns-in_err-f c =
    let p = err_from_is_err_and c.from_residual.result c.from_residual.ensures.1 in
    rw (p.1, p.2, ← c.if-not-is_name.ensures, ← c.if-not-is_name-2.ensures, ← c.in_err-f.ensures.answer) (did_refused _ _ _)

pub returns : goal.returns
unfolding rename_on ◌when◌ ◌>>◌ ◌>>=◌
returns c = rw (← c.if-not-is_name.ensures, ← c.if-not-is_name-2.ensures, ← c.in_ok-f.ensures.answer) c.rename_as.ensures
