use Rattle.std.proofs.lemmas.Result.{err_from_is_err_and}
use Rattle.model.specs.Ground.{◌when◌, ◌>>=◌, ◌>>◌}
use Rattle.operations.specs.Calls.{file_of}
use Rattle.root_lookup.proofs.file_of.Goals as goal

pub returns-then-not-is_name-clause-answer : goal.returns-then-not-is_name-clause-answer
unfolding file_of ◌when◌ ◌>>◌
returns-then-not-is_name-clause-answer c = rw (← c.if-not-is_name.ensures)

pub returns-in_err-f-clause-answer : goal.returns-in_err-f-clause-answer
unfolding file_of ◌when◌ ◌>>◌ ◌>>=◌
returns-in_err-f-clause-answer c =
    let p = err_from_is_err_and c.from_residual.result c.from_residual.ensures.1 in
    rw (p.1, p.2, ← c.if-not-is_name.ensures, ← c.in_err-f.ensures.answer)

pub returns-clause-answer : goal.returns-clause-answer
unfolding file_of ◌when◌ ◌>>◌ ◌>>=◌
returns-clause-answer c = rw (← c.if-not-is_name.ensures, ← c.in_ok-f.ensures.answer) c.keep_whole.ensures.answer
