use Prim.Native.Nat.{◌+◌, ◌-◌}
use native.Mathlib.Omega.{arith}
use borrow.Author.Tests.{lt-ltb, le-ltb}
use Rattle.root_lookup.specs.Found.{run_answer}
use Rattle.root_lookup.proofs.free_end.Goals as goal

pub returns-then-s-n-clause-answer : goal.returns-then-s-n-clause-answer
unfolding run_answer
returns-then-s-n-clause-answer c =
    let run = c.free_run-s in
    let a = c.args in
    rw (← run.ensures.0, lt-ltb run.result (a.l.entries + 1 - (a.n + 1)) (omega arith))

pub returns-clause-answer : goal.returns-clause-answer
unfolding run_answer
returns-clause-answer c =
    let run = c.free_run-s in
    let a = c.args in
    rw (← run.ensures.0, le-ltb run.result (a.l.entries + 1 - (a.n + 1)) (omega arith))
