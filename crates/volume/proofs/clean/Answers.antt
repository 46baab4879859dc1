use mathlib.Core.Path.{◌≡◌}
use Rattle.std.proofs.lemmas.Result.{err_from_is_err_and}
use Rattle.model.specs.Sector.{window_of}
use Rattle.model.specs.Ground.{answer_of, ◌>>=◌}
use Rattle.model.specs.Volume.{clean}
use Rattle.volume.proofs.Ready.{opened_with}
use Rattle.volume.proofs.clean.Goals as goal

pub returns-in_err-v-clause-answer : goal.returns-in_err-v-clause-answer
unfolding clean ◌>>=◌
returns-in_err-v-clause-answer c =
    let p = err_from_is_err_and c.from_residual.result c.from_residual.ensures.1 in rw (p.1, p.2, ← c.in_err-v.ensures.answer)

pub returns : goal.returns
unfolding clean ◌>>=◌
returns c =
    let r = c.settle in
    let e : answer_of r.result ≡ clean (window_of c.args.w.now) = rw (← c.in_ok-v.ensures.answer) r.ensures.answer in
    record { answer = e; ready = opened_with c.args.w.now r.result e r.ensures.carried }
