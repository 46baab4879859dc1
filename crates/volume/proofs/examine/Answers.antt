use mathlib.Core.Path.{◌≡◌}
use Rattle.std.proofs.lemmas.Result.{err_from_is_err_and}
use Rattle.model.specs.Sector.{window_of}
use Rattle.model.specs.Ground.{answer_of, ◌>>=◌}
use Rattle.model.specs.Volume.{examine}
use Rattle.volume.specs.Examined.{examine_on}
use Rattle.volume.proofs.Ready.{opened_with}
use Rattle.volume.proofs.examine.Goals as goal

pub returns-in_err-l-clause-answer : goal.returns-in_err-l-clause-answer
unfolding examine ◌>>=◌
returns-in_err-l-clause-answer c =
    let p = err_from_is_err_and c.from_residual.result c.from_residual.ensures.1 in rw (p.1, p.2, ← c.in_err-l.ensures.answer)

pub returns : goal.returns
unfolding examine examine_on ◌>>=◌
returns c =
    let r = c.examine_log in
    let e : answer_of r.result ≡ examine (window_of c.args.w.now) = rw (← c.in_ok-l.ensures.answer) r.ensures.answer in
    record { answer = e; legible = opened_with c.args.w.now r.result e r.ensures.carried }
