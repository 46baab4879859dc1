use mathlib.Core.Path.{sym, ◌∙◌}
use Rattle.std.proofs.lemmas.Result.{err_from_is_err_and}
use Rattle.model.specs.Sector.{window_of}
use Rattle.call_fits.proofs.Laws.{fits_refused, fits_granted}
use Rattle.call_fits.proofs.fits.Goals as goal

pub returns-in_err-v : goal.returns-in_err-v
returns-in_err-v c =
    let p = err_from_is_err_and c.from_residual.result c.from_residual.ensures.1 in
    rw (p.1, p.2) (fits_refused (window_of c.args.w.now) c.args.bytes _ (sym c.in_err-v.ensures.answer))

pub returns : goal.returns
returns c = c.fits_on.ensures ∙ fits_granted (window_of c.args.w.now) c.args.bytes _ (sym c.in_ok-v.ensures.answer)
