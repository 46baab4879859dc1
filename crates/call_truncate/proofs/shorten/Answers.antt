use mathlib.Core.List.{[]}
use Rattle.std.proofs.lemmas.Result.{err_from_is_err_and}
use Rattle.model.specs.Sector.{card_of}
use Rattle.model.specs.Record.{plain}
use Rattle.operations.specs.Plan.{old_fat}
use Rattle.fat_release.specs.Release.{cut}
use Rattle.log_steps.proofs.Parts.{operate_cut, operate_ran}
use Rattle.call_truncate.proofs.shorten.Goals as goal

pub returns-in_err-shorten_fat : goal.returns-in_err-shorten_fat
returns-in_err-shorten_fat c =
    let pre = c.requires in
    let a = c.args in
    let p = err_from_is_err_and c.from_residual.result c.from_residual.ensures.1 in
    rw (p.1, p.2) (operate_cut a.v [] (cut (old_fat a.v (card_of a.w.now)) a.c.kept a.c.from a.c.freed) (plain a.o)
    pre.ready.held.fits.shape pre.ready.lies.above (λ s less. tt) c.in_err-shorten_fat.was c.shorten_fat.ensures)

pub returns : goal.returns
returns c =
    let pre = c.requires in
    let a = c.args in
    operate_ran a.v [] (cut (old_fat a.v (card_of a.w.now)) a.c.kept a.c.from a.c.freed) (plain a.o)
    pre.ready.held.fits.shape pre.ready.lies.above (λ s less. tt) c.in_ok-shorten_fat.was c.shorten_fat.ensures c.plain_steps.ensures
