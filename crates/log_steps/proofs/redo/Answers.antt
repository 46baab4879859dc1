use mathlib.Core.List.{[], ◌∷◌}
use Rattle.std.proofs.lemmas.Result.{err_from_is_err_and}
use Rattle.model.specs.Bytes.{bytes_of}
use Rattle.model.specs.Sector.{card_of}
use Rattle.model.specs.Record.{planned, commit}
use Rattle.model.proofs.Runs.{spent_stop, spent_then}
use Rattle.operations.proofs.Roots.{redo_stores}
use Rattle.log_steps.proofs.Kept.{group_kept}
use Rattle.log_steps.proofs.redo.Goals as goal

pub returns-in_err-finish : goal.returns-in_err-finish
returns-in_err-finish c =
    let a = c.args in
    let g = planned a.p (bytes_of a.text.now) in
    let p = err_from_is_err_and c.from_residual.result c.from_residual.ensures.1 in
    rw (p.1, redo_stores a.l g (card_of a.w.now)) (spent_stop c.in_err-finish.was c.finish.ensures (commit (card_of a.w.now) g ∷ []))

pub returns : goal.returns
unfolding commit
returns c =
    let a = c.args in
    let h = c.requires in
    let g = planned a.p (bytes_of a.text.now) in
    let same = group_kept a.l h.held.fits.shape g.change g h.group_within.0 c.finish.ensures in
    rw (redo_stores a.l g (card_of a.w.now)) (spent_then c.in_ok-finish.was c.finish.ensures (rw same at c.commit.ensures))
