use Rattle.std.proofs.lemmas.Result.{err_from_is_err_and}
use Rattle.model.specs.Bytes.{bytes_of}
use Rattle.model.specs.Sector.{card_of}
use Rattle.model.specs.Record.{with_text}
use Rattle.model.proofs.Runs.{spent_stop, spent_then}
use Rattle.operations.specs.Finish.{root_stores, finish}
use Rattle.log_steps.proofs.Kept.{root_kept}
use Rattle.log_steps.proofs.finish.Goals as goal

pub returns-in_err-to_fat1 : goal.returns-in_err-to_fat1
unfolding finish
returns-in_err-to_fat1 c =
    let a = c.args in
    let p = err_from_is_err_and c.from_residual.result c.from_residual.ensures.1 in
    rw p.1 (spent_stop c.in_err-to_fat1.was c.to_fat1.ensures (root_stores a.l (with_text a.o (bytes_of a.text.now)) (card_of a.w.now)))

pub returns : goal.returns
unfolding finish
returns c =
    let a = c.args in
    let h = c.requires in
    let same = root_kept a.l h.held.fits.shape (with_text a.o (bytes_of a.text.now)) h.slots.0 c.to_fat1.ensures in
    spent_then c.in_ok-to_fat1.was c.to_fat1.ensures (rw same at c.store_root.ensures)
