use Rattle.std.proofs.lemmas.Result.{err_from_is_err_and}
use Rattle.model.specs.Bytes.{view}
use Rattle.model.proofs.Runs.{spent_stop}
use Rattle.call_append.proofs.Laws.{chain_ran, enough_kept}
use borrow.Author.Rules.{rules}
use Rattle.call_append.proofs.store_chain.Goals as goal

pub returns-in_err-append_data : goal.returns-in_err-append_data
returns-in_err-append_data c =
    let p = err_from_is_err_and c.from_residual.result c.from_residual.ensures.1 in
    rw (p.1, p.2) (spent_stop c.in_err-append_data.was c.append_data.ensures _)

pub extend_fat-requires : goal.extend_fat-requires
extend_fat-requires c =
    let a = c.args in
    let p = c.requires in
    (search rules, enough_kept a.l a.f (view a.bytes.now) p.held.0.fits.shape p.held.1.chain c.append_data.ensures (rw p.growth.1 p.held.1.enough))

pub returns : goal.returns
returns c =
    let a = c.args in
    let p = c.requires in
    chain_ran a.l a.f (view a.bytes.now) p.held.0.fits.shape p.held.1.chain c.append_data.ensures c.in_ok-append_data.was a.last a.n c.extend_fat.ensures
