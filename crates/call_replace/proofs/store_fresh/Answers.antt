use Rattle.std.proofs.lemmas.Result.{err_from_is_err_and}
use Rattle.model.specs.Bytes.{view}
use Rattle.model.specs.Sector.{card_of}
use Rattle.model.specs.Fat.{entry, fat1_of}
use Rattle.model.specs.Chain.{needed}
use Rattle.model.specs.Promises.{Held}
use Rattle.model.proofs.Runs.{spent_stop}
use Rattle.fat_release.proofs.Shortens.{whole_inside}
use Rattle.call_replace.specs.Replace.{emptied}
use Rattle.call_replace.proofs.Laws.{emptied_last, still, both_ran}
use borrow.Author.Rules.{rules}
use Rattle.call_replace.proofs.store_fresh.Goals as goal

pub append_data-requires : goal.append_data-requires
append_data-requires c =
    let a = c.args in
    let p = c.requires in
    (p.held.0, p.held.2, emptied_last a.l p.held.0.fits.shape.factor_low a.f (fat1_of a.l (card_of a.w.now)))

pub returns-in_err-append_data : goal.returns-in_err-append_data
returns-in_err-append_data c =
    let p = err_from_is_err_and c.from_residual.result c.from_residual.ensures.1 in
    rw (p.1, p.2) (spent_stop c.in_err-append_data.was c.append_data.ensures _)

pub exchange_fat-requires : goal.exchange_fat-requires
exchange_fat-requires c =
    let a = c.args in
    let p = c.requires in
    let sh = p.held.0.fits.shape in
    let inside = whole_inside a.l sh (entry (fat1_of a.l (card_of a.w.now))) a.f.first a.f.size p.held.1 in
    let held : Held a.l c.append_data.new.w = search rules in
    let s = still a.l (emptied a.f) (view a.bytes.now) a.f.first (needed a.l a.f.size) sh p.held.2.chain inside c.append_data.ensures
    (rw p.taken p.held.2.enough) in
    rw c.clusters_for-m.ensures (held, s.0, s.1)

pub returns : goal.returns
returns c =
    let a = c.args in
    let p = c.requires in
    let sh = p.held.0.fits.shape in
    let inside = whole_inside a.l sh (entry (fat1_of a.l (card_of a.w.now))) a.f.first a.f.size p.held.1 in
    both_ran a.l (emptied a.f) (view a.bytes.now) a.f.first (needed a.l a.f.size) sh p.held.2.chain inside c.append_data.ensures c.in_ok-append_data.was a.n
    (rw c.clusters_for-m.ensures at c.exchange_fat.ensures)
