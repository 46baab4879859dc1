use mathlib.Core.Path.{refl}
use native.Mathlib.Omega.{arith}
use Rattle.std.proofs.lemmas.Result.{err_from_is_err_and}
use Rattle.file_append.proofs.Turns.{reached_first, reached_all, reached_more, reached_cut, there_in}
use Rattle.file_append.proofs.append_data.Goals as goal

pub loop-q-init : goal.loop-q-init
loop-q-init c =
    let a = c.args in
    let pre = c.requires in
    (refl, reached_first a.l a.f a.w.now a.new.now a.limit.now pre.0.fits.shape pre.1 a.last c.clusters_for.result pre.2 c.clusters_for.ensures)

pub sector_in-s-requires : goal.sector_in-s-requires
sector_in-s-requires c =
    let a = c.args in
    let pre = c.requires in
    let turn = c.loop-q in
    let r = there_in a.l a.f a.w.now a.new.now a.limit.now pre.0.fits.shape pre.1 turn.limit turn.w turn.p turn.q
    turn.invariant.1 (omega arith) c.advance-p.result c.advance-p.ensures in (pre.0.fits, r.0, r.1)

pub returns-in_err-append_sector : goal.returns-in_err-append_sector
returns-in_err-append_sector c =
    let a = c.args in
    let pre = c.requires in
    let turn = c.loop-q in
    let p = err_from_is_err_and c.from_residual.result c.from_residual.ensures.1 in
    rw (p.1, p.2) (reached_cut a.l a.f a.w.now a.new.now a.limit.now pre.0.fits.shape pre.1 turn.limit turn.w turn.p turn.q turn.invariant.1 (omega arith)
    c.advance-p.result c.advance-p.ensures c.sector_in-s.result c.sector_in-s.ensures.0 c.append_sector.new.w c.append_sector.new.limit c.append_sector.result
    c.append_sector.ensures c.in_err-append_sector.was)

pub loop-q-preserved : goal.loop-q-preserved
loop-q-preserved c =
    let a = c.args in
    let pre = c.requires in
    let turn = c.loop-q in (
      omega (arith, turn.invariant.0),
      reached_more a.l a.f a.w.now a.new.now a.limit.now pre.0.fits.shape pre.1 turn.limit turn.w turn.p turn.q turn.invariant.1 (omega arith)
          c.advance-p.result c.advance-p.ensures c.sector_in-s.result c.sector_in-s.ensures.0 c.append_sector.new.w c.append_sector.new.limit
          c.append_sector.result c.append_sector.ensures c.in_ok-append_sector.was,
    )

pub returns : goal.returns
returns c =
    let a = c.args in
    let pre = c.requires in
    let turn = c.loop-q in
    reached_all a.l a.f a.w.now a.new.now a.limit.now pre.0.fits.shape pre.1 turn.limit turn.w turn.p turn.q turn.invariant.1 (omega arith)
