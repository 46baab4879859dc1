use native.Mathlib.Omega.{arith}
use Rattle.model.specs.Sector.{card_of}
use Rattle.model.specs.Fat.{entry, fat1_of}
use Rattle.file_read.proofs.Laws.{run_ahead}
use Rattle.file_read.proofs.sectors_ahead.Goals as goal

pub returns : goal.returns
returns c =
    let run = c.run_length in
    let a = c.args in
    let pre = c.requires in
    let e = entry (fat1_of a.l (card_of a.w.now)) in
    let h = run_ahead a.l pre.0.fits.shape e a.k a.q a.n run.result pre.1 run.ensures.0 run.ensures.1 run.ensures.3 in
    (omega (arith, h.0), omega (arith, h.1), h.2, h.3)
