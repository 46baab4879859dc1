use native.Mathlib.Omega.{arith}
use Rattle.model.specs.Sector.{card_of}
use Rattle.model.specs.Fat.{fat1_of}
use Rattle.call_fits.proofs.Laws.{fits_none, fits_over, fits_found, fits_past}
use Rattle.call_fits.proofs.fits_on.Goals as goal

pub returns-then-n-eq0 : goal.returns-then-n-eq0
returns-then-n-eq0 c =
    let a = c.args in
    let n = c.clusters_needed-n in
    rw (← n.ensures) (fits_none a.l (fat1_of a.l (card_of a.w.now)) n.result c.if-n-eq0.true)

pub returns-then-from-n : goal.returns-then-from-n
returns-then-from-n c =
    let a = c.args in
    let n = c.clusters_needed-n in
    rw (← n.ensures) (fits_over a.l (fat1_of a.l (card_of a.w.now)) n.result (omega arith))

pub returns-then-k-l : goal.returns-then-k-l
returns-then-k-l c =
    let a = c.args in
    let n = c.clusters_needed-n in
    rw (← n.ensures)
    (fits_found a.l (fat1_of a.l (card_of a.w.now)) n.result _ (omega arith) c.nth_free-k.ensures c.if-k-l.true)

pub returns : goal.returns
returns c =
    let a = c.args in
    let n = c.clusters_needed-n in
    rw (← n.ensures)
    (fits_past a.l (fat1_of a.l (card_of a.w.now)) n.result _ (omega arith) c.nth_free-k.ensures (omega arith))
