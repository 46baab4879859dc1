use mathlib.Core.Path.{◌≡◌, sym, ◌∙◌}
use Prim.Native.Nat.{◌%◌}
use native.Mathlib.Omega.{arith}
use Rattle.model.specs.Sector.{card_of}
use borrow.Author.Tests.{eqb-true}
use Rattle.root_read.proofs.Laws.{blank_slots}
use Rattle.root_read.proofs.is_blank.Goals as goal

pub returns-else-k-eq0 : goal.returns-else-k-eq0
returns-else-k-eq0 c = λ e. absurd (c.if-k-eq0.false (eqb-true _ _ e))

pub returns-then-k-eq0 : goal.returns-then-k-eq0
returns-then-k-eq0 c = λ e.
    let a = c.args in
    let pre = c.requires in
    let z : a.k % 16 ≡ 0 = omega arith in
    let place = c.root_place.ensures.0 in (
      omega (arith, z, pre.0.fits.shape.whole_sectors),
      blank_slots a.l (card_of a.w.now) a.k z (rw (← place) (sym c.is_blank.ensures ∙ e)),
    )
