use mathlib.Core.Path.{refl}
use mathlib.Core.Logic.{⊎_elim}
use native.Mathlib.Omega.{arith}
use Rattle.call_format.proofs.Laws.{spent_same, table_fat1, table_fat2, table_zero}
use Rattle.call_format.proofs.store_table.Goals as goal

pub returns-then-k-eq0 : goal.returns-then-k-eq0
returns-then-k-eq0 c =
    let a = c.args in
    let some = c.requires.0.fits.shape in
    spent_same refl
    (λ j less. ⊎_elim (λ h. table_fat1 a.l a.n a.k (omega (arith, some)) h j) (λ h. table_fat2 a.l a.n a.k (omega (arith, some)) h.1 j) c.then-k-eq0.either)
    c.store_fat.ensures

pub returns : goal.returns
returns c =
    let a = c.args in
    spent_same refl (λ j less. table_zero a.l a.n a.k c.requires.2 c.if-k-eq0.false c.if-k-l.false j) c.store_zeros.ensures
