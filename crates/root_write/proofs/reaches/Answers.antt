use native.Mathlib.Omega.{arith}
use mathlib.Core.Path.{sym, ◌∙◌}
use borrow.Author.Tests.{eq-eqb, le-ltb}
use Rattle.root_write.proofs.Laws.{reaches_none, reaches_own, reaches_back}
use Rattle.root_write.proofs.reaches.Goals as goal

pub returns-then-s-r : goal.returns-then-s-r
returns-then-s-r c = let a = c.args in eq-eqb _ _ c.if-s-r.true ∙ sym (reaches_own a.s a.n a.r c.if-s-r.true)

pub returns-then-r-s : goal.returns-then-r-s
returns-then-r-s c = let a = c.args in c.has_slot.ensures ∙ reaches_back a.s a.n a.r (omega arith)

pub returns-else-r-s : goal.returns-else-r-s
returns-else-r-s c = let a = c.args in le-ltb _ _ c.if-r-s.false ∙ sym (reaches_none a.s a.n a.r (omega arith))
