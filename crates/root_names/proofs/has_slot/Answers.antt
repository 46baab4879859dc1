use Rattle.std.proofs.Common.{sym, arith, ◌∙◌}
use Rattle.std.proofs.lemmas.Bool.{lt-leb}
use Rattle.model.proofs.Long.{not_of_name, slot_test}
use Rattle.root_names.proofs.has_slot.Goals as goal

pub returns-then-k-s : goal.returns-then-k-s
returns-then-k-s c = let a = c.args in slot_test a.s a.n a.k (omega arith)

pub returns-else-k-s : goal.returns-else-k-s
returns-else-k-s c = let a = c.args in lt-leb _ _ c.if-k-s.false ∙ sym (not_of_name a.s a.n a.k (λ w. omega (arith, w.0)))
