use mathlib.Core.Path.{sym, ◌∙◌}
use native.Mathlib.Omega.{arith}
use borrow.Author.Tests.{ne_eqb}
use Rattle.model.specs.Pending.{empty_from}
use Rattle.model.proofs.Scan.{all_not, all_of}
use Rattle.log_group.proofs.is_empty.Goals as goal

pub returns-then-byte-ne0 : goal.returns-then-byte-ne0
unfolding empty_from
returns-then-byte-ne0 c =
    sym (all_not _ _ _ c.loop-j.j (omega arith) (omega arith) (ne_eqb _ _ (λ e. c.if-byte-ne0.true (c.byte.ensures.0 ∙ e))))

pub returns : goal.returns
unfolding empty_from
returns c = sym (all_of _ _ _ (λ j low less. c.loop-j.invariant j low (omega arith)))
