use mathlib.Core.Path.{sym, refl}
use native.Mathlib.Omega.{arith}
use Rattle.model.proofs.Scan.{all_not, all_of0}
use Rattle.log_record.proofs.is_apart.Goals as goal

pub returns-then-has_slot : goal.returns-then-has_slot
returns-then-has_slot c =
    sym (all_not _ 0 c.args.n c.loop-i.i (omega arith) (omega arith) (rw (← c.load-r.ensures, ← c.has_slot.ensures, c.if-has_slot.true) refl))

pub returns : goal.returns
returns c = sym (all_of0 _ c.args.n (λ m less. c.loop-i.invariant m (omega arith) (omega arith)))
