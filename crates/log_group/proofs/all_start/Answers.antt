use mathlib.Core.Path.{sym, ◌∙◌}
use native.Mathlib.Omega.{arith}
use Rattle.model.proofs.Scan.{all_not, all_of0}
use Rattle.log_group.proofs.all_start.Goals as goal

pub returns-then-not-starts : goal.returns-then-not-starts
returns-then-not-starts c = sym (all_not _ 0 c.args.m c.loop-k.k (omega arith) (omega arith) (sym c.starts.ensures ∙ c.if-not-starts.true))

pub returns : goal.returns
returns c = sym (all_of0 _ c.args.m (λ k less. c.loop-k.invariant k (omega arith) (omega arith)))
