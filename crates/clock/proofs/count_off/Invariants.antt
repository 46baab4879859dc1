use Rattle.std.proofs.Common.{ℕ, ◌-◌}
use Rattle.model.proofs.Calendar.{Counts}
use Rattle.clock.specs.Computes.{Computes}
use Rattle.clock.proofs.count_off.Given as goal

abbrev pub invariant-loop-unit : goal.invariant-loop-unit
invariant-loop-unit g l = (long : ℕ → ℕ) → Computes (goal.F-post g l.length) long → Counts long (l.end - l.from) l.from l.days l.unit l.left
