use mathlib.Core.Path.{◌≡◌}
use lib.ListN.{length}
use Rattle.std.proofs.Common.{Ok}
use Rattle.model.specs.Promises.{Spent, up_to}
use Rattle.call_format.proofs.Laws.{table_turn}
use Rattle.call_format.proofs.store_tables.Given as goal

abbrev pub invariant-loop-k : goal.invariant-loop-k
invariant-loop-k l = (length l.w ≡ length l.initial.w) × Spent l.initial.limit l.limit (up_to (table_turn l.l l.n) l.k) l.initial.w l.w (Ok tt)
