use Rattle.std.proofs.Common.{Ok}
use Rattle.model.specs.Promises.{Spent}
use Rattle.log_write.proofs.Laws.{cleared_from}
use Rattle.log_write.proofs.clear_all.Given as goal

abbrev pub invariant-loop-k : goal.invariant-loop-k
invariant-loop-k l = Spent l.initial.limit l.limit (cleared_from l.a l.k) l.initial.w l.w (Ok (tt {0}))
