use Prim.Native.Nat.{◌+◌, ◌-◌}
use Rattle.model.specs.Sector.{card_of}
use Rattle.model.specs.Promises.{Number}
use Rattle.sector.proofs.le.Given as goal

abbrev pub invariant-loop-k : goal.invariant-loop-k
invariant-loop-k g l = Number (g.row.N - l.k) (card_of l.w l.s) (l.j + l.k) l.v
