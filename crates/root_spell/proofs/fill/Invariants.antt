use Prim.Native.Nat.{◌+◌}
use mathlib.Core.Path.{◌≡◌}
use Rattle.model.specs.Bytes.{bytes_of}
use Rattle.model.specs.LongName.{spelled, fill}
use Rattle.root_spell.proofs.fill.Given as goal

abbrev pub invariant-loop-k : goal.invariant-loop-k
invariant-loop-k l = bytes_of l.b ≡ fill (λ i. spelled (bytes_of l.t) l.n (l.q + i)) (bytes_of l.initial.b) l.k
