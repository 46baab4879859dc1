use mathlib.Core.Path.{ap}
use Prim.Native.Nat.{ℕ}
use lib.Dec.{ltb}
use Rattle.operations.specs.Calls.{taken}
use Rattle.root_lookup.proofs.is_taken.Goals as goal

pub returns : goal.returns
unfolding taken
returns c = ap (λ (s : ℕ). ltb s c.args.v.layout.entries) c.slot_of.ensures.0
