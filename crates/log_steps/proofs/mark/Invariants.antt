use mathlib.Core.Path.{◌≡◌}
use Prim.Native.Nat.{ℕ}
use lib.ListN.{get_or}
use Rattle.model.specs.Bytes.{bytes_of}
use Rattle.model.specs.Record.{committed}
use Rattle.log_steps.proofs.mark.Given as goal

abbrev pub invariant-loop-k : goal.invariant-loop-k
invariant-loop-k l = (j : ℕ) → get_or l.buf j 0 ≡ committed l.k (bytes_of l.initial.buf) j
