use mathlib.Core.Bool.{true, false}
use Prim.Native.Nat.{◌+◌, ◌≤◌, ◌<◌}
use Rattle.model.specs.Scan.{all_from}
use Rattle.model.specs.Sector.{card_of}
use Rattle.model.specs.Root.{slot_at, vacant}
use Rattle.model.proofs.Scan.{Sofar}
use Rattle.root_read.proofs.free_run.Given as goal

abbrev pub invariant-loop-k : goal.invariant-loop-k
invariant-loop-k l =
    (l.start ≤ l.k) × (l.k < l.start + l.m) × Sofar (λ i. vacant (slot_at l.l (card_of l.w) i)) true l.start l.k
    × Sofar (λ j. all_from (λ i. vacant (slot_at l.l (card_of l.w) i)) j l.m) false 0 l.start
