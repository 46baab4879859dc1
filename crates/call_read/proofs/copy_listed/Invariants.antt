use mathlib.Core.Path.{◌≡◌}
use Prim.Native.Nat.{◌-◌, ◌≤◌}
use lib.ListN.{length}
use Rattle.model.specs.Sector.{card_of}
use Rattle.operations.specs.Reading.{directory_listing}
use Rattle.operations.specs.Promises.{Fills}
use Rattle.call_read.specs.Filled.{shown_to}
use Rattle.call_read.proofs.copy_listed.Given as goal

abbrev pub invariant-loop-k : goal.invariant-loop-k
invariant-loop-k l = (l.k ≤ l.entries) × (l.n ≤ l.k) × (length l.out ≡ length l.initial.out)
    × Fills (directory_listing l.l (card_of l.w) (shown_to l.l (card_of l.w) l.k) (length l.initial.out)) l.initial.out l.out l.n

abbrev pub decreases-loop-k : goal.decreases-loop-k
decreases-loop-k l = l.entries - l.k
