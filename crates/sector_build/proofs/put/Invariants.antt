use mathlib.Core.Path.{◌≡◌}
use Prim.Native.Nat.{ℕ, ◌/◌, ◌^◌}
use lib.ListN.{length, get_or}
use Rattle.model.specs.Bytes.{bytes_of, byte_of, overlay}
use Rattle.sector_build.proofs.put.Given as goal

abbrev pub invariant-loop-k : goal.invariant-loop-k
invariant-loop-k l = (length l.out ≡ length l.initial.out) × (l.rest ≡ l.v / 256 ^ l.k)
    × ((i : ℕ) → get_or l.out i 0 ≡ overlay l.k (byte_of l.v) l.at (bytes_of l.initial.out) i)
