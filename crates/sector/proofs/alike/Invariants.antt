use mathlib.Core.Path.{◌≡◌}
use Prim.Native.Nat.{◌≤◌}
use Rattle.model.specs.Bytes.{bytes_of}
use Rattle.model.specs.Scan.{all_from}
use Rattle.sector.proofs.Stored.{equal}
use Rattle.sector.proofs.alike.Given as goal

abbrev pub invariant-loop-j : goal.invariant-loop-j
invariant-loop-j l = (l.j ≤ 512) × (l.alike ≡ all_from (equal (bytes_of l.a) (bytes_of l.b)) 0 l.j)
