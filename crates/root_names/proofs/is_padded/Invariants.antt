use Rattle.std.proofs.Common.{◌+◌, ◌≤◌, true, ◌||◌, eqb, ltb, get_or}
use Rattle.model.specs.Bytes.{bytes_of, part}
use Rattle.model.specs.Root.{stem_length}
use Rattle.model.proofs.Scan.{Sofar}
use Rattle.root_names.proofs.is_padded.Given as goal

abbrev pub invariant-loop-i : goal.invariant-loop-i
invariant-loop-i l =
    (stem_length l.n (part (bytes_of l.s) l.at) ≤ l.i) × Sofar (λ m. ltb m (stem_length l.n (part (bytes_of l.s) l.at)) || eqb (get_or l.s
    (l.at + m) 0) 32) true 0 l.i
