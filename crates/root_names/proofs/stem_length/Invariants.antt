use Rattle.std.proofs.Common.{◌+◌, false, not, get_or}
use Rattle.model.specs.Root.{name_byte}
use Rattle.model.proofs.Scan.{Sofar}
use Rattle.root_names.proofs.stem_length.Given as goal

abbrev pub invariant-loop-i : goal.invariant-loop-i
invariant-loop-i l = Sofar (λ m. not (name_byte (get_or l.s (l.at + m) 0))) false 0 l.i
