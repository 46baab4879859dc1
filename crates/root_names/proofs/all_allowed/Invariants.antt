use Rattle.std.proofs.Common.{true, not}
use Rattle.model.specs.Bytes.{bytes_of}
use Rattle.model.specs.LongName.{character, forbidden}
use Rattle.model.proofs.Scan.{Sofar}
use Rattle.root_names.proofs.all_allowed.Given as goal

abbrev pub invariant-loop-q : goal.invariant-loop-q
invariant-loop-q l = Sofar (λ m. not (forbidden (character (bytes_of l.t) m))) true 0 l.q
