use Rattle.std.proofs.Common.{◌≡◌, ◌/◌, false, eqb, length}
use Rattle.model.specs.Bytes.{bytes_of}
use Rattle.model.specs.LongName.{character}
use Rattle.model.proofs.Scan.{Sofar}
use Rattle.root_names.proofs.text_length.Given as goal

abbrev pub invariant-loop-q : goal.invariant-loop-q
invariant-loop-q l = (l.n ≡ length l.t / 2) × Sofar (λ m. eqb (character (bytes_of l.t) m) 0) false 0 l.q
