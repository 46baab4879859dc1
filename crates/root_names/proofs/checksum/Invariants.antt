use Rattle.std.proofs.Common.{◌≡◌, ◌<◌}
use Rattle.model.specs.Bytes.{bytes_of, part}
use Rattle.model.specs.Long.{sum_of}
use Rattle.root_names.proofs.checksum.Given as goal

abbrev pub invariant-loop-i : goal.invariant-loop-i
invariant-loop-i l = (l.sum < 256) × (l.sum ≡ sum_of l.i (part (bytes_of l.s) l.at))
