use Rattle.model.specs.Bytes.{bytes_of, part}
use Rattle.listing_text.specs.Wrote.{Put, shown}
use Rattle.listing_text.proofs.Text.shown.Given as goal

abbrev pub invariant-loop-b : goal.invariant-loop-b
invariant-loop-b l = Put (shown l.b-index (part (bytes_of l.s) l.from)) l.initial.self l.self
