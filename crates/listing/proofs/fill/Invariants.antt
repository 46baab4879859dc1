use Rattle.model.specs.Bytes.{view}
use Rattle.listing.proofs.Fills.{Upto}
use Rattle.listing.proofs.fill.Given as goal

abbrev pub invariant-loop-i : goal.invariant-loop-i
invariant-loop-i l = Upto (view l.table) l.from l.initial.text l.text l.i
