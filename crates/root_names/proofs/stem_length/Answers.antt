use Rattle.std.proofs.Common.{not, sym, ap, ◌∙◌, arith}
use Rattle.model.specs.Root.{stem_length}
use Rattle.model.proofs.Scan.{none_below, first_is}
use Rattle.root_names.proofs.stem_length.Goals as goal

pub returns-then-not-name_byte : goal.returns-then-not-name_byte
unfolding stem_length
returns-then-not-name_byte c = (
  sym (first_is _ 0 _ _ (omega arith) (omega arith) c.loop-i.invariant
      (ap not (sym c.name_byte.ensures) ∙ c.if-not-name_byte.true-raw)),
  omega arith,
)

pub returns : goal.returns
unfolding stem_length
returns c = (sym (none_below _ _ _ c.loop-i.invariant (omega arith)), omega arith)
