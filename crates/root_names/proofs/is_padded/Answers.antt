use Rattle.std.proofs.Common.{sym, arith, le-ltb, ne_eqb}
use Rattle.model.specs.Root.{padded}
use Rattle.model.proofs.Scan.{sofar_cut, all_of, all_not}
use Rattle.root_names.proofs.is_padded.Goals as goal

pub returns-then-s-at-ne32 : goal.returns-then-s-at-ne32
unfolding padded
returns-then-s-at-ne32 c =
    sym (all_not _ 0 _ c.loop-i.i (omega arith) (omega arith) (rw
    (le-ltb _ _ c.loop-i.invariant.0) (ne_eqb _ _ c.if-s-at-ne32.true)))

pub returns : goal.returns
unfolding padded
returns c = sym (all_of _ 0 _ (sofar_cut _ _ _ _ _ c.loop-i.invariant.1 (omega arith)))
