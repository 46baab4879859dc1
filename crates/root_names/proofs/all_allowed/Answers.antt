use Rattle.std.proofs.Common.{not, sym, ap, ◌∙◌, arith}
use Rattle.model.specs.LongName.{forbidden, all_allowed}
use Rattle.model.proofs.Scan.{sofar_cut, all_of, all_not}
use Rattle.root_names.proofs.all_allowed.Goals as goal

pub returns-then-is_forbidden : goal.returns-then-is_forbidden
unfolding all_allowed
returns-then-is_forbidden c =
    let is = ap forbidden (sym c.character.ensures.0) ∙ sym c.is_forbidden.ensures ∙ c.if-is_forbidden.true in
    sym (all_not _ 0 _ c.loop-q.q (omega arith) (omega arith) (ap not is))

pub returns : goal.returns
unfolding all_allowed
returns c = sym (all_of _ 0 _ (sofar_cut _ _ _ _ _ c.loop-q.invariant (omega arith)))
