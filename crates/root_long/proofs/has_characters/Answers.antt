use mathlib.Core.Path.{sym, ◌∙◌}
use native.Mathlib.Omega.{arith}
use borrow.Author.Tests.{ne_eqb}
use Rattle.model.proofs.Scan.{sofar_cut, all_of, all_not}
use Rattle.root_long.proofs.has_characters.Goals as goal

pub returns-then-character_at-character : goal.returns-then-character_at-character
returns-then-character_at-character c =
    let t = c.args.t.now in
    let own = c.character_at.ensures in
    let other = c.character.ensures.0 in
    sym (all_not _ 0 _ c.loop-q.q (omega arith) (omega arith) (ne_eqb _ _ (λ e. c.if-character_at-character.true (own ∙ e ∙ sym other))))

pub returns : goal.returns
returns c = sym (all_of _ 0 _ (sofar_cut _ _ _ _ _ c.loop-q.invariant (omega arith)))
