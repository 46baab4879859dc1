use Rattle.std.proofs.Common.{sym, ◌∙◌, arith, eq-eqb}
use Rattle.model.proofs.Scan.{sofar_cut}
use Rattle.model.proofs.Texts.{length_found, length_whole}
use Rattle.root_names.proofs.text_length.Goals as goal

pub returns-then-character-eq0 : goal.returns-then-character-eq0
returns-then-character-eq0 c =
    let a = c.args in
    let o = c.loop-q in (
      sym (length_found a.t.now (omega arith) (omega arith) o.q (omega arith) o.invariant.1
          (eq-eqb _ _ (sym c.character.ensures.0 ∙ c.if-character-eq0.true))),
      omega arith,
    )

pub returns : goal.returns
returns c =
    let a = c.args in
    let o = c.loop-q in
    (sym (length_whole a.t.now (omega arith) (omega arith) _ o.invariant.0 (sofar_cut _ _ _ _ _ o.invariant.1 (omega arith))), omega arith)
