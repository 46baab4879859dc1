use native.Mathlib.Omega.{arith}
use mathlib.Core.Path.{◌∙◌, sym, ap}
use Rattle.model.specs.Boot.{arrange, fat_holds}
use Rattle.call_format.proofs.Laws.{plain_with, narrow_with, fewest_here, fewest_past}
use Rattle.call_format.proofs.fewest.Goals as goal

pub fat_holds-requires : goal.fat_holds-requires
fat_holds-requires c =
    let a = c.args in
    let turn = c.loop-n in
    rw c.with_fats.ensures
    (narrow_with a.total a.factor turn.n (omega arith) (omega arith), plain_with a.total a.factor turn.n (omega arith) ∙ c.requires)

pub returns-then-fat_holds : goal.returns-then-fat_holds
returns-then-fat_holds c =
    let a = c.args in
    let turn = c.loop-n in
    fewest_here a.total a.factor turn.n turn.invariant (omega arith) (omega arith)
    (sym (ap (λ f. fat_holds (arrange f)) c.with_fats.ensures) ∙ sym c.fat_holds.ensures ∙ c.if-fat_holds.true)

pub returns : goal.returns
returns c = let a = c.args in fewest_past a.total a.factor c.loop-n.n c.loop-n.invariant (omega arith)
