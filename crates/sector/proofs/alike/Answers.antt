use mathlib.Core.Path.{◌≡◌, ap, ◌∙◌}
use native.Mathlib.Omega.{arith}
use Rattle.model.specs.Bytes.{bytes_of}
use Rattle.model.specs.Scan.{all_from}
use Rattle.model.specs.Fat.{same}
use Rattle.sector.proofs.Stored.{all_none, all_more, equal}
use borrow.Author.Rules.{rules}
use Rattle.sector.proofs.alike.Goals as goal

pub loop-j-init : goal.loop-j-init
loop-j-init c = (search rules, all_none _)

pub loop-j-preserved : goal.loop-j-preserved
loop-j-preserved c =
    let turn = c.loop-j in
    (search rules, all_more (equal (bytes_of c.args.a.now) (bytes_of c.args.b.now)) turn.j turn.alike turn.invariant.1)

pub returns : goal.returns
unfolding same
returns c =
    let turn = c.loop-j in
    let e : turn.j ≡ 512 = omega arith in
    turn.invariant.1 ∙ ap (all_from (equal (bytes_of c.args.a.now) (bytes_of c.args.b.now)) 0) e
