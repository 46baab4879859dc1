use Rattle.std.proofs.Common.{◌≡◌, arith}
use Rattle.model.proofs.Calendar.{counts_on, counts_here, counts_end}
use Rattle.clock.proofs.count_off.Goals as goal

pub returns-then-left-n : goal.returns-then-left-n
returns-then-left-n g c =
    λ long is. counts_here (c.loop-unit.invariant long is) (omega arith) (is _ _ (omega arith) c.length-n.ensures) c.if-left-n.true

pub loop-unit-preserved : goal.loop-unit-preserved
loop-unit-preserved g c =
    λ long is. counts_on (c.loop-unit.invariant long is) (omega arith) (is _ _ (omega arith) c.length-n.ensures) c.if-left-n.false

pub returns : goal.returns
returns g c =
    λ long is.
    let z : c.loop-unit.unit ≡ c.args.end = omega arith in
    rw z at (counts_end (c.loop-unit.invariant long is) (omega arith))
