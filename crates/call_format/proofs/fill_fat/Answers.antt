use native.Mathlib.Omega.{arith}
use Rattle.call_format.proofs.Laws.{fat_more}
use Rattle.call_format.proofs.fill_fat.Goals as goal

pub loop-k-preserved : goal.loop-k-preserved
loop-k-preserved c =
    let turn = c.loop-k in (
      omega (arith, turn.invariant.0),
      fat_more c.args.n turn.k c.fresh_entry.result turn.buf c.put.new.out c.fresh_entry.ensures.0 c.put.ensures turn.invariant.1,
    )
