use Prim.Native.Nat.{◌+◌}
use Rattle.model.specs.Bytes.{bytes_of}
use Rattle.model.specs.LongName.{spelled}
use Rattle.root_spell.proofs.Laws.{fill_more, fill_none}
use Rattle.root_spell.proofs.fill.Goals as goal

pub loop-k-init : goal.loop-k-init
loop-k-init c = let a = c.args in fill_none (λ i. spelled (bytes_of a.t.now) a.n (a.q + i)) (bytes_of a.b)

pub loop-k-preserved : goal.loop-k-preserved
loop-k-preserved c = let a = c.args in cc (fill_more (λ i. spelled (bytes_of a.t.now) a.n (a.q + i)) (bytes_of a.b) c.loop-k.k)
