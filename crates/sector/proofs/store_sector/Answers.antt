use mathlib.Core.Path.{◌≡◌}
use Prim.Native.Nat.{◌+◌, ◌*◌, ◌-◌}
use native.Mathlib.Omega.{arith}
use Rattle.model.specs.Bytes.{bytes_of}
use Rattle.sector.proofs.Stored.{spent_lent}
use Rattle.sector.proofs.store_sector.Goals as goal

pub returns : goal.returns
returns c =
    let a = c.args in
    let k : 512 * a.s + 512 - 512 * a.s ≡ 512 = omega arith in
    rw k (spent_lent a.w.now c.overwrite.new.part a.s (omega arith) (omega arith) a.limit.now _ (bytes_of a.bytes.now) _
    (rw k at c.overwrite.ensures))
