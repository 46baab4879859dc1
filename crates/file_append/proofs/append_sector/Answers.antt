use Prim.Native.Nat.{◌+◌, ◌-◌, ◌*◌}
use native.Mathlib.Omega.{arith}
use mathlib.Core.Path.{◌≡◌, refl}
use lib.ListN.{take, drop}
use Rattle.model.specs.Bytes.{bytes_of, view}
use Rattle.model.specs.Sector.{card_of}
use Rattle.file_append.proofs.Bytes.{filled}
use Rattle.file_append.proofs.Turns.{spent_append}
use Rattle.file_append.proofs.append_sector.Goals as goal

pub returns-then-is_filled : goal.returns-then-is_filled
returns-then-is_filled c =
    let a = c.args in
    let f = c.is_filled.ensures c.if-is_filled.true in
    let from = 512 * a.q - a.size in
    let k : from + 512 - from ≡ 512 = omega arith in
    let d = card_of a.w.now in
    spent_append d a.s a.size (view a.new.now) a.q (bytes_of (take 512 (drop from a.new.now)))
    (filled (d a.s) a.size a.new.now a.q from f.0 f.1 refl) (rw k at c.store_sector.ensures)

pub returns : goal.returns
returns c =
    let a = c.args in
    spent_append (card_of a.w.now) a.s a.size (view a.new.now) a.q (bytes_of c.build.new.buf) c.build.ensures c.store_sector-2.ensures
