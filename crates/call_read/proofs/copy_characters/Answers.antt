use mathlib.Core.Path.{◌≡◌, sym}
use Prim.Native.Nat.{◌+◌, ◌*◌, ◌/◌, min}
use native.Mathlib.Omega.{arith}
use lib.ListN.{length}
use Rattle.model.specs.Bytes.{bytes_of}
use Rattle.model.specs.Sector.{card_of}
use Rattle.model.specs.Root.{slot_at}
use Rattle.model.specs.LongName.{long_byte}
use Rattle.model.proofs.Overlays.{overlay_none, overlay_more}
use Rattle.call_read.proofs.copy_characters.Goals as goal

pub loop-i-init : goal.loop-i-init
loop-i-init c =
    let a = c.args in λ j. sym (overlay_none (long_byte (slot_at a.l (card_of a.w.now)) a.s) 0 (bytes_of a.out.now) j)

pub loop-i-preserved : goal.loop-i-preserved
loop-i-preserved c =
    let turn = c.loop-i in
    let a = c.args in
    let z : 0 + turn.i ≡ turn.i = omega arith in
    λ j. rw z at (overlay_more (long_byte (slot_at a.l (card_of a.w.now)) a.s) a.out.now turn.out 0 turn.i c.long_byte.result
    (omega arith) c.long_byte.ensures.0 turn.invariant j)

pub returns : goal.returns
returns c =
    let a = c.args in
    let e : c.loop-i.i ≡ 2 * min (length a.out.now / 2) a.n = omega arith in rw e at c.loop-i.invariant
