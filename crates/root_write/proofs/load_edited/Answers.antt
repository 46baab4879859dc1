use native.Mathlib.Omega.{arith}
use Rattle.model.specs.Bytes.{bytes_of}
use Rattle.model.specs.Sector.{card_of}
use Rattle.model.specs.Root.{slot_at}
use Rattle.model.specs.Record.{with_text}
use Rattle.operations.specs.Finish.{effect}
use Rattle.root_write.proofs.Laws.{laid_more}
use Rattle.root_write.proofs.load_edited.Goals as goal

pub loop-i-init : goal.loop-i-init
loop-i-init c = λ j h. absurd (omega arith)

pub loop-i-preserved : goal.loop-i-preserved
loop-i-preserved c =
    let a = c.args in
    let t = c.loop-i in
    laid_more (effect (with_text a.o (bytes_of a.text.now)) (slot_at a.l (card_of a.w.now))) a.r t.i (bytes_of t.buf) (bytes_of c.slot_after.result)
    (bytes_of c.lay.new.buf) t.invariant c.slot_after.ensures c.lay.ensures

pub returns : goal.returns
returns c = λ j h. c.loop-i.invariant j (omega arith)
