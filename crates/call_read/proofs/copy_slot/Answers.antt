use mathlib.Core.Path.{◌∙◌}
use Rattle.model.specs.Bytes.{bytes_of, part}
use Rattle.model.specs.Sector.{card_of}
use Rattle.model.specs.Root.{slot_at}
use Rattle.model.proofs.Laying.{overlay_same}
use Rattle.root_read.proofs.Laws.{slot_byte}
use Rattle.call_read.proofs.copy_slot.Goals as goal

pub returns : goal.returns
returns c =
    let a = c.args in
    let start = c.slot_start in
    let w = a.w.now in
    λ i. c.copy.ensures i
    ∙ overlay_same 32 (part (bytes_of w) start.result) (slot_at a.l (card_of w) a.k) a.at (bytes_of a.out.now)
    (λ m h. slot_byte a.l w a.k start.result m start.ensures.0 h) i
