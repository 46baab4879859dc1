use mathlib.Core.Path.{◌∙◌}
use Rattle.model.specs.Bytes.{bytes_of, part}
use Rattle.model.proofs.Overlays.{overlay_front}
use Rattle.root_read.proofs.Laws.{slot_byte}
use Rattle.root_write.proofs.load_slot.Goals as goal

pub returns : goal.returns
returns c =
    let a = c.args in
    let start = c.slot_start in
    λ j h. c.copy.ensures j ∙ overlay_front 32 (part (bytes_of a.w.now) start.result) _ j h
    ∙ slot_byte a.l a.w.now a.k start.result j start.ensures.0 h
