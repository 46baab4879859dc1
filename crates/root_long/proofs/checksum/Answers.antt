use native.Mathlib.Omega.{arith}
use mathlib.Core.Path.{◌∙◌}
use Rattle.model.specs.Bytes.{bytes_of, part}
use Rattle.model.specs.Sector.{card_of}
use Rattle.model.specs.Root.{slot_at}
use Rattle.model.proofs.ReadBack.{sum_local}
use Rattle.root_read.proofs.Laws.{slot_byte}
use Rattle.root_long.proofs.checksum.Goals as goal

pub returns : goal.returns
returns c =
    let a = c.args in
    let start = c.slot_start in
    c.checksum.ensures ∙ sum_local 11 (part (bytes_of a.w.now) start.result) (slot_at a.l (card_of a.w.now) a.k)
    (λ j less. slot_byte a.l a.w.now a.k start.result j start.ensures.0 (omega arith))
