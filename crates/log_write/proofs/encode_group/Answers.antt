use Prim.Native.Nat.{ℕ, ◌*◌}
use mathlib.Core.Path.{ap, ◌∙◌}
use lib.ListN.{length}
use Rattle.model.specs.Bytes.{bytes_of, overlay, part}
use Rattle.log_write.proofs.Laws.{text_laid}
use Rattle.log_write.proofs.encode_group.Goals as goal

pub returns : goal.returns
returns c =
    let a = c.args in
    let laid = bytes_of c.lay_records.new.buf in
    text_laid a.o a.text.now laid (bytes_of c.copy.new.out) c.lay_records.ensures
    (λ j. c.copy.ensures j
    ∙ ap (λ (m : ℕ). overlay (length a.text.now) (part (bytes_of a.text.now) 0) (32 * m) laid j) c.records_of.ensures.0)
