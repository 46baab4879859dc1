use Rattle.model.specs.Bytes.{bytes_of}
use Rattle.model.specs.Sector.{card_of}
use Rattle.model.specs.Root.{slot_at}
use Rattle.model.specs.Record.{with_text}
use Rattle.operations.specs.Finish.{effect}
use Rattle.root_write.proofs.Laws.{Laid}
use Rattle.root_write.proofs.load_edited.Given as goal

abbrev pub invariant-loop-i : goal.invariant-loop-i
invariant-loop-i l = Laid (effect (with_text l.o (bytes_of l.text)) (slot_at l.l (card_of l.w))) l.r l.i (bytes_of l.buf)
