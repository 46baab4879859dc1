use native.Mathlib.Omega.{arith}
use Rattle.model.specs.Sector.{card_of}
use Rattle.file_read.proofs.Laws.{read_none}
use Rattle.file_read.proofs.read_file.Goals as goal

pub returns-then-from-offset : goal.returns-then-from-offset
returns-then-from-offset c =
    let a = c.args in
    read_none a.l (card_of a.w.now) a.f a.offset _ a.buffer.now (omega arith)
