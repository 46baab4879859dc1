use Rattle.lfat.proofs.Laws.{answered}
use Rattle.lfat.proofs.lfat_read.Goals as goal

pub returns : goal.returns
returns c = let read = c.read in answered c.number_of.ensures read.ensures.answer read.ensures.bytes
