use Rattle.lfat.proofs.Laws.{called}
use Rattle.lfat.proofs.lfat_format.Goals as goal

pub returns : goal.returns
returns c = let format = c.format in called c.number_of.ensures format.ensures.answer format.ensures.card
