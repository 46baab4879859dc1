use Rattle.lfat.proofs.Laws.{called}
use Rattle.lfat.proofs.lfat_rename.Goals as goal

pub returns : goal.returns
returns c = let rename = c.rename in called c.number_of.ensures rename.ensures.answer rename.ensures.card
