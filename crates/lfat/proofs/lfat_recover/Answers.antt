use Rattle.lfat.proofs.Laws.{called}
use Rattle.lfat.proofs.lfat_recover.Goals as goal

pub returns : goal.returns
returns c = let recover = c.recover in called c.number_of.ensures recover.ensures.answer recover.ensures.card
