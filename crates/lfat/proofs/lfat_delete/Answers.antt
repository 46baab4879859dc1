use Rattle.lfat.proofs.Laws.{called}
use Rattle.lfat.proofs.lfat_delete.Goals as goal

pub returns : goal.returns
returns c = let delete = c.delete in called c.number_of.ensures delete.ensures.answer delete.ensures.card
