use Rattle.lfat.proofs.Laws.{called}
use Rattle.lfat.proofs.lfat_create_long.Goals as goal

pub returns : goal.returns
returns c = let create = c.create_long in called c.number_of.ensures create.ensures.answer create.ensures.card
