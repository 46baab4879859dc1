use Rattle.lfat.proofs.Laws.{called}
use Rattle.lfat.proofs.lfat_truncate.Goals as goal

pub returns : goal.returns
returns c = let truncate = c.truncate in called c.number_of.ensures truncate.ensures.answer truncate.ensures.card
