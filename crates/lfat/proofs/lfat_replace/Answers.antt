use Rattle.lfat.proofs.Laws.{called}
use Rattle.lfat.proofs.lfat_replace.Goals as goal

pub returns : goal.returns
returns c = let replace = c.replace in called c.number_of.ensures replace.ensures.answer replace.ensures.card
