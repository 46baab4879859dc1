use Rattle.lfat.proofs.Laws.{called}
use Rattle.lfat.proofs.lfat_append.Goals as goal

pub returns : goal.returns
returns c = let append = c.append in called c.number_of.ensures append.ensures.answer append.ensures.card
