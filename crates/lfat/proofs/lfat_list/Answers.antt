use Rattle.lfat.proofs.Laws.{answered}
use Rattle.lfat.proofs.lfat_list.Goals as goal

pub returns : goal.returns
returns c = let list = c.list in answered c.number_of.ensures list.ensures.answer list.ensures.bytes
