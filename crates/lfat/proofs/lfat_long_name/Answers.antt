use Rattle.lfat.proofs.Laws.{answered}
use Rattle.lfat.proofs.lfat_long_name.Goals as goal

pub returns : goal.returns
returns c = let name = c.long_name in answered c.number_of.ensures name.ensures.answer name.ensures.bytes
