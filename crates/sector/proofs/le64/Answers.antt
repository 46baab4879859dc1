use Rattle.sector.proofs.Stored.{number_eight}
use Rattle.sector.proofs.le64.Goals as goal

pub returns : goal.returns
returns c = rw (c.from.ensures, c.from-2.ensures) (number_eight _ _ _ _ c.le.ensures c.le-2.ensures)
