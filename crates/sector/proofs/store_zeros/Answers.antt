use Rattle.sector.proofs.Stored.{zeros_spent}
use Rattle.sector.proofs.store_zeros.Goals as goal

pub returns : goal.returns
returns c = zeros_spent _ _ _ _ _ _ c.store_sector.ensures
