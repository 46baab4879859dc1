use mathlib.Core.Path.{refl}
use Rattle.call_format.proofs.Laws.{spent_same}
use Rattle.call_format.proofs.store_fat.Goals as goal

pub returns : goal.returns
returns c = spent_same refl c.fill_fat.ensures c.store_sector.ensures
