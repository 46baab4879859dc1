use Rattle.operations.specs.Finish.{new_entry}
use Rattle.model.proofs.Lists.{all_zero}
use Rattle.sector_build.proofs.new_entry.Goals as goal

pub returns : goal.returns
unfolding new_entry
returns c = cc (all_zero 32)
