use Rattle.model.specs.LongName.{long_entry, name_entry}
use Rattle.model.proofs.Lists.{all_zero}
use Rattle.root_spell.proofs.name_entry.Goals as goal

pub returns : goal.returns
unfolding name_entry long_entry
returns c = cc (all_zero 32)
