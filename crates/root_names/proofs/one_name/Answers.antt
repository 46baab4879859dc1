use Rattle.model.proofs.Long.{own_tested}
use Rattle.root_names.proofs.one_name.Goals as goal

pub returns : goal.returns
returns c = λ q. own_tested q c.args.slot c.args.count
