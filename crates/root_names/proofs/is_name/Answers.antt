use Rattle.std.proofs.Common.{ap, arith}
use Rattle.std.proofs.lemmas.Grind.{common_steps}
use Rattle.model.specs.Bytes.{bytes_of}
use Rattle.model.specs.Scan.{every}
use Rattle.model.specs.Root.{padded, name_ok}
use Rattle.model.proofs.Sectors.{part_zero}
use Rattle.root_names.proofs.is_name.Goals as goal

pub returns-then-is_padded-2 : goal.returns-then-is_padded-2
unfolding name_ok every
returns-then-is_padded-2 c =
    let whole = ap (padded 8) (part_zero (bytes_of c.args.s.now)) in
    grind (arith, common_steps, whole)

pub returns-else-is_padded-2 : goal.returns-else-is_padded-2
unfolding name_ok every
returns-else-is_padded-2 c =
    let whole = ap (padded 8) (part_zero (bytes_of c.args.s.now)) in
    grind (arith, common_steps, whole)
