use Rattle.std.proofs.Common.{add-zero}
use Rattle.model.specs.Sector.{card_of}
use Rattle.model.proofs.Sectors.{le_part}
use Rattle.root_names.proofs.name_at.Goals as goal

pub returns : goal.returns
returns c =
    let a = c.args in
    let b = card_of a.w.now a.s in
    rw (
      le_part 8 b a.j 0,
      le_part 3 b a.j 8,
      add-zero a.j,
      c.le64.ensures.is,
      c.le.ensures.is,
    )
