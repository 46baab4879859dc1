use Rattle.sector.proofs.Stored.{mid_overlay}
use Rattle.sector.proofs.copy.Goals as goal

pub returns : goal.returns
returns c =
    let a = c.args in
    rw c.copy_from_slice.ensures.after (mid_overlay a.out.now a.src.now a.at a.from a.n c.requires.0 c.requires.1)
