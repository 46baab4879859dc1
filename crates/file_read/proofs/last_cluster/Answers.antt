use Prim.Native.Nat.{◌<◌}
use native.Mathlib.Omega.{arith}
use Rattle.model.specs.Sector.{card_of}
use Rattle.model.specs.Fat.{entry, fat1_of}
use Rattle.model.specs.Chain.{needed}
use Rattle.model.proofs.Needed.{needed_some}
use Rattle.fat_chain.proofs.Links.{links_none}
use Rattle.file_read.proofs.Laws.{link_inside}
use Rattle.file_read.proofs.last_cluster.Goals as goal

pub follow-requires : goal.follow-requires
follow-requires c =
    let pre = c.requires in
    let a = c.args in
    let e = entry (fat1_of a.l (card_of a.w.now)) in
    let z : 0 < needed a.l a.f.size = omega (arith, needed_some a.l pre.0.fits.shape.factor_low a.f.size (omega arith)) in
    (pre.0, omega (arith, link_inside a.l pre.0.fits e a.f.first a.f.size pre.1 0 z, links_none e a.f.first, pre.0))
