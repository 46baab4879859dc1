use Prim.Native.Nat.{◌*◌, ◌/◌, ◌%◌}
use Rattle.model.specs.Sector.{card_of}
use Rattle.model.specs.Root.{root_place, slot_at, entry_at, file_at}
use Rattle.model.proofs.Sectors.{le_part}
use Rattle.root_read.proofs.file_at.Goals as goal

pub returns : goal.returns
unfolding file_at entry_at slot_at
returns c =
    let a = c.args in
    let place = c.root_place-s.ensures.0 in
    let b = card_of a.w.now (root_place a.l (a.k / 16)) in
    let j = 32 * (a.k % 16) in
    rw (
      le_part 2 b j 26,
      le_part 4 b j 28,
      rw place at c.name_at.ensures,
      rw place at c.byte.ensures.0,
      rw place at c.le.ensures.is,
      rw place at c.le-2.ensures.is,
    )
