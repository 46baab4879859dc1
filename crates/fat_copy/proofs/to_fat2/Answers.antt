use Rattle.model.specs.Sector.{card_of}
use Rattle.model.specs.Fat.{fat1_of, fat2_of}
use Rattle.model.proofs.Copies.{write_fat_turns}
use Rattle.fat_copy.specs.Change.{renewal}
use Rattle.fat_copy.proofs.to_fat2.Goals as goal

pub returns : goal.returns
unfolding renewal
returns c =
    let a = c.args in
    rw (write_fat_turns a.l a.l.fat2 (fat1_of a.l (card_of a.w.now)) (fat2_of a.l (card_of a.w.now)))
    c.copy_fat.ensures
