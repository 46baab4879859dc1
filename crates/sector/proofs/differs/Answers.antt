use mathlib.Core.Path.{refl}
use Rattle.model.specs.Bytes.{bytes_of}
use Rattle.model.specs.Sector.{card_of}
use Rattle.model.specs.Fat.{same}
use Rattle.sector.proofs.Stored.{compared, clip_told}
use Rattle.sector.proofs.differs.Goals as goal

pub returns : goal.returns
unfolding same
returns c =
    let a = c.args in
    let s = c.bytes in
    let t = c.bytes-2 in
    compared (bytes_of s.result.now) (bytes_of t.result.now) (card_of a.w.now a.s) (card_of a.w.now a.t)
    (clip_told _ _ s.ensures.1) (clip_told _ _ t.ensures.1) 512 refl c.alike.result c.alike.ensures
