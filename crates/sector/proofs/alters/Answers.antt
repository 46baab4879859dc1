use mathlib.Core.Path.{refl}
use Rattle.model.specs.Bytes.{bytes_of}
use Rattle.model.specs.Sector.{card_of}
use Rattle.model.specs.Fat.{same}
use Rattle.sector.proofs.Stored.{compared, clip_told}
use Rattle.sector.proofs.alters.Goals as goal

pub returns : goal.returns
unfolding same
returns c =
    let a = c.args in
    let s = c.bytes in
    compared (bytes_of a.buf.now) (bytes_of s.result.now) (bytes_of a.buf.now) (card_of a.w.now a.s)
    (λ j l. refl) (clip_told _ _ s.ensures.1) 512 refl c.alike.result c.alike.ensures
