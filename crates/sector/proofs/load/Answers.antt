use Rattle.model.proofs.Cards.{clip_same}
use Rattle.model.proofs.Overlays.{overlay_front}
use mathlib.Core.Path.{◌∙◌}
use Prim.Native.Nat.{◌+◌, ◌*◌}
use lib.ListN.{get_or}
use Rattle.model.specs.Bytes.{bytes_of, part}
use Rattle.sector.proofs.load.Goals as goal

pub returns : goal.returns
returns c =
    let w = c.args.w.now in
    clip_same _ (λ j. get_or w (512 * c.args.s + j) 0)
    (λ j h. c.copy.ensures j ∙ overlay_front 512 (part (bytes_of w) (512 * c.args.s)) _ j h)
