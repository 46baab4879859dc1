use mathlib.Core.Path.{ap, ◌∙◌}
use mathlib.Core.List.{[]}
use native.Mathlib.Nat.{zero-add}
use native.Mathlib.Omega.{arith}
use Rattle.model.specs.Bytes.{bytes_of, part}
use Rattle.model.specs.Sector.{card_of, put, store}
use Rattle.model.proofs.Cards.{store_same}
use Rattle.model.proofs.Overlays.{overlay_front}
use Rattle.model.proofs.Runs.{spent_one, spent_zero}
use Rattle.sector.proofs.Stored.{lent_put}
use Rattle.sector.proofs.overwrite.Goals as goal

pub returns-then-limit-eq0 : goal.returns-then-limit-eq0
returns-then-limit-eq0 c = rw c.if-limit-eq0.true (spent_zero (store 0 (bytes_of c.args.bytes.now)) [] c.args.part.now _)

pub returns : goal.returns
returns c =
    let a = c.args in
    let copy = c.copy in
    spent_one (store 0 (bytes_of a.bytes.now)) a.part.now copy.new.out a.limit.now (omega arith)
    (lent_put a.part.now copy.new.out (omega arith) (omega arith)
    ∙ ap (put (card_of a.part.now))
    (store_same 0 (bytes_of copy.new.out) (bytes_of a.bytes.now)
    (λ j h. copy.ensures j ∙ overlay_front 512 (part (bytes_of a.bytes.now) 0) _ j h ∙ ap (bytes_of a.bytes.now) (zero-add j))))
