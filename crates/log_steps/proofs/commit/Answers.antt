use mathlib.Core.Path.{ap, ◌∙◌}
use Rattle.model.specs.Bytes.{Bytes, bytes_of}
use Rattle.model.specs.Sector.{Store, card_of}
use Rattle.model.specs.Record.{committed}
use Rattle.model.proofs.Cards.{clip_same}
use Rattle.model.proofs.Pieces.{loaded_at, committed_agree}
use Rattle.log_steps.proofs.commit.Goals as goal

pub returns : goal.returns
returns c =
    let a = c.args in
    let buf = bytes_of c.load-buf.result in
    let same = clip_same (bytes_of c.mark.new.buf) (committed a.n (card_of a.w.now a.s))
    (λ j h. c.mark.ensures j ∙ committed_agree a.n buf (card_of a.w.now a.s) (loaded_at a.w.now a.s buf c.load-buf.ensures) j h) in
    rw (ap {B = Store} (λ (b : Bytes). record { sector = a.s; bytes = b }) same) at c.store_sector.ensures
