use mathlib.Core.Path.{sym, subst}
use mathlib.Core.List.{List}
use Rattle.model.specs.Bytes.{bytes_of}
use Rattle.model.specs.Record.{with_text}
use Rattle.model.specs.Sector.{Store, card_of}
use Rattle.model.specs.Promises.{Spent}
use Rattle.volume.proofs.Ready.{ready_none}
use Rattle.log_steps.proofs.Laws.{plain_is}
use Rattle.call_outcome.proofs.Ends.{did_spent}
use Rattle.call_create.proofs.record_change.Goals as goal

pub returns : goal.returns
returns c =
    let a = c.args in
    let steps = c.log_steps-stored in
    rw c.ended.ensures (did_spent _ (subst (λ (ss : List Store). Spent a.limit steps.new.limit ss a.w.now steps.new.w steps.result)
    (sym (plain_is a.v (card_of a.w.now) (with_text a.o (bytes_of a.text.now)) (ready_none a.v a.w.now c.requires.ready)))
    steps.ensures))
