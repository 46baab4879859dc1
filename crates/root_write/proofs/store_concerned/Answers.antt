use mathlib.Core.Path.{sym, ◌∙◌}
use Rattle.model.specs.Bytes.{bytes_of}
use Rattle.model.specs.Sector.{card_of}
use Rattle.model.specs.Root.{root_place, slot_at}
use Rattle.model.specs.Record.{with_text}
use Rattle.model.proofs.Cards.{store_same}
use Rattle.model.proofs.Runs.{spent_none}
use Rattle.operations.specs.Finish.{effect, root_sector}
use Rattle.operations.proofs.Seats.{concerns_named}
use Rattle.root_write.proofs.store_concerned.Goals as goal

pub returns-then-not-concerns : goal.returns-then-not-concerns
returns-then-not-concerns c =
    let a = c.args in
    rw (concerns_named (with_text a.o (bytes_of a.text.now)) a.r ∙ sym c.concerns.ensures ∙ c.if-not-concerns.true) (spent_none _ _)

pub returns : goal.returns
returns c =
    let a = c.args in
    let e = c.load_edited in
    let x = with_text a.o (bytes_of a.text.now) in
    rw (
      concerns_named x a.r ∙ sym c.concerns.ensures ∙ c.if-not-concerns.false,
      ← store_same (root_place a.l a.r) (bytes_of e.new.buf)
          (root_sector (effect x (slot_at a.l (card_of a.w.now))) a.r) e.ensures,
    ) (rw c.root_place.ensures.0 at c.store_sector.ensures)
