use mathlib.Core.Path.{◌≡◌, sym, ◌∙◌}
use Prim.Native.Nat.{◌+◌, ◌*◌, ◌-◌}
use native.Mathlib.Omega.{arith}
use Rattle.model.specs.Bytes.{bytes_of}
use Rattle.model.specs.Sector.{card_of}
use Rattle.model.proofs.Cards.{store_same}
use Rattle.model.proofs.Runs.{spent_none}
use Rattle.sector.proofs.Stored.{spent_lent}
use Rattle.fat_copy.proofs.Laws.{loaded, renewal_none, renewal_one}
use Rattle.fat_copy.proofs.copy_changed.Goals as goal

pub returns-then-not-differs : goal.returns-then-not-differs
returns-then-not-differs c = rw (renewal_none _ _ _ (sym c.differs.ensures ∙ c.if-not-differs.true)) (spent_none _ _)

pub returns : goal.returns
returns c =
    let load = c.load-buf in
    let a = c.args in
    let k : 512 * a.to + 512 - 512 * a.to ≡ 512 = omega arith in
    rw (
      k,
      renewal_one a.to (card_of a.w.now a.from) (card_of a.w.now a.to) (sym c.differs.ensures ∙ c.if-not-differs.false),
      ← store_same a.to (bytes_of load.result) (card_of a.w.now a.from) (loaded load.result a.w.now a.from load.ensures),
    )
    (spent_lent a.w.now c.overwrite.new.part a.to (omega arith) (omega arith) a.limit.now _ (bytes_of load.result) _ (rw k at c.overwrite.ensures))
