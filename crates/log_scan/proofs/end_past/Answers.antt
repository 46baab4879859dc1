use mathlib.Core.Path.{sym, ◌∙◌}
use native.Mathlib.Omega.{arith}
use Rattle.model.specs.Sector.{card_of}
use Rattle.model.specs.Root.{first_bytes, end_slot}
use Rattle.model.specs.Pending.{end_past}
use Rattle.model.proofs.Order.{seen_before, seen_up}
use Rattle.model.proofs.Scan.{none_below, first_is}
use Rattle.log_scan.proofs.end_past.Goals as goal

pub loop-k-init : goal.loop-k-init
loop-k-init c =
    let a = c.args in
    λ m lo less. seen_before a.o a.l.entries (first_bytes a.l (card_of a.w.now)) m
    (let up = seen_up a.o a.l.entries (first_bytes a.l (card_of a.w.now)) in omega arith)

pub returns-then-is_open : goal.returns-then-is_open
unfolding end_past end_slot
returns-then-is_open c = sym (first_is _ 0 _ _ (omega arith) (omega arith) c.loop-k.invariant (sym c.is_open.ensures ∙ c.if-is_open.true))

pub returns : goal.returns
unfolding end_past end_slot
returns c = sym (none_below _ _ _ c.loop-k.invariant (omega arith))
