use mathlib.Core.Path.{◌≡◌, sym, ◌∙◌}
use mathlib.Core.Bool.{false}
use Prim.Native.Nat.{ℕ, ◌+◌, ◌*◌, ◌-◌, ◌/◌}
use native.Mathlib.Omega.{arith}
use lib.ListN.{length}
use Rattle.model.specs.Sector.{card_of}
use Rattle.model.specs.Pending.{pending_at}
use Rattle.model.proofs.Scan.{sofar_cut, first_is, first_none}
use Rattle.log_scan.proofs.next_pending.Goals as goal

pub returns-then-pends : goal.returns-then-pends
returns-then-pends c = sym (first_is _ _ _ _ (omega arith) (omega arith) c.loop-k.invariant (sym c.pends.ensures ∙ c.if-pends.true))

pub returns : goal.returns
returns c =
    let a = c.args in
    let n : ℕ = 16 * (length a.log.now / 512) - a.from in
    let p = pending_at (card_of a.log.now) in
    let e : 16 * c.sectors_of-n.result ≡ a.from + n = omega arith in
    e ∙ sym (first_none p a.from n (sofar_cut p false a.from _ _ c.loop-k.invariant (omega arith)))
