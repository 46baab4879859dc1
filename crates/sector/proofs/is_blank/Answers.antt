use mathlib.Core.Path.{◌≡◌, refl, ap, ◌∙◌}
use mathlib.Core.Bool.{Bool}
use Prim.Native.Nat.{ℕ, ◌+◌, ◌*◌}
use native.Mathlib.Omega.{arith}
use lib.Dec.{eqb}
use lib.ListN.{get_or}
use Rattle.model.specs.Scan.{all_from}
use Rattle.model.specs.Sector.{card_of}
use Rattle.model.proofs.Scan.{all_same}
use Rattle.sector.proofs.Stored.{in_sector, all_none, all_more}
use borrow.Author.Rules.{rules}
use Rattle.sector.proofs.is_blank.Goals as goal

pub loop-i-init : goal.loop-i-init
loop-i-init c = (search rules, all_none _)

pub loop-i-preserved : goal.loop-i-preserved
loop-i-preserved c =
    let turn = c.loop-i in
    let start : ℕ = 512 * c.args.s in
    let w = c.args.w.now in
    (search rules, all_more (λ m. eqb (get_or w (start + 32 * m) 0) 0) turn.i turn.blank turn.invariant.1)

pub returns : goal.returns
returns c =
    let turn = c.loop-i in
    let a = c.args in
    let w = a.w.now in
    let p : ℕ → Bool = λ m. eqb (get_or w (512 * a.s + 32 * m) 0) 0 in
    let e : turn.i ≡ 16 = omega arith in
    turn.invariant.1 ∙ ap (all_from p 0) e
    ∙ all_same p (λ m. eqb (card_of w a.s (32 * m)) 0) 0 16
    (λ m low less. ap (λ b. eqb b 0) (in_sector w a.s a.s refl (32 * m) (omega arith)))
