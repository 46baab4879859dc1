use mathlib.Core.Path.{sym, ap, ◌∙◌}
use mathlib.Core.Bool.{not}
use native.Mathlib.Omega.{arith}
use lib.Dec.{eqb}
use Rattle.model.proofs.Scan.{first_is, first_none, sofar_more, sofar_cut}
use Rattle.fat_read.proofs.find_other.Goals as goal

pub returns-then-not-is_reserved : goal.returns-then-not-is_reserved
returns-then-not-is_reserved c =
    let o = c.loop-i in (
      sym (first_is _ _ _ o.i (omega arith) (omega arith) o.invariant
          (ap (λ v. not (eqb v 0xFFF6)) (sym c.entry_at.ensures.0) ∙ ap not (sym c.is_reserved.ensures ∙ c.if-not-is_reserved.true))),
      omega arith,
      omega arith,
    )

pub loop-i-preserved : goal.loop-i-preserved
loop-i-preserved c =
    sofar_more _ _ _ _ c.loop-i.invariant
    (ap (λ v. not (eqb v 0xFFF6)) (sym c.entry_at.ensures.0) ∙ ap not (sym c.is_reserved.ensures ∙ c.if-not-is_reserved.false))

pub returns : goal.returns
returns c = (sym (first_none _ _ _ (sofar_cut _ _ _ _ _ c.loop-i.invariant (omega arith))), omega arith, omega arith)
