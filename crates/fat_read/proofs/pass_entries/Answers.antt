use mathlib.Core.Path.{sym, ◌∙◌}
use native.Mathlib.Omega.{arith}
use borrow.Author.Tests.{eq-eqb, ne_eqb}
use Rattle.model.proofs.Nths.{seeks_hit, seeks_miss, seeks_here, seeks_end}
use Rattle.fat_read.proofs.pass_entries.Goals as goal
use Rattle.fat_read.proofs.pass_entries.Goals.{then-entry_at-v+else-left-eq1, else-entry_at-v}

pub returns-then-left-eq1 : goal.returns-then-left-eq1
returns-then-left-eq1 c =
    seeks_here c.loop-i.invariant c.loop-i-test.true c.if-left-eq1.true
    (eq-eqb _ _ (sym c.entry_at.ensures.0 ∙ c.if-entry_at-v.true))

pub loop-i-preserved : goal.loop-i-preserved
loop-i-preserved c =
    let o = c.loop-i in
    let less = c.loop-i-test.true in
    let e = c.entry_at.ensures.0 in
    elim c.if-entry_at-v.branch [
      | then-entry_at-v+else-left-eq1 u ↦ seeks_hit o.invariant less (omega (arith, o.invariant.some)) (omega (arith, o.invariant.some))
          (eq-eqb _ _ (sym e ∙ u.if-entry_at-v.true))
      | else-entry_at-v u ↦ seeks_miss o.invariant less u.left-is (ne_eqb _ _ (λ q. u.if-entry_at-v.false (e ∙ q)))
    ]

pub returns : goal.returns
returns c = seeks_end c.loop-i.invariant (omega arith)
