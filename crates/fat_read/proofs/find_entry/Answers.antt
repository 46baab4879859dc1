use mathlib.Core.Path.{sym, ◌∙◌}
use native.Mathlib.Omega.{arith}
use borrow.Author.Tests.{eq-eqb, ne_eqb}
use Rattle.model.proofs.Scan.{first_is, first_none, sofar_more, sofar_cut}
use Rattle.model.proofs.Searches.{sofar_over}
use borrow.Author.Rules.{rules}
use Rattle.fat_read.proofs.find_entry.Goals as goal

pub loop-i-preserved-then-is_bare : goal.loop-i-preserved-then-is_bare
loop-i-preserved-then-is_bare c =
    let turn = c.loop-i in
    let b = c.is_bare.ensures c.if-is_bare.true in (omega arith, omega (arith, b.0), sofar_over _ _ _ _ turn.invariant.2 b.1)

pub returns-then-entry_at-v : goal.returns-then-entry_at-v
returns-then-entry_at-v c =
    let turn = c.loop-i in (
      sym (first_is _ _ _ turn.i (omega arith) (omega arith) turn.invariant.2 (eq-eqb _ _ (sym c.entry_at.ensures.0 ∙ c.if-entry_at-v.true))),
      search rules,
      search rules,
    )

pub loop-i-preserved : goal.loop-i-preserved
loop-i-preserved c =
    let turn = c.loop-i in
    (search rules, search rules, sofar_more _ _ _ _ turn.invariant.2 (ne_eqb _ _ (λ e. c.if-entry_at-v.false (c.entry_at.ensures.0 ∙ e))))

pub returns : goal.returns
returns c = (sym (first_none _ _ _ (sofar_cut _ _ _ _ _ c.loop-i.invariant.2 (omega arith))), search rules, search rules)
