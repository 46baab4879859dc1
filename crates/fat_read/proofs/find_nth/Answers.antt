use mathlib.Core.Path.{◌∙◌}
use native.Mathlib.Omega.{arith}
use Rattle.model.proofs.Nths.{seeks_pass, seeks_within, seeks_end}
use Rattle.fat_read.proofs.find_nth.Goals as goal

pub returns-then-left-found : goal.returns-then-left-found
returns-then-left-found c =
    c.pass_entries.ensures
    ∙ seeks_within c.loop-i.invariant _ (omega (arith, c.sector_left-size.ensures))
    (omega (arith, c.count_entries-found.ensures.0))

pub loop-i-preserved : goal.loop-i-preserved
loop-i-preserved c =
    seeks_pass c.loop-i.invariant _ c.count_entries-found.ensures.0 (omega arith)
    (omega (arith, c.sector_left-size.ensures)) (omega arith) (omega arith)

pub returns : goal.returns
returns c = seeks_end c.loop-i.invariant (omega arith)
