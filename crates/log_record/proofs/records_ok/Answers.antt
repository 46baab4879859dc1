use mathlib.Core.Path.{sym, ◌∙◌}
use mathlib.Core.Bool.{true}
use native.Mathlib.Omega.{arith}
use Rattle.std.proofs.lemmas.Grind.{common_steps}
use Rattle.model.specs.Pending.{records_ok}
use Rattle.model.proofs.Tests.{every_not, each_every, ◌also◌}
use Rattle.model.proofs.Scan.{all_not, all_of, sofar_more}
use Rattle.log_record.proofs.records_ok.Goals as goal

pub returns-then-not-part_ok : goal.returns-then-not-part_ok
unfolding records_ok
returns-then-not-part_ok c =
    sym (every_not _ 1 (all_not _ _ _ c.loop-k.k (omega arith) (omega (arith, c.requires.counted)) (sym c.part_ok.ensures ∙ c.if-not-part_ok.true)))

pub loop-k-preserved : goal.loop-k-preserved
loop-k-preserved c = sofar_more _ true 1 c.loop-k.k c.loop-k.invariant (sym c.part_ok.ensures ∙ c.if-not-part_ok.false)

pub returns : goal.returns
unfolding records_ok
returns c =
    sym (each_every _ (grind (arith, common_steps)
    also all_of _ _ _ (λ k low less. c.loop-k.invariant k low (omega (arith, c.requires.counted))) also tt))
