use Rattle.std.proofs.Common.{arith, ap, ◌∙◌}
use Rattle.std.proofs.lemmas.Grind.{common_steps}
use Rattle.model.specs.Bytes.{Bytes, bytes_of}
use Rattle.model.specs.Long.{checksum}
use Rattle.operations.specs.Finish.{name_slot}
use Rattle.model.proofs.Sectors.{part_zero}
use Rattle.root_spell.proofs.name_slot.Goals as goal

pub returns-then-k-e : goal.returns-then-k-e
unfolding name_slot
returns-then-k-e c = grind (arith, common_steps)

pub returns : goal.returns
unfolding name_slot
returns c =
    let own = c.new_entry-own in
    let sum = c.checksum.ensures ∙ ap (λ (b : Bytes). checksum b) (part_zero (bytes_of own.result) ∙ own.ensures) in
    grind (arith, common_steps, sum)
