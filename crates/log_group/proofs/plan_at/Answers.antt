use native.Mathlib.Omega.{arith}
use Rattle.std.proofs.lemmas.Grind.{common_steps}
use Rattle.model.specs.Sector.{card_of}
use Rattle.model.specs.Record.{group_size, records, group_records, group_in, change_of}
use Rattle.log_group.proofs.Laws.{text_fits}
use Rattle.log_group.proofs.plan_at.Goals as goal

pub group_records-requires : goal.group_records-requires
unfolding group_size
group_records-requires c =
    let a = c.args in
    rw (c.operation_at-operation.ensures, c.text_length.ensures) (text_fits (card_of a.w.now a.s))

pub returns : goal.returns
unfolding group_in change_of group_records records
returns c = grind (arith, common_steps)
