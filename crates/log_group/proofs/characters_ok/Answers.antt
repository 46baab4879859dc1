use native.Mathlib.Omega.{arith}
use Rattle.std.proofs.lemmas.Grind.{common_steps}
use Rattle.model.specs.Sector.{card_of}
use Rattle.model.specs.Bytes.{bytes_of}
use Rattle.model.specs.Record.{change_of}
use Rattle.model.specs.Pending.{characters_ok}
use Rattle.log_group.proofs.Laws.{text_few, judged}
use Rattle.log_group.proofs.characters_ok.Goals as goal

pub long_slots-requires : goal.long_slots-requires
long_slots-requires c = omega (arith, text_few (card_of c.args.log.now c.args.s))

pub all_allowed-requires : goal.all_allowed-requires
all_allowed-requires c = omega (arith, text_few (card_of c.args.log.now c.args.s), c.characters.ensures.long)

pub returns-then-long_slots-fills : goal.returns-then-long_slots-fills
unfolding characters_ok change_of
returns-then-long_slots-fills c =
    let a = c.args in
    let e = judged (card_of a.log.now a.s) (bytes_of c.characters.result.now) a.n c.characters.ensures.led c.requires.1 in
    grind (arith, common_steps, e)

pub returns-else-long_slots-fills : goal.returns-else-long_slots-fills
unfolding characters_ok change_of
returns-else-long_slots-fills c = grind (arith, common_steps)
