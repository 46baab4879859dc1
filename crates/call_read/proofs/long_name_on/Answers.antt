use mathlib.Core.Path.{sym}
use Rattle.call_read.proofs.Laws.{long_nameless, long_absent, long_found}
use Rattle.call_read.proofs.Gave.{gave_refused, gave_filled}
use Rattle.call_read.proofs.long_name_on.Goals as goal

pub returns-then-not-is_name : goal.returns-then-not-is_name
returns-then-not-is_name c = gave_refused _ _ (sym (long_nameless c.args.v _ _ _ (sym c.if-not-is_name.ensures)))

pub returns-then-l-s : goal.returns-then-l-s
returns-then-l-s c =
    gave_refused _ _ (sym (long_absent c.args.v _ _ _ _ (sym c.if-not-is_name.ensures) c.slot_of-s.ensures.0 c.if-l-s.true))

pub returns : goal.returns
returns c =
    gave_filled _ (sym (long_found c.args.v _ _ _ _ (sym c.if-not-is_name.ensures) c.slot_of-s.ensures.0 c.if-l-s.false)) c.copy_name.ensures
