use mathlib.Core.Path.{sym, ◌∙◌}
use native.Mathlib.Omega.{arith}
use Rattle.model.specs.Sector.{card_of}
use Rattle.log_scan.proofs.Laws.{blank_idle, place_none, place_found}
use Rattle.log_scan.proofs.scan.Goals as goal

pub loop-s-preserved-then-is_blank : goal.loop-s-preserved-then-is_blank
loop-s-preserved-then-is_blank c = blank_idle (card_of c.args.log.now) c.loop-s.s (sym c.is_blank.ensures ∙ c.if-is_blank.true) c.loop-s.invariant

pub returns-then-pends : goal.returns-then-pends
returns-then-pends c =
    sym (place_found _ _ _ _ (record {
      few = omega arith;
      within = omega arith;
      none = c.loop-r.invariant;
      here = sym c.pends.ensures ∙ c.if-pends.true;
    }))

pub returns-after-loop-s : goal.returns-after-loop-s
returns-after-loop-s c = sym (place_none _ _ (λ m low less. c.loop-s.invariant m low (omega arith)))
