use mathlib.Core.Path.{sym, ap, ◌∙◌}
use Rattle.model.specs.Boot.{fields_ok, arrange}
use Rattle.boot.specs.Booted.{sized}
use Rattle.formatting.specs.Fresh.{with_fats, fewest}
use Rattle.formatting.proofs.Form.{fewest_low, fewest_high}
use Rattle.call_format.proofs.Laws.{unplain, unlogged, judged, fresh_plain, narrow_with, factor_of}
use Rattle.call_format.proofs.formed.Goals.{then-not-is_plain-via-then-not-is_plain, then-not-is_plain-via-else-not-is_plain+then-not-is_log}
use Rattle.call_format.proofs.formed.Goals as goal

pub is_log-requires : goal.is_log-requires
is_log-requires c = let a = c.args in factor_of a.total a.factor (sym (ap fields_ok c.with_fats.ensures) ∙ sym c.if-not-is_plain.ensures)

pub returns-then-not-is_plain : goal.returns-then-not-is_plain
returns-then-not-is_plain c =
    let a = c.args in
    elim c.then-not-is_plain.branch [
      | then-not-is_plain-via-then-not-is_plain w ↦
          unplain a.total a.factor a.n (sym (ap fields_ok c.with_fats.ensures) ∙ sym c.is_plain.ensures ∙ w.if-not-is_plain.true)
      | then-not-is_plain-via-else-not-is_plain+then-not-is_log w ↦ unlogged a.total a.factor a.n (sym w.is_log.ensures ∙ w.if-not-is_log.true)
    ]

pub arranged-requires : goal.arranged-requires
arranged-requires c =
    let a = c.args in
    rw (c.with_fats-2.ensures, c.fewest.ensures) (
      narrow_with a.total a.factor (fewest a.total a.factor) (fewest_low a.total a.factor) (fewest_high a.total a.factor),
      fresh_plain a.total a.factor a.n ∙ (sym (ap fields_ok c.with_fats.ensures) ∙ sym c.if-not-is_plain.ensures),
    )

pub returns : goal.returns
returns c =
    let a = c.args in
    c.arranged.ensures.0 ∙ ap (λ f. sized (arrange f)) (c.with_fats-2.ensures ∙ ap (with_fats a.total a.factor) c.fewest.ensures)
    ∙ judged a.total a.factor a.n (sym (ap fields_ok c.with_fats.ensures) ∙ sym c.if-not-is_plain.ensures) (sym c.if-not-is_log.ensures)
