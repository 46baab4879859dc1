use mathlib.Core.Path.{sym, ap, ◌∙◌}
use Rattle.model.specs.Bytes.{bytes_of}
use Rattle.model.specs.Sector.{card_of}
use Rattle.model.proofs.Lists.{all_zero}
use Rattle.log_group.proofs.Laws.{text_none}
use Rattle.log_group.proofs.text_at.Goals as goal

pub returns-else-leads : goal.returns-else-leads
returns-else-leads c =
    ap bytes_of (c.fill.ensures.after (λ y e. e)) ∙ all_zero _ ∙ sym (text_none (card_of c.args.w.now c.args.s) (sym c.leads.ensures ∙ c.if-leads.false))
