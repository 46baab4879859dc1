use mathlib.Core.Path.{sym, ◌∙◌}
use native.Mathlib.Omega.{arith}
use Rattle.model.specs.Sector.{card_of}
use Rattle.model.specs.Log.{log_of}
use Rattle.model.specs.Pending.{first_pending}
use Rattle.log_scan.proofs.Laws.{placed}
use Rattle.log_scan.proofs.seen_end.Goals as goal

pub overflow_add-a : goal.overflow_add-a
overflow_add-a c =
    let a = c.args in
    let p = placed (first_pending a.a.sectors (log_of a.a (card_of a.w.now))) a.a.sectors _ (sym c.requires.area.1 ∙ c.in-Some.is) in
    omega (arith, p.within)
