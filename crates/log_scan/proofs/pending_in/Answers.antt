use Prim.Native.Nat.{◌+◌, ◌*◌}
use native.Mathlib.Omega.{arith}
use mathlib.Core.Path.{sym, ◌∙◌}
use borrow.Author.Tests.{lt-ltb, le-ltb}
use Rattle.model.specs.Sector.{card_of}
use Rattle.model.specs.Pending.{first_pending, pending_in}
use Rattle.log_scan.specs.Place.{judged}
use Rattle.log_scan.proofs.Laws.{placed, nowhere}
use borrow.Author.Rules.{rules}
use Rattle.log_scan.proofs.pending_in.Goals as goal

pub judge-requires : goal.judge-requires
judge-requires c =
    let a = c.args in
    let p = placed (first_pending a.a.sectors (card_of a.log.now)) a.a.sectors _ (sym c.requires.1 ∙ c.in-Some.is) in
    (search rules, p.within, p.few, p.at)

pub returns-in-None : goal.returns-in-None
unfolding pending_in
returns-in-None c =
    let a = c.args in
    rw (le-ltb _ _ (nowhere (first_pending a.a.sectors (card_of a.log.now)) a.a.sectors (sym c.requires.1 ∙ c.in-None.is)))

pub returns-in-Some : goal.returns-in-Some
unfolding pending_in judged
returns-in-Some c =
    let a = c.args in
    let n = a.a.sectors in
    let s = c.in-Some.p.sector in
    let r = c.in-Some.p.number in
    let p = placed (first_pending n (card_of a.log.now)) n _ (sym c.requires.1 ∙ c.in-Some.is) in
    rw (p.at, lt-ltb (16 * s + r) (16 * n) (omega (arith, p.within, p.few))) c.judge.ensures
