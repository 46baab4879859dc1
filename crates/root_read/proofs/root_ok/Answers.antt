use Rattle.std.proofs.Common.{ap, eqb, not}
use borrow.Author.Rules.{rules}
use borrow.Author.Tests.{tests}
use Rattle.model.specs.Sector.{card_of}
use Rattle.model.specs.Root.{slot_at}
use Rattle.root_read.proofs.Laws.{none_after}
use Rattle.root_read.proofs.root_ok.Goals as goal

pub returns : goal.returns
returns c =
    let a = c.args in
    let found = c.seek.ensures.found (λ k. not (eqb (slot_at a.l (card_of a.w.now) k 0) 0)) (λ k r l h. search (rules, tests)) (λ k h. ap not h) in
    none_after a.l.entries a.z (λ k. slot_at a.l (card_of a.w.now) k 0) c.seek.result c.requires.1 c.requires.2 found
