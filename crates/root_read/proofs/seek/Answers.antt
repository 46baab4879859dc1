use Rattle.std.proofs.Common.{◌≡◌, sym, ◌∙◌, arith, ◌+◌, ◌-◌, eqb, false}
use Rattle.model.specs.Sector.{card_of}
use Rattle.model.specs.Root.{slot_at}
use Rattle.model.proofs.Scan.{sofar_more, first_is, first_none}
use Rattle.model.proofs.Searches.{sofar_past}
use Rattle.root_read.proofs.seek.Goals as goal

pub loop-k-preserved-then-is_blank : goal.loop-k-preserved-then-is_blank
loop-k-preserved-then-is_blank g c =
    let turn = c.loop-k in
    let a = c.args in
    let b = c.is_blank.ensures c.if-is_blank.true in (
      omega arith,
      b.0,
      λ p is none. sofar_past p (λ m. eqb (slot_at a.l (card_of a.w.now) m 0) 0) false a.from turn.k 16 (turn.invariant.2 p is none) b.1 none,
    )

pub returns-then-test-clause-found : goal.returns-then-test-clause-found
returns-then-test-clause-found g c =
    λ p is none. sym (first_is p c.args.from _ _ (omega arith) (omega arith) (c.loop-k.invariant.2 p is none)
    (sym (is _ _ (omega arith) c.test.ensures) ∙ c.if-test.true))

pub loop-k-preserved : goal.loop-k-preserved
loop-k-preserved g c = (
  omega arith,
  omega arith,
  λ p is none. sofar_more p false c.args.from _ (c.loop-k.invariant.2 p is none) (sym (is _ _ (omega arith) c.test.ensures) ∙ c.if-test.false),
)

pub returns-clause-found : goal.returns-clause-found
returns-clause-found g c =
    λ p is none.
    let end : c.loop-k.k ≡ c.args.from + (c.args.l.entries - c.args.from) = omega arith in
    end ∙ sym (first_none p c.args.from _ (λ k low less. c.loop-k.invariant.2 p is none k low (omega arith)))
