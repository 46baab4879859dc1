use mathlib.Core.Path.{sym, ◌∙◌}
use mathlib.Core.Bool.{Bool, true}
use Prim.Native.Nat.{ℕ, ◌+◌}
use native.Mathlib.Omega.{arith}
use borrow.Author.Tests.{not-true, not-false}
use Rattle.model.specs.Scan.{all_from}
use Rattle.model.specs.Sector.{card_of}
use Rattle.model.specs.Root.{slot_at, vacant, free_run}
use Rattle.model.proofs.Scan.{sofar_none, sofar_more, sofar_cut, none_below, first_is0, all_of}
use Rattle.root_read.proofs.Laws.{run_broken}
use borrow.Author.Rules.{rules}
use Rattle.root_read.proofs.free_run.Goals as goal
use Rattle.root_read.proofs.free_run.Goals.{then-not-is_vacant, else-not-is_vacant+else-k-start}

pub loop-k-init : goal.loop-k-init
loop-k-init c = (search rules, omega arith, sofar_none _ _ _ _ (omega arith), sofar_none _ _ _ _ (omega arith))

pub returns-then-k-start : goal.returns-then-k-start
unfolding free_run
returns-then-k-start c =
    let turn = c.loop-k in
    let a = c.args in
    let free : ℕ → Bool = λ i. vacant (slot_at a.l (card_of a.w.now) i) in
    let start : ℕ = turn.start in
    let here = sym c.is_vacant.ensures ∙ not-false _ c.if-not-is_vacant.false-raw in
    let run = sofar_cut free true start (turn.k + 1) (start + a.m) (sofar_more free true start turn.k turn.invariant.2 here) (omega arith) in (
      sym (first_is0 (λ j. all_from free j a.m) _ start (omega arith) (λ j less. turn.invariant.3 j (omega arith) less) (all_of free start a.m run)),
      omega arith,
    )

pub loop-k-preserved : goal.loop-k-preserved
loop-k-preserved c =
    let turn = c.loop-k in
    let a = c.args in
    let free : ℕ → Bool = λ i. vacant (slot_at a.l (card_of a.w.now) i) in
    elim c.if-not-is_vacant.branch [
      | then-not-is_vacant w ↦ (
        omega arith,
        omega arith,
        rw w.start-is (sofar_none free true (turn.k + 1) (turn.k + 1) (omega arith)),
        rw w.start-is (run_broken free a.m turn.start turn.k turn.invariant.3 turn.invariant.1 (sym c.is_vacant.ensures ∙ not-true _ w.if-not-is_vacant.true-raw)),
      )
      | else-not-is_vacant+else-k-start w ↦ (
        omega arith,
        omega arith,
        rw w.start-is (sofar_more free true turn.start turn.k turn.invariant.2 (sym c.is_vacant.ensures ∙ not-false _ w.if-not-is_vacant.false-raw)),
        rw w.start-is turn.invariant.3,
      )
    ]

pub returns : goal.returns
unfolding free_run
returns c = rw c.saturating_sub.ensures (sym (none_below _ _ _ c.loop-k.invariant.3 (omega arith)), omega arith)
