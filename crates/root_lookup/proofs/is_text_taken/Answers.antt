use Prim.Native.Nat.{ℕ}
use mathlib.Core.Path.{sym, ap}
use native.Mathlib.Omega.{arith}
use lib.Dec.{ltb}
use lib.ListN.{length}
use borrow.Author.Tests.{eqb-true, eqb-false, lt-ltb}
use Rattle.operations.specs.Calls.{text_taken}
use Rattle.root_lookup.proofs.is_text_taken.Goals as goal

pub returns-then-not-is_empty : goal.returns-then-not-is_empty
unfolding text_taken
returns-then-not-is_empty c =
    let a = c.args in
    let h = eqb-false _ _ (sym c.if-not-is_empty.ensures) in
    rw (lt-ltb 0 (length a.text.now) (omega arith)) (ap (λ (s : ℕ). ltb s a.v.layout.entries) c.find_text.ensures.0)

pub returns-else-not-is_empty : goal.returns-else-not-is_empty
unfolding text_taken
returns-else-not-is_empty c = rw (c.if-not-is_empty.false, eqb-true _ _ (sym c.if-not-is_empty.ensures))
