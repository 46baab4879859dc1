use mathlib.Core.Path.{refl, sym}
use Prim.Native.Nat.{◌+◌, ◌*◌}
use native.Mathlib.Omega.{arith}
use lib.ListN.{length}
use borrow.Author.Tests.{lt-leb, le-leb}
use Rattle.call_read.proofs.list_slot.Goals as goal

pub returns-then-not-is_listed : goal.returns-then-not-is_listed
returns-then-not-is_listed c =
    let u = sym c.if-not-is_listed.ensures in record { counted = rw u (omega arith); bytes = λ i. rw u refl }

pub returns-then-out-at : goal.returns-then-out-at
returns-then-out-at c =
    let a = c.args in
    let u = sym c.if-not-is_listed.ensures in
    record { counted = rw u refl; bytes = λ i. rw (u, lt-leb (32 * a.n + 32) (length a.out.now) (omega arith)) refl }

pub returns : goal.returns
returns c =
    let a = c.args in
    let u = sym c.if-not-is_listed.ensures in
    record { counted = rw u refl; bytes = λ i. rw (u, le-leb (32 * a.n + 32) (length a.out.now) (omega arith)) (c.copy_slot.ensures i) }
