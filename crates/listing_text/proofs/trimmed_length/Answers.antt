use Rattle.std.proofs.Common.{sym, ◌≡◌, ◌+◌, ◌-◌, arith}
use borrow.Author.Tests.{ne_eqb}
use Rattle.model.specs.Bytes.{bytes_of, part}
use Rattle.listing_text.proofs.Shown.{trimmed_at, trimmed_away}
use Rattle.listing_text.proofs.trimmed_length.Goals as goal

pub returns-then-s-from-ne32 : goal.returns-then-s-from-ne32
returns-then-s-from-ne32 c =
    let a = c.args in
    let turn = c.loop-k in
    let e : turn.k - 1 + 1 ≡ turn.k = omega arith in (
      rw e (sym (trimmed_at a.n (part (bytes_of a.s.now) a.from) turn.k (omega arith) turn.invariant (λ e. omega arith) (ne_eqb _ _ c.if-s-from-ne32.true))),
      omega arith,
    )

pub returns : goal.returns
returns c =
    let a = c.args in
    (sym (trimmed_away a.n (part (bytes_of a.s.now) a.from) c.loop-k.k (omega arith) c.loop-k.invariant (omega arith)), omega arith)
