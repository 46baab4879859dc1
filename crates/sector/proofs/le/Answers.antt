use Prim.Native.Nat.{◌+◌, ◌-◌, ◌<◌}
use native.Mathlib.Omega.{arith}
use mathlib.Core.Path.{◌≡◌}
use Rattle.model.specs.Sector.{card_of}
use Rattle.sector.proofs.Stored.{number_none, number_more, number_small}
use Rattle.sector.proofs.le.Goals as goal

pub loop-k-init : goal.loop-k-init
loop-k-init g c = number_none g.row.N (card_of c.args.w.now c.args.s) c.args.j

pub overflow_mul-v : goal.overflow_mul-v
overflow_mul-v g c =
    let l = c.loop-k in
    let small : l.v < 16777216 = number_small (g.row.N - l.k) (card_of c.args.w.now c.args.s) (c.args.j + l.k) l.v (omega arith) l.invariant in
    omega arith

pub overflow_add-v : goal.overflow_add-v
overflow_add-v g c =
    let l = c.loop-k in
    let small : l.v < 16777216 = number_small (g.row.N - l.k) (card_of c.args.w.now c.args.s) (c.args.j + l.k) l.v (omega arith) l.invariant in
    omega arith

pub loop-k-preserved : goal.loop-k-preserved
loop-k-preserved g c =
    let l = c.loop-k in
    let a = c.args in
    let e : l.k ≡ l.k - 1 + 1 = omega arith in
    number_more g.row.N (card_of a.w.now a.s) a.j (l.k - 1) l.v c.byte.result (omega arith) c.byte.ensures.0 c.byte.ensures.1 (rw e at l.invariant)

pub returns : goal.returns
returns g c =
    let l = c.loop-k in
    let e : l.k ≡ 0 = omega arith in
    let n : g.row.N - l.k ≡ g.row.N = omega arith in
    let j : c.args.j + l.k ≡ c.args.j = omega arith in
    rw (n, j) at l.invariant
