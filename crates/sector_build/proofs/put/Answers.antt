use mathlib.Core.Path.{◌≡◌, sym, ap, fun_ext}
use Prim.Native.Nat.{ℕ, ◌%◌}
use native.Mathlib.Nat.{div-one}
use native.Mathlib.Omega.{arith}
use Rattle.model.specs.Bytes.{bytes_of, byte_of}
use Rattle.model.proofs.Overlays.{overlay_none, overlay_more}
use Rattle.sector_build.proofs.Laws.{rest_next}
use borrow.Author.Rules.{rules}
use Rattle.sector_build.proofs.put.Goals as goal

pub loop-k-init : goal.loop-k-init
loop-k-init c = let a = c.args in (search rules, sym (div-one a.v), λ i. sym (overlay_none (byte_of a.v) a.at (bytes_of a.out.now) i))

pub loop-k-preserved : goal.loop-k-preserved
unfolding byte_of
loop-k-preserved c =
    let a = c.args in
    let l = c.loop-k in
    let rest = l.invariant.1 in (
      search rules,
      rest_next a.v l.k l.rest rest,
      overlay_more (byte_of a.v) a.out.now l.out a.at l.k _ (omega arith) (ap (λ (y : ℕ). y % 256) rest) l.invariant.2,
    )

pub returns : goal.returns
returns c = let end : c.loop-k.k ≡ c.args.n = omega arith in fun_ext (λ i. rw end at (c.loop-k.invariant.2 i))
