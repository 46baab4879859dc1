use Prim.Native.Nat.{◌<◌}
use native.Mathlib.Omega.{arith}
use Rattle.model.specs.Chain.{needed}
use Rattle.model.proofs.Needed.{needed_mono}
use Rattle.fat_chain.proofs.Links.{in_window}
use Rattle.call_truncate.proofs.Cuts.{first_low, parts_none, parts_all, parts_some}
use Rattle.call_truncate.proofs.cut_at.Goals as goal

pub returns-then-n-m : goal.returns-then-n-m
returns-then-n-m c =
    let a = c.args in
    let pre = c.requires in
    parts_none a.l pre.0.fits _ a.f pre.1 a.size _ _ pre.2 c.clusters_for-m.ensures c.clusters_for-n.ensures c.if-n-m.true

pub returns-then-n-eq0 : goal.returns-then-n-eq0
returns-then-n-eq0 c =
    let a = c.args in
    let pre = c.requires in
    parts_all a.l pre.0.fits _ a.f pre.1 a.size _ _ pre.2 c.clusters_for-m.ensures c.clusters_for-n.ensures c.if-n-eq0.true c.if-n-m.false

pub follow-kept-requires : goal.follow-kept-requires
follow-kept-requires c =
    let a = c.args in
    let pre = c.requires in
    let some : 0 < needed a.l a.f.size = omega
    (arith, needed_mono a.l pre.0.fits.shape.factor_low a.size a.f.size pre.2, c.clusters_for-n.ensures) in
    (pre.0, first_low a.l pre.0.fits _ a.f pre.1 some)

pub entry_at-requires : goal.entry_at-requires
entry_at-requires c = in_window c.args.l c.args.w.now c.follow-kept.result c.requires.0 c.follow-kept.ensures.1

pub overflow_sub-result : goal.overflow_sub-result
overflow_sub-result c =
    let a = c.args in
    let pre = c.requires in
    omega (
      arith,
      needed_mono a.l pre.0.fits.shape.factor_low a.size a.f.size pre.2,
      c.clusters_for-m.ensures,
      c.clusters_for-n.ensures,
    )

pub returns : goal.returns
returns c =
    let a = c.args in
    let pre = c.requires in
    parts_some a.l pre.0.fits _ a.f pre.1 a.size _ _ pre.2 c.clusters_for-m.ensures c.clusters_for-n.ensures c.if-n-eq0.false
    c.if-n-m.false _ _ c.follow-kept.ensures.0 c.entry_at.ensures.0
