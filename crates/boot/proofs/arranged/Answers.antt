use mathlib.Core.Path.{sym, ◌∙◌}
use Prim.Native.Nat.{◌≤◌}
use native.Mathlib.Omega.{arith}
use Rattle.model.specs.Boot.{arrange}
use Rattle.boot.proofs.Laws.{right, fits}
use Rattle.boot.proofs.arranged.Goals as goal

pub returns : goal.returns
unfolding arrange
returns c =
    let f = c.args.f in
    let p = c.requires in
    let clusters = c.clusters_of-clusters.ensures in
    let wide = sym c.fat_holds.ensures ∙ c.if-not-fat_holds.false in
    let low : 4085 ≤ (arrange f).clusters = omega (arith, clusters) in
    let high : (arrange f).clusters ≤ 65524 = omega (arith, clusters) in
    rw clusters.0 (sym (right f low high wide), fits f low high wide p.0 p.1)
