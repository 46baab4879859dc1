use mathlib.Core.Path.{refl}
use native.Mathlib.Omega.{arith}
use Rattle.model.specs.Boot.{arrange}
use Rattle.boot.proofs.Laws.{power, exponent, few_clusters}
use Rattle.boot.proofs.clusters_of.Goals as goal

pub overflow_shr-result : goal.overflow_shr-result
overflow_shr-result c = omega (arith, exponent c.args.f c.requires.1)

pub returns : goal.returns
unfolding arrange
returns c = let a = c.args in
    rw (power a.f c.requires.1, c.saturating_sub.ensures) (refl, few_clusters a.f c.requires.1 (omega arith))
