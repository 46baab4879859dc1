use mathlib.Core.Path.{◌∙◌, refl}
use native.Mathlib.Omega.{arith}
use Rattle.operations.proofs.Added.{spare_low, spare_none, spare_some}
use Rattle.file_append.proofs.added_clusters.Goals as goal

pub overflow_sub-spare : goal.overflow_sub-spare
overflow_sub-spare c =
    let a = c.args in
    spare_low a.l c.requires.shape.factor_low a.f 0 _ _ _ c.clusters_for.ensures refl refl

pub returns-then-n-spare : goal.returns-then-n-spare
returns-then-n-spare c =
    let a = c.args in
    spare_none a.l c.requires.shape.factor_low a.f a.n _ _ _ c.clusters_for.ensures refl refl c.if-n-spare.true

pub returns : goal.returns
returns c =
    let a = c.args in
    c.clusters_needed.ensures ∙ spare_some a.l c.requires.shape.factor_low a.f a.n _ _ _ c.clusters_for.ensures refl refl (omega arith)
