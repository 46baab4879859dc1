use mathlib.Core.Path.{refl, ap}
use Rattle.model.specs.Bytes.{Bytes}
use Rattle.model.proofs.Lists.{all_zero}
use Rattle.call_format.proofs.Laws.{spent_same, boot_made}
use Rattle.call_format.proofs.store_boot.Goals as goal

pub returns : goal.returns
returns c =
    let l = c.args.l in
    let marks = c.put_marks in
    let sizes = c.put_sizes in
    let shape = c.put_shape in
    spent_same refl (λ j less. ap (λ (x : Bytes). x j) (boot_made l _ _ _ _ (all_zero 512) marks.ensures sizes.ensures shape.ensures))
    c.store_sector.ensures
