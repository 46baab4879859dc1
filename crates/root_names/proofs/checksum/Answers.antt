use Rattle.std.proofs.Common.{ℕ, ◌+◌, ◌%◌, refl, ap, ◌∙◌, arith}
use Rattle.model.specs.Bytes.{bytes_of, part}
use Rattle.model.specs.Long.{turned, sum_of}
use Rattle.model.proofs.ReadBack.{sum_more}
use Rattle.root_names.proofs.Laws.{rotate_turned}
use Rattle.root_names.proofs.checksum.Goals as goal

pub loop-i-init : goal.loop-i-init
unfolding sum_of
loop-i-init c = (omega arith, refl)

pub loop-i-preserved : goal.loop-i-preserved
loop-i-preserved c =
    let b = part (bytes_of c.args.s.now) c.args.at in
    let l = c.loop-i in (
      omega arith,
      ap (λ (t : ℕ). (t + b l.i) % 256) (c.rotate_right.ensures ∙ rotate_turned l.sum (omega arith) ∙ ap turned l.invariant.1)
          ∙ sum_more l.i b,
    )
