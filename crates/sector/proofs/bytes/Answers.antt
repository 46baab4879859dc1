use mathlib.Core.Path.{◌≡◌, refl, sym, ◌∙◌}
use Prim.Native.Nat.{◌+◌, ◌*◌, ◌-◌}
use native.Mathlib.Omega.{arith}
use lib.ListN.{get_or, length-drop}
use lib.Seq.{length-take-le}
use Rattle.model.proofs.Cards.{clip_same}
use Rattle.sector.proofs.Stored.{sector_bytes, in_sector}
use Rattle.sector.proofs.bytes.Goals as goal

pub returns : goal.returns
returns c =
    let a = c.args in
    let e : 512 * a.s + 512 - 512 * a.s ≡ 512 = omega arith in (
      rw e (length-take-le 512 _ (rw (length-drop (512 * a.s) a.w.now) (omega arith))),
      clip_same _ (λ j. get_or a.w.now (512 * a.s + j) 0)
          (λ j l. sector_bytes a.w.now a.s c.requires j l ∙ sym (in_sector a.w.now a.s a.s refl j l)),
    )
