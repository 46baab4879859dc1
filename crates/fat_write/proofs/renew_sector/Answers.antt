use mathlib.Core.Path.{◌≡◌, refl, ap, ◌∙◌}
use Prim.Native.Nat.{◌+◌, ◌*◌, ◌/◌, ◌%◌, ◌<◌, ◌≤◌}
use native.Mathlib.Omega.{arith}
use Rattle.model.specs.Bytes.{Bytes, bytes_of}
use Rattle.model.specs.Sector.{card_of}
use Rattle.fat_copy.specs.Change.{own_fat}
use Rattle.fat_copy.proofs.Laws.{own_sector, renewal_same}
use Rattle.fat_release.specs.Release.{cleared}
use Rattle.fat_release.proofs.Laws.{cleared_of}
use Rattle.fat_write.proofs.Passes.{linked}
use Rattle.fat_write.proofs.Laws.{unchanged}
use Rattle.fat_write.proofs.renew_sector.Goals as goal

pub returns-then-not-is_changed : goal.returns-then-not-is_changed
returns-then-not-is_changed c =
    let h0 = c.requires in
    let a = c.args in
    let next = a.next.now in
    let xs = a.w.now in
    let t = own_fat a.l xs in
    let q = c.is_changed.ensures c.if-not-is_changed.true in
    let up : 0 < next.left → 256 * (a.s + 1) ≤ next.at =
    λ h. let lo : 256 * a.s ≤ next.at = h0.4 h in let ne : a.s ≡ next.at / 256 → ⊥ = q.1 h in omega arith in (
      rw (renewal_same (a.l.fat2 + a.s) (cleared a.marks.now (linked a.l t a.last a.value next.at next.left) a.s)
          (card_of xs (a.l.fat1 + a.s)) (card_of xs (a.l.fat2 + a.s))
          (λ j h. unchanged a.marks.now a.l t a.s a.last a.value next.at next.left q.0 up q.2 j h ∙ ap (λ (b : Bytes). b j)
          (own_sector a.l (card_of xs) a.s h0.1)))
          c.copy_changed.ensures,
      record { next = h0.3; later = λ f r le. refl },
      up,
    )

pub store_changed-requires : goal.store_changed-requires
store_changed-requires c = let h0 = c.requires in omega (arith, h0.0.whole, h0.0.fits.shape, h0.1)

pub returns : goal.returns
returns c =
    let link = c.link_sector.ensures in
    let a = c.args in
    let next = a.next.now in
    let xs = a.w.now in
    let t = own_fat a.l xs in (
      rw (← renewal_same (a.l.fat2 + a.s) (bytes_of c.clear_marked.new.buf)
          (cleared a.marks.now (linked a.l t a.last a.value next.at next.left) a.s) (card_of xs (a.l.fat2 + a.s))
          (cleared_of a.marks.now c.link_sector.new.buf c.clear_marked.new.buf (linked a.l t a.last a.value next.at next.left)
          a.s (256 * (a.s % 32)) refl link.0 c.clear_marked.ensures))
          c.store_changed.ensures,
      link.1,
      link.2,
    )
