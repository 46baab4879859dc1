use mathlib.Core.Path.{sym}
use Prim.Native.Nat.{◌-◌, ◌+◌, ◌*◌, ◌≤◌}
use native.Mathlib.Omega.{arith}
use Rattle.model.specs.Sector.{card_of}
use Rattle.model.specs.Fat.{fat1_of}
use Rattle.model.specs.Chain.{cluster_sector}
use Rattle.fat_read.proofs.Runs.{positive, on_card, another, only}
use Rattle.fat_read.proofs.locate.Goals as goal

pub returns-then-find_entry-end : goal.returns-then-find_entry-end
returns-then-find_entry-end c =
    let find-entry = c.find_entry-start in
    let find-other = c.find_other-stop in
    let a = c.args in (
      sym (another a.l (fat1_of a.l (card_of a.w.now)) _ _ find-entry.ensures.0 find-other.ensures.0 _
          c.find_entry.ensures.0 c.if-find_entry-end.true),
      tt,
    )

pub returns : goal.returns
returns c =
    let pre = c.requires in
    let find-entry = c.find_entry-start in
    let find-other = c.find_other-stop in
    let a = c.args in
    let l = a.l in
    let s = find-entry.result in
    let n = find-other.result - s in
    let few : n * l.factor ≤ 128 = omega arith in
    let end : cluster_sector l s + n * l.factor ≤ l.total = on_card l s n pre.fits (omega arith) (omega arith) in
    rw c.cluster_sector.ensures.0 (
      sym (only l (fat1_of l (card_of a.w.now)) _ _ find-entry.ensures.0 find-other.ensures.0 _
          c.find_entry.ensures.0 c.if-find_entry-end.false (omega arith) few),
      record { above = omega arith; some = positive n l.factor (omega arith) (omega arith); few = few; inside = end },
    )
