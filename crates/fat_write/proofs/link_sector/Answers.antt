use mathlib.Core.Path.{sym, ap, ◌∙◌}
use Prim.Native.Nat.{◌+◌, ◌*◌, ◌<◌, ◌≤◌}
use native.Mathlib.Omega.{arith}
use Rattle.model.specs.Bytes.{Bytes}
use Rattle.model.specs.Sector.{card_of}
use Rattle.model.specs.Fat.{fat_at}
use Rattle.fat_copy.specs.Change.{lead, own_fat}
use Rattle.fat_copy.proofs.Laws.{own_sector, lead_local}
use Rattle.fat_write.proofs.Passes.{linking_none, linking_more, linking_done}
use borrow.Author.Rules.{rules}
use Rattle.fat_write.proofs.link_sector.Goals as goal

pub loop-next-init : goal.loop-next-init
loop-next-init c =
    let pre = c.requires in
    let a = c.args in
    let t = own_fat a.l a.w.now in
    linking_none a.l t (lead a.last a.first t) a.s a.next.now.at a.next.now.left c.load_leading.new.buf (omega arith)
    (λ j h. c.load_leading.ensures j h
    ∙ lead_local a.last a.first (fat_at (card_of a.w.now) a.l.fat1) t a.s j
    (ap (λ (b : Bytes). b j) (sym (own_sector a.l (card_of a.w.now) a.s (omega arith)))))
    pre.3 pre.4

pub next_new-next-requires : goal.next_new-next-requires
next_new-next-requires c = (search rules, c.loop-next.invariant.moved.next.inside (omega arith))

pub loop-next-preserved : goal.loop-next-preserved
loop-next-preserved c =
    let n = c.next_new-next in
    linking_more _ _ _ _ _ _ _ _ _ c.loop-next.invariant (omega arith) (omega arith) n.result n.ensures.0 c.put_entry.new.buf
    (omega arith) c.put_entry.ensures

pub returns-else-next-end : goal.returns-else-next-end
returns-else-next-end c =
    let so = c.loop-next.invariant in
    let up : 0 < c.loop-next.next.left → 256 * (c.args.s + 1) ≤ c.loop-next.next.at = λ h. omega arith in
    (linking_done _ _ _ _ _ _ _ _ _ so up, so.moved, up)

pub returns-after-loop-next : goal.returns-after-loop-next
returns-after-loop-next c =
    let so = c.loop-next.invariant in
    let up : 0 < c.loop-next.next.left → 256 * (c.args.s + 1) ≤ c.loop-next.next.at = λ h. absurd (omega arith) in
    (linking_done _ _ _ _ _ _ _ _ _ so up, so.moved, up)
