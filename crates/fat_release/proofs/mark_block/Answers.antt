use mathlib.Core.Path.{◌≡◌, sym, ◌∙◌}
use Prim.Native.Nat.{◌+◌, ◌-◌, ◌*◌, ◌/◌, ◌<◌}
use native.Mathlib.Omega.{arith}
use Rattle.model.specs.Sector.{card_of}
use Rattle.model.specs.Fat.{entry}
use Rattle.model.specs.Chain.{chain}
use Rattle.fat_copy.specs.Change.{own_fat}
use Rattle.fat_copy.proofs.Laws.{own_entry}
use Rattle.fat_release.proofs.Laws.{mark_clear, marked_none, marking_none, marking_more, marking_done, inside_first, inside_rest}
use Rattle.fat_release.proofs.mark_block.Goals as goal

pub returns-then-l-from : goal.returns-then-l-from
returns-then-l-from c =
    let a = c.args in
    let f : 8192 * (a.s / 32) ≡ 256 * a.s = omega arith in
    rw f (marked_none a.l (chain (entry (own_fat a.l a.w.now)) a.m a.first) (256 * a.s) c.fill.new.self c.requires.3 c.if-l-from.true
    (mark_clear c.fill.new.self _ (c.fill.ensures.after (λ y e. e))))

pub loop-init : goal.loop-init
loop-init c =
    let z : c.args.m - 0 ≡ c.args.m = omega arith in
    rw z (record { inside = c.requires.3; marked = marking_none _ _ _ _ c.fill.new.self (mark_clear c.fill.new.self _ (c.fill.ensures.after (λ y e. e))) })

pub entry_at-k-requires : goal.entry_at-k-requires
entry_at-k-requires c =
    let o = c.loop in
    let a = c.args in
    let h : o.k < a.l.clusters + 2 = inside_first a.l (entry (own_fat a.l a.w.now)) o.k _ (omega arith) o.invariant.inside in
    omega (arith, c.requires.0)

pub loop-preserved : goal.loop-preserved
loop-preserved c =
    let a = c.args in
    let o = c.loop in
    let t = entry (own_fat a.l a.w.now) in
    let n = a.m - o.counter in
    let h : o.k < a.l.clusters + 2 = inside_first a.l t o.k n (omega arith) o.invariant.inside in
    let e : c.entry_at-k.result ≡ t o.k = c.entry_at-k.ensures.0 ∙ sym (own_entry a.l (card_of a.w.now) o.k (omega (arith, c.requires.0))) in
    let f : a.m - (o.counter + 1) ≡ n - 1 = omega arith in
    rw (e, f) (record {
      inside = inside_rest a.l t o.k n (omega arith) o.invariant.inside;
      marked = marking_more t (256 * a.s) a.first a.m o.marks o.k n (omega arith) o.invariant.marked c.mark.new.marks c.mark.ensures;
    })

pub returns : goal.returns
returns c =
    let a = c.args in
    let f : 8192 * (a.s / 32) ≡ 256 * a.s = omega arith in
    rw f (marking_done (entry (own_fat a.l a.w.now)) (256 * a.s) a.first a.m c.loop.marks c.loop.k _ (omega arith) c.loop.invariant.marked)
