use mathlib.Core.Path.{◌≡◌, sym, ◌∙◌}
use Prim.Native.Nat.{◌+◌, ◌-◌}
use native.Mathlib.Omega.{arith}
use Rattle.model.specs.Sector.{card_of}
use Rattle.model.specs.Fat.{entry, fat1_of}
use Rattle.fat_chain.proofs.Links.{adjacent_one, adjacent_more, in_window}
use Rattle.fat_chain.proofs.run_length.Goals as goal

pub loop-m-init : goal.loop-m-init
loop-m-init c = let a = c.args in (adjacent_one (entry (fat1_of a.l (card_of a.w.now))) a.k, omega arith)

pub entry_at-requires : goal.entry_at-requires
entry_at-requires c = let a = c.args in in_window a.l a.w.now (a.k + c.loop-m.m - 1) c.requires.0 (omega arith)

pub loop-m-preserved : goal.loop-m-preserved
loop-m-preserved c =
    let o = c.loop-m in
    let a = c.args in
    let next : c.entry_at.result ≡ a.k + o.m = omega arith in (
      adjacent_more (entry (fat1_of a.l (card_of a.w.now))) a.k o.m (omega arith) o.invariant.0 (sym c.entry_at.ensures.0 ∙ next),
      omega (arith, c.entry_at.ensures.1),
    )

pub returns : goal.returns
returns c = let o = c.loop-m in (omega arith, omega arith, omega (arith, o.invariant.1), λ i h. o.invariant.0 i (omega arith))
