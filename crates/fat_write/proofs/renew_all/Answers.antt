use mathlib.Core.Path.{◌≡◌, refl}
use native.Mathlib.Omega.{arith}
use Rattle.std.proofs.lemmas.Result.{err_from_is_err_and}
use Rattle.model.specs.Sector.{card_of}
use Rattle.model.specs.Fat.{fat2_of, entry}
use Rattle.model.specs.Chain.{chain}
use Rattle.model.proofs.Runs.{spends_none, spends_more, spends_cut}
use Rattle.fat_copy.specs.Change.{own_fat}
use Rattle.fat_copy.proofs.Laws.{write_turns}
use Rattle.fat_release.proofs.Laws.{next_marks}
use Rattle.fat_write.specs.Renew.{passed}
use Rattle.fat_write.proofs.Passes.{moved_then}
use Rattle.fat_write.proofs.Laws.{fat_same, turn_same}
use borrow.Author.Rules.{rules}
use Rattle.fat_write.proofs.renew_all.Goals as goal

pub loop-s-init : goal.loop-s-init
loop-s-init c = record {
  stored = spends_none _ _ _;
  marked = λ ne. absurd (ne refl);
  moved = record { next = c.requires.held.2; later = λ f r le. refl };
  above = λ h. omega arith;
}

pub mark_block-requires : goal.mark_block-requires
mark_block-requires c =
    let h0 = c.requires in
    let a = c.args in
    let o = c.loop-s in
    let same = fat_same a.l h0.held.0.fits.shape a.last a.value a.new.at a.new.left a.m a.old o.s o.invariant.stored in
    (search rules, λ p. omega (arith, h0.marks_len.1 p), search rules, rw same h0.held.3, rw same o.invariant.marked)

pub renew_sector-requires : goal.renew_sector-requires
renew_sector-requires c =
    let h0 = c.requires in
    let a = c.args in
    let o = c.loop-s in
    let same = fat_same a.l h0.held.0.fits.shape a.last a.value a.new.at a.new.left a.m a.old o.s o.invariant.stored in
    (search rules, search rules, search rules, rw same o.invariant.moved.next, o.invariant.above, omega (arith, h0.marks_len.0))

pub returns-in_err-renew_sector : goal.returns-in_err-renew_sector
returns-in_err-renew_sector c =
    let a = c.args in
    let o = c.loop-s in
    let so = o.invariant.stored in
    let t = turn_same a.l c.requires.held.0.fits.shape a.last a.value a.new.at a.new.left a.m a.old o.s so _ c.mark_block.ensures o.invariant.moved in
    let p = err_from_is_err_and c.from_residual.result c.from_residual.ensures.1 in
    rw (← write_turns a.l (passed a.l (own_fat a.l a.w.now) a.last a.value a.new.at a.new.left a.m a.old) (fat2_of a.l (card_of a.w.now)), p.1, p.2)
    (spends_cut _ so (rw t at c.renew_sector.ensures.0) c.in_err-renew_sector.was a.l.fatsize (omega arith))

pub loop-s-preserved : goal.loop-s-preserved
loop-s-preserved c =
    let turn = c.renew_sector.ensures in
    let a = c.args in
    let o = c.loop-s in
    let so = o.invariant.stored in
    let shape = c.requires.held.0.fits.shape in
    let same = fat_same a.l shape a.last a.value a.new.at a.new.left a.m a.old o.s so in
    let t = turn_same a.l shape a.last a.value a.new.at a.new.left a.m a.old o.s so _ c.mark_block.ensures o.invariant.moved in
    record {
      stored = spends_more _ so (rw t at turn.0) c.in_ok-renew_sector.was;
      marked = next_marks (chain (entry (own_fat a.l a.w.now)) a.m a.old) c.mark_block.new.marks o.s (rw same at c.mark_block.ensures);
      moved = moved_then _ _ _ _ _ _ _ _ _ o.invariant.moved (rw same at turn.1);
      above = turn.2;
    }

pub returns : goal.returns
returns c =
    let a = c.args in
    let end : c.loop-s.s ≡ a.l.fatsize = omega arith in
    rw (← write_turns a.l (passed a.l (own_fat a.l a.w.now) a.last a.value a.new.at a.new.left a.m a.old) (fat2_of a.l (card_of a.w.now)))
    (rw end at c.loop-s.invariant.stored)
