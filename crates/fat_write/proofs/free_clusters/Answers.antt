use Rattle.model.specs.Sector.{card_of}
use Rattle.model.specs.Fat.{fat1_of, fat2_of, end_value}
use native.Mathlib.Omega.{arith}
use Rattle.model.specs.Chain.{chain}
use Rattle.fat_copy.specs.Change.{own_fat}
use Rattle.fat_copy.proofs.Laws.{write_same}
use Rattle.fat_release.specs.Release.{cut}
use Rattle.fat_release.proofs.Laws.{own_chain}
use Rattle.fat_write.specs.Renew.{passed}
use Rattle.fat_write.proofs.News.{no_new}
use Rattle.fat_write.proofs.Laws.{passed_none, passed_cut}
use borrow.Author.Rules.{rules}
use Rattle.fat_write.proofs.free_clusters.Goals as goal

pub renew_all-requires : goal.renew_all-requires
unfolding chain
renew_all-requires c = record { held = (search rules, search rules, no_new _ _, tt); marks_len = (c.requires.marks_len.0, λ p. absurd (omega arith)) }

pub returns-then-m-eq0 : goal.returns-then-m-eq0
returns-then-m-eq0 c = let a = c.args in
    let x = card_of a.w.now in
    rw (
      c.if-m-eq0.true,
      write_same a.l (cut (fat1_of a.l x) a.last a.old 0) (passed a.l (own_fat a.l a.w.now) 0 0 0 0 0 0) (fat2_of a.l x)
          (λ s j h b. passed_none a.l x a.last a.old s j h),
    )
    c.renew_all.ensures

pub renew_all-requires-2 : goal.renew_all-requires-2
renew_all-requires-2 c =
    let h0 = c.requires in
    let a = c.args in record {
      held = (search rules, search rules, no_new _ _, rw (own_chain a.l (card_of a.w.now) h0.held.0.fits.shape a.m a.old h0.held.1) h0.held.1);
      marks_len = h0.marks_len;
    }

pub returns : goal.returns
returns c =
    let the-renew-all2 = c.renew_all-2 in
    let h0 = c.requires in
    let a = c.args in
    let x = card_of a.w.now in
    rw (write_same a.l (cut (fat1_of a.l x) a.last a.old a.m)
    (passed a.l (own_fat a.l a.w.now) a.last end_value 0 0 a.m a.old) (fat2_of a.l x)
    (λ s j h b. passed_cut a.l x h0.held.0.fits.shape a.last a.old a.m h0.held.1 s j (omega arith) h))
    the-renew-all2.ensures
