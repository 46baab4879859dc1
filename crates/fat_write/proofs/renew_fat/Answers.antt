use mathlib.Core.Path.{◌∙◌}
use native.Mathlib.Omega.{arith}
use lib.ListN.{take}
use Rattle.model.specs.Sector.{card_of}
use Rattle.model.specs.Fat.{entry, fat1_of, fat2_of, free_clusters}
use Rattle.model.specs.Chain.{chain}
use Rattle.fat_copy.specs.Change.{own_fat}
use Rattle.fat_copy.proofs.Laws.{write_same}
use Rattle.fat_release.proofs.Laws.{own_chain}
use Rattle.fat_write.specs.Renew.{renewed, passed}
use Rattle.fat_write.proofs.Grown.{own_first, new_first}
use Rattle.fat_write.proofs.Laws.{renewed_cut, passed_some}
use borrow.Author.Rules.{rules}
use Rattle.fat_write.proofs.renew_fat.Goals as goal

pub returns-then-n-eq0 : goal.returns-then-n-eq0
returns-then-n-eq0 c =
    let the-free-clusters = c.free_clusters in
    let the-if1 = c.if-n-eq0 in
    let a = c.args in
    let t = fat1_of a.l (card_of a.w.now) in
    rw (the-if1.true, renewed_cut (free_clusters a.l t) t a.last a.old a.m) the-free-clusters.ensures

pub renew_all-requires : goal.renew_all-requires
renew_all-requires c =
    let find-entry = c.find_entry-first in
    let h0 = c.requires in
    let a = c.args in
    let x = card_of a.w.now in record {
      held = (
        search rules,
        omega (arith, find-entry.ensures.2, h0.held.0.fits.shape.few),
        new_first a.l x h0.held.0.fits.shape a.n find-entry.result h0.held.1
            (find-entry.ensures.0 ∙ own_first a.l x 2 a.l.clusters (omega (arith, h0.held.0))),
        rw (own_chain a.l x h0.held.0.fits.shape a.m a.old h0.held.2) h0.held.2,
      );
      marks_len = h0.marks_len;
    }

pub returns : goal.returns
returns c =
    let the-renew-all = c.renew_all in
    let the-find-entry = c.find_entry-first in
    let h0 = c.requires in
    let a = c.args in
    let x = card_of a.w.now in
    let t = fat1_of a.l x in
    let r = the-find-entry.result in
    let is = the-find-entry.ensures.0 ∙ own_first a.l x 2 a.l.clusters (omega (arith, h0.held.0)) in
    rw (write_same a.l (renewed a.last (take a.n (free_clusters a.l t)) (chain (entry t) a.m a.old) t)
    (passed a.l (own_fat a.l a.w.now) a.last r r a.n a.m a.old) (fat2_of a.l x)
    (λ s j h b. passed_some a.l x h0.held.0.fits.shape a.last a.old a.m h0.held.2 a.n r h0.held.1 is (omega arith) s j h))
    the-renew-all.ensures
