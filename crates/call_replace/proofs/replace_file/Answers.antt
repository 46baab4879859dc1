use native.Mathlib.Omega.{arith}
use mathlib.Core.Path.{sym, ◌∙◌}
use lib.ListN.{length}
use Rattle.model.specs.Bytes.{view}
use Rattle.model.specs.Sector.{card_of}
use Rattle.operations.specs.Plan.{replace_stores}
use Rattle.file_append.proofs.Clusters.{has_room}
use Rattle.call_outcome.proofs.Ends.{did_refused, did_spent}
use Rattle.call_replace.specs.Replace.{emptied}
use Rattle.call_replace.proofs.Laws.{emptied_added, emptied_proper, replace_full, replace_granted}
use Rattle.call_replace.proofs.replace_file.Goals as goal

pub returns-then-from-n : goal.returns-then-from-n
returns-then-from-n c =
    let a = c.args in
    rw (replace_full (card_of a.w.now) a.v a.f (view a.bytes.now) a.stamp (omega arith)) (did_refused _ _ _)

pub store_replace-stored-requires : goal.store_replace-stored-requires
store_replace-stored-requires c =
    let a = c.args in
    let p = c.requires in
    let x = card_of a.w.now in
    let sh = p.0.held.fits.shape in
    let e = emptied_added a.v.layout sh.factor_low a.f (length a.bytes.now) in
    record {
      ready = (p.0, p.1, has_room a.v.layout x (emptied a.f) _ sh (emptied_proper a.v.layout x a.f) (omega (arith, e)));
      taken = c.clusters_needed-n.ensures ∙ sym e;
    }

pub returns : goal.returns
returns c =
    let a = c.args in
    rw (c.ended.ensures, replace_granted (card_of a.w.now) a.v a.f (view a.bytes.now) a.stamp (omega arith))
    (did_spent (replace_stores a.v (card_of a.w.now) a.f (view a.bytes.now) a.stamp) c.store_replace-stored.ensures)
