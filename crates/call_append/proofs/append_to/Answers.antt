use native.Mathlib.Omega.{arith}
use mathlib.Core.Path.{sym}
use Rattle.model.specs.Bytes.{view}
use Rattle.model.specs.Sector.{card_of}
use Rattle.operations.specs.Plan.{append_stores}
use Rattle.file_append.proofs.Clusters.{has_room}
use Rattle.call_outcome.proofs.Ends.{did_refused, did_spent, did_none}
use Rattle.call_append.proofs.Laws.{append_full, append_none, append_some}
use Rattle.call_append.proofs.append_to.Goals as goal

pub returns-then-from-n : goal.returns-then-from-n
returns-then-from-n c =
    let a = c.args in
    rw (append_full (card_of a.w.now) a.v a.f (view a.bytes.now) a.stamp (omega arith)) (did_refused _ _ _)

pub returns-then-is_empty : goal.returns-then-is_empty
returns-then-is_empty c =
    let a = c.args in
    rw (append_none (card_of a.w.now) a.v a.f (view a.bytes.now) a.stamp (omega arith) (sym c.if-is_empty.ensures))
    (did_none a.limit a.w.now)

pub store_append-stored-requires : goal.store_append-stored-requires
store_append-stored-requires c =
    let a = c.args in
    let p = c.requires in
    record {
      ready = (p.0, has_room a.v.layout (card_of a.w.now) a.f _ p.0.held.fits.shape p.1.chain (omega arith), p.1.seated.slot);
      growth = (c.last_cluster-last.ensures, c.added_clusters-n.ensures);
    }

pub returns : goal.returns
returns c =
    let a = c.args in
    rw (c.ended.ensures, append_some (card_of a.w.now) a.v a.f (view a.bytes.now) a.stamp (omega arith) (sym c.if-is_empty.ensures))
    (did_spent (append_stores a.v (card_of a.w.now) a.f (view a.bytes.now) a.stamp) c.store_append-stored.ensures)
