use Rattle.model.specs.Sector.{card_of}
use Rattle.operations.specs.Plan.{old_fat}
use Rattle.operations.proofs.Seats.{delete_slots}
use Rattle.call_truncate.proofs.Cuts.{all_inside, delete_is}
use Rattle.call_truncate.proofs.delete_file.Goals as goal

pub shorten-requires : goal.shorten-requires
shorten-requires c =
    let h = c.requires in
    let a = c.args in record {
      ready = h.ready;
      inside = rw c.clusters_for.ensures
          (all_inside a.v.layout h.ready.held.fits (old_fat a.v (card_of a.w.now)) a.f h.chained.chain);
      slots = delete_slots a.v.layout.entries _ _ h.chained.seated.slot _ _ _;
    }

pub returns : goal.returns
returns c =
    let a = c.args in rw (delete_is a.v (card_of a.w.now) a.f, ← c.clusters_for.ensures, ← c.long_count.ensures) c.shorten.ensures
