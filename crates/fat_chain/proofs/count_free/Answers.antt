use Rattle.model.specs.Sector.{card_of}
use Rattle.model.specs.Fat.{fat1_of, free_clusters}
use Rattle.model.proofs.Searches.{indices_count}
use Rattle.fat_read.specs.Located.{holds}
use Rattle.fat_chain.proofs.count_free.Goals as goal

pub returns : goal.returns
unfolding free_clusters
returns c =
    let a = c.args in
    (rw (indices_count (holds 0 (fat1_of a.l (card_of a.w.now))) 2 a.l.clusters) c.count_entries.ensures.0, c.count_entries.ensures.1)
