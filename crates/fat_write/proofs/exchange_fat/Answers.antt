use mathlib.Core.Path.{refl}
use lib.ListN.{take}
use Rattle.model.specs.Sector.{card_of}
use Rattle.model.specs.Fat.{entry, fat1_of, free_clusters}
use Rattle.model.specs.Chain.{chain}
use Rattle.fat_write.proofs.Laws.{renewed_exchange}
use Rattle.fat_write.proofs.exchange_fat.Goals as goal

pub renew_fat-requires : goal.renew_fat-requires
renew_fat-requires c = record { held = c.requires; marks_len = (refl, λ p. refl) }

pub returns : goal.returns
returns c =
    let a = c.args in
    let t = fat1_of a.l (card_of a.w.now) in
    rw (← renewed_exchange (take a.n (free_clusters a.l t)) (chain (entry t) a.m a.old) t) c.renew_fat.ensures
