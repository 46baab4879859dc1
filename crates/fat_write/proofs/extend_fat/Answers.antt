use native.Mathlib.Omega.{arith}
use mathlib.Core.Path.{refl}
use Rattle.model.specs.Sector.{card_of}
use Rattle.model.specs.Fat.{fat1_of}
use Rattle.model.specs.Chain.{chain}
use Rattle.fat_write.proofs.Laws.{renewed_append}
use borrow.Author.Rules.{rules}
use Rattle.fat_write.proofs.extend_fat.Goals as goal

pub renew_fat-requires : goal.renew_fat-requires
unfolding chain
renew_fat-requires c = record { held = (search rules, search rules, tt); marks_len = (refl, λ p. absurd (omega arith)) }

pub returns : goal.returns
returns c =
    let the-renew-fat = c.renew_fat in
    let h0 = c.requires in
    let a = c.args in
    rw (← renewed_append a.l (fat1_of a.l (card_of a.w.now)) a.last a.n 0 h0.1) the-renew-fat.ensures
