use mathlib.Core.Path.{◌≡◌, refl}
use Prim.Native.Nat.{ℕ, ◌+◌}
use mathlib.Core.Bool.{Bool, true, false}
use native.Mathlib.Omega.{arith}
use borrow.Author.Tests.{tests}
use borrow.Author.Rules.{rules}
use Rattle.std.proofs.lemmas.Iterator.{cases_from_all, YieldsList-from_range}
use Rattle.model.specs.Sector.{card_of}
use Rattle.model.specs.Fat.{same, fats_agree}
use Rattle.fat_read.proofs.Laws.{all_told}
use Rattle.fat_read.proofs.agree.Goals as goal

pub returns : goal.returns
unfolding fats_agree
returns c =
    let a = c.args in
    let p : ℕ → Bool = λ s. same (card_of a.w.now (a.l.fat1 + s)) (card_of a.w.now (a.l.fat2 + s)) in
    let chain = YieldsList-from_range 0 a.l.fatsize a.l.fatsize refl (omega arith) in
    all_told p a.l.fatsize c.all.result
    (cases_from_all _ _ _ (λ s. p s ≡ true) (λ s. p s ≡ false) c.all.ensures.ran chain (λ x q k. search (rules, tests)) (λ x q k. search (rules, tests)))
