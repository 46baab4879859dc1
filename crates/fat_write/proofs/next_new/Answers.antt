use mathlib.Core.Path.{sym, ◌∙◌}
use Prim.Native.Nat.{◌+◌, ◌-◌}
use native.Mathlib.Omega.{arith}
use Rattle.model.specs.Sector.{card_of}
use Rattle.fat_copy.specs.Change.{own_fat}
use Rattle.fat_write.proofs.News.{following_end, following_next}
use Rattle.fat_write.proofs.Grown.{own_first}
use borrow.Author.Rules.{rules}
use Rattle.fat_write.proofs.next_new.Goals as goal

pub returns-then-left-eq1 : goal.returns-then-left-eq1
returns-then-left-eq1 c =
    let args = c.args in
    (sym (following_end args.l (own_fat args.l args.w.now) args.at args.left c.if-left-eq1.true), search rules)

pub returns : goal.returns
returns c =
    let a = c.args in (
      c.find_entry.ensures.0 ∙ own_first a.l (card_of a.w.now) (a.at + 1) (a.l.clusters + 1 - a.at) (omega arith)
          ∙ sym (following_next a.l (own_fat a.l a.w.now) a.at a.left c.if-left-eq1.false),
      omega arith,
    )
