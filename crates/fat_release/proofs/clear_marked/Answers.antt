use Prim.Native.Nat.{◌+◌, ◌/◌}
use mathlib.Core.Path.{sym, ◌∙◌}
use borrow.Author.Tests.{eqb-true}
use Rattle.fat_release.proofs.Laws.{mark_past}
use Rattle.fat_release.proofs.clear_marked.Goals as goal

pub returns-then-is_empty : goal.returns-then-is_empty
returns-then-is_empty c = λ j h. rw (mark_past c.args.marks.now (eqb-true _ _ (sym c.is_empty.ensures ∙ c.if-is_empty.true)) (c.args.at + j / 2))
