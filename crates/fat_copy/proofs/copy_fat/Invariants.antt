use Rattle.std.proofs.Common.{Ok}
use Rattle.model.specs.Sector.{card_of}
use Rattle.model.specs.Promises.{Spent}
use Rattle.fat_copy.specs.Copy.{copies}
use Rattle.fat_copy.proofs.copy_fat.Given as goal

abbrev pub invariant-loop-k : goal.invariant-loop-k
invariant-loop-k l = Spent l.initial.limit l.limit (copies (card_of l.initial.w) l.from l.to l.k) l.initial.w l.w (Ok tt)
