use mathlib.Core.Path.{◌≡◌}
use Rattle.model.specs.Sector.{card_of}
use Rattle.model.specs.Fat.{fat1_of, entry}
use Rattle.model.specs.Chain.{ends_after}
use Rattle.fat_chain.proofs.ends.Given as goal

abbrev pub invariant-loop-left : goal.invariant-loop-left
invariant-loop-left l = ends_after l.l (entry (fat1_of l.l (card_of l.w))) l.n l.first ≡ ends_after l.l (entry (fat1_of l.l (card_of l.w))) l.left l.k

abbrev pub decreases-loop-left : goal.decreases-loop-left
decreases-loop-left l = l.left
