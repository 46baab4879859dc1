use mathlib.Core.Path.{◌≡◌}
use Prim.Native.Nat.{◌<◌}
use Rattle.model.specs.Sector.{card_of}
use Rattle.model.specs.Fat.{entry, fat1_of}
use Rattle.fat_chain.specs.Links.{links}
use Rattle.file_read.proofs.follow.Given as goal

abbrev pub invariant-loop-i : goal.invariant-loop-i
invariant-loop-i l = (l.at ≡ links (entry (fat1_of l.l (card_of l.w))) l._i l.k) × (l.at < 65536)
