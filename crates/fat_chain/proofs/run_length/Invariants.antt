use Prim.Native.Nat.{◌+◌, ◌≤◌}
use Rattle.model.specs.Sector.{card_of}
use Rattle.model.specs.Fat.{entry, fat1_of}
use Rattle.fat_chain.specs.Links.{Adjacent}
use Rattle.fat_chain.proofs.run_length.Given as goal

abbrev pub invariant-loop-m : goal.invariant-loop-m
invariant-loop-m l = Adjacent (entry (fat1_of l.l (card_of l.w))) l.k l.m × (l.k + l.m ≤ 65536)
