use mathlib.Core.Path.{◌≡◌}
use Prim.Native.Nat.{ℕ}
use lib.ListN.{get_or}
use Rattle.model.specs.Bytes.{bytes_of, overlay}
use Rattle.model.specs.Sector.{card_of}
use Rattle.model.specs.Root.{slot_at}
use Rattle.model.specs.LongName.{long_byte}
use Rattle.call_read.proofs.copy_characters.Given as goal

abbrev pub invariant-loop-i : goal.invariant-loop-i
invariant-loop-i l = (j : ℕ) → get_or l.out j 0 ≡ overlay l.i (long_byte (slot_at l.l (card_of l.w)) l.s) 0 (bytes_of l.initial.out) j
