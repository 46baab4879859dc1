use Rattle.std.proofs.Common.{Ok}
use Rattle.model.specs.Bytes.{bytes_of}
use Rattle.model.specs.Sector.{card_of}
use Rattle.model.specs.Record.{with_text}
use Rattle.model.specs.Promises.{Spent, up_to}
use Rattle.root_write.specs.Slots.{root_turn}
use Rattle.root_write.proofs.store_root.Given as goal

abbrev pub invariant-loop-r : goal.invariant-loop-r
invariant-loop-r l =
    Spent l.initial.limit l.limit (up_to (root_turn l.l (with_text l.o (bytes_of l.text)) (card_of l.initial.w)) l.r) l.initial.w l.w (Ok (tt {0}))
