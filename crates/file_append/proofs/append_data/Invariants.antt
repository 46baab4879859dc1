use mathlib.Core.Path.{◌≡◌}
use lib.ListN.{length}
use Rattle.file_append.proofs.Turns.{Reached}
use Rattle.file_append.proofs.append_data.Given as goal

abbrev pub invariant-loop-q : goal.invariant-loop-q
invariant-loop-q l = (length l.w ≡ length l.initial.w) × Reached l.l l.f l.initial.w l.new l.initial.limit l.limit l.w l.p l.q
