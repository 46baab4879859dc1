use Rattle.fat_release.proofs.Laws.{Eight}
use Rattle.fat_release.proofs.clear_eight.Given as goal

abbrev pub invariant-loop-i : goal.invariant-loop-i
invariant-loop-i l = Eight l.initial.buf l.k l.m l.i l.buf
