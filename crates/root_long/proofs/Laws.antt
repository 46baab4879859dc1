-- Slots that were never used.
use Prim.Native.Nat.{ℕ}
use mathlib.Core.Path.{◌≡◌}
use mathlib.Core.Bool.{true, false}
use lib.Dec.{eqb}
use Rattle.model.specs.Bytes.{Span}
use Rattle.model.specs.Root.{Directory}
use Rattle.model.specs.LongName.{has_text}
use Rattle.model.proofs.Tests.{every_not}
use Rattle.root_read.proofs.Laws.{blank_unlisted}

-- A slot that was never used has no long name that is sought.
pub blank_textless : (t : Span) (d : Directory) (k : ℕ) → eqb (d k 0) 0 ≡ true → has_text t d k ≡ false
unfolding has_text
blank_textless t d k e = every_not _ 0 (blank_unlisted (d k) e)
