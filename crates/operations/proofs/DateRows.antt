-- The dates that each operation sets, on the small card of `Small`, by computation: bytes 13 to 25 of slot 0. The numbers are worked out by
-- hand. The edits in must-fail are refused here.
use Prim.Native.Nat.{ℕ, ◌+◌, ◌*◌}
use mathlib.Core.Path.{◌≡◌, refl}
use mathlib.Core.List.{List, [], ◌∷◌, ◌++◌, map}
use lib.ListN.{replicate}
use Rattle.model.specs.Bytes.{Bytes, patch}
use Rattle.model.specs.Scan.{range}
use Rattle.model.specs.Sector.{Card, store, put, after}
use Rattle.model.specs.Root.{slot_at}
use Rattle.operations.specs.Program.{stores}
use Rattle.operations.proofs.Small.{l, blank, creation, created, appending, appended, shortening, renaming, replacing, cut, recovered}
use Rattle.operations.proofs.Compute.{compute}

-- Tenths, creation time and date, access date, the high word, write time and date.
abbrev dates : ℕ → Card → List ℕ
dates s c = map (slot_at l c s) (range 13 13)

-- The four bytes of stamp i, and its date's two. A slot whose creation is stamp i and whose last change is stamp k.
abbrev four : ℕ → List ℕ
four i = range (10 * i + 1) 4

abbrev date : ℕ → List ℕ
date i = range (10 * i + 3) 2

abbrev dated : ℕ → ℕ → List ℕ
dated i k = 0 ∷ four i ++ (date k ++ (0 ∷ 0 ∷ four k))

-- A new file has all of them from one stamp; append, truncate and replace set write and access.
created_row : dates 0 created ≡ 0 ∷ 1 ∷ 2 ∷ 3 ∷ 4 ∷ 3 ∷ 4 ∷ 0 ∷ 0 ∷ 1 ∷ 2 ∷ 3 ∷ 4 ∷ []
unfolding compute
created_row = refl

set_row : (d e : Bytes) → dates 0 (appended d) ∷ map (λ p. dates 0 (after (stores p) (appended d))) (shortening d ∷ replacing d 700 e ∷ [])
    ≡ dated 0 1 ∷ dated 0 2 ∷ dated 0 2 ∷ []
unfolding compute
set_row d e = refl

-- A rename sets none: the new slot has those of the old.
kept_row : (d : Bytes) → dates 1 (after (stores (renaming d)) (appended d)) ≡ dated 0 1
unfolding compute
kept_row d = refl

-- Cut at its group's store and recovered, an append has set its own.
cut_row : (d : Bytes) → dates 0 (recovered (cut 4 (appending d) created)) ≡ dated 0 1
unfolding compute
cut_row d = refl

-- A crafted stamp that is no date is given all the same.
abbrev crafted : Card
crafted = let c = cut 1 creation blank in put c (store 4 (patch 4 0xFFFFFFFF 46 (c 4)))

crafted_row : dates 0 (recovered crafted) ≡ 0 ∷ replicate 6 0xFF ++ (0 ∷ 0 ∷ replicate 4 0xFF)
unfolding compute
crafted_row = refl
