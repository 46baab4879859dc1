-- A file marked read-only, on the card of `Small`: what each call answers. Rows that refuse wrong definitions.
use Prim.Native.Nat.{ℕ, ◌%◌}
use mathlib.Core.Path.{◌≡◌, refl}
use mathlib.Core.List.{List, [], ◌∷◌, map}
use lib.Dec.{ltb, eqb}
use lib.ListN.{replicate}
use Rattle.model.specs.Bytes.{Bytes, Span, pick, patch}
use Rattle.model.specs.Sector.{Card, store, put, after}
use Rattle.model.specs.Ground.{Answer}
use Rattle.model.specs.Outcome.{Outcome, Refused, Done}
use Rattle.model.specs.declared.Ground.TheVariants as Ground
use Rattle.operations.specs.Program.{Program, stores}
use Rattle.operations.specs.Plan.{no_text, create_stores}
use Rattle.operations.specs.Calls.{create_on, append_on, replace_on, truncate_on, delete_on, rename_on}
use Rattle.operations.specs.Outcome.{outcome, largest}
use Rattle.operations.specs.Reading.{read_on, filled_outcome}
use Rattle.operations.proofs.Small.{v, blank, two, span, appended}
use Rattle.operations.proofs.Compute.{compute}

-- The names A, B and C, as a caller gives them.
abbrev letter : ℕ → Span
letter b = span 11 (λ i. pick (eqb i 0) b 32)

abbrev a : Span
a = letter 65

abbrev b : Span
b = letter 66

-- A has 600 bytes in slot 0, B none in slot 1; the attributes of A are x.
abbrev both : Bytes → Card
both d = after (stores (create_stores v (appended d) 1 two no_text 0)) (appended d)

abbrev with : ℕ → Bytes → Card
with x d = put (both d) (store 3 (patch 1 x 11 (both d 3)))

abbrev answer : Answer Program → Outcome
answer p = outcome largest p

-- Each of the five calls is refused, with bytes and without; before EXISTS and LENGTH would be. (The card is an argument, so that it is
-- computed once.)
abbrev changes : Bytes → Card → List (Answer Program)
changes e c =
    append_on v c a (span 100 e) 0 ∷ append_on v c a (span 0 e) 0 ∷ truncate_on v c a 512 0 ∷ truncate_on v c a 600 0 ∷ truncate_on v c a 601 0
    ∷ delete_on v c a
    ∷ rename_on v c a (letter 67) ∷ rename_on v c a b ∷ rename_on v c a a ∷ replace_on v c a (span 700 e) 0 ∷ replace_on v c a (span 0 e) 0 ∷ []

locked_row : (d e : Bytes) → map answer (changes e (with 0x21 d)) ≡ replicate 11 (Refused Ground.Locked)
unfolding compute
locked_row d e = refl

-- And before ROOTFULL: A has no bytes, and the fifteen slots after its own are in use.
abbrev full : ℕ → Card
full x = put blank (store 3 (λ j. pick (eqb (j % 32) 0) (pick (ltb j 32) 65 90) (pick (ltb j 11) 32 (pick (eqb j 11) x 0))))

full_row : map (λ x. answer (rename_on v (full x) a (letter 67))) (0x21 ∷ 0x20 ∷ []) ≡ Refused Ground.Locked ∷ Refused Ground.Rootfull ∷ []
unfolding compute
full_row = refl

-- Of a directory the mark is not asked.
directory_row : (d : Bytes) → answer (delete_on v (with 0x11 d) a) ≡ Refused Ground.Directory
unfolding compute
directory_row d = refl

-- Read does not ask it, nor does create; another file is changed, and renamed onto the locked one's name it is EXISTS.
abbrev goes_on : Bytes → Card → List Outcome
goes_on e c = filled_outcome (read_on v c a 0 700) ∷ map answer (create_on v c (letter 67) 0 ∷ append_on v c b (span 0 e) 0 ∷ rename_on v c b a ∷ [])

open_row : (d e : Bytes) → goes_on e (with 0x21 d) ≡ Done 600 ∷ Done 3 ∷ Done 0 ∷ Refused Ground.Exists ∷ []
unfolding compute
open_row d e = refl

-- Without the mark nothing is refused, whatever the bits beside it are: a truncate to the present size is done.
unlocked_row : (d : Bytes) → answer (truncate_on v (with 0x26 d) a 600 0) ≡ Done 0
unfolding compute
unlocked_row d = refl
