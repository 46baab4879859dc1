-- Whether bytes fit, on the card of `Small`, whose FAT sector has entries past those of its clusters: rows that refuse wrong definitions.
use Prim.Native.Nat.{ℕ}
use mathlib.Core.Path.{◌≡◌, refl}
use mathlib.Core.List.{List, [], ◌∷◌, map}
use mathlib.Core.Bool.{◌||◌}
use lib.Dec.{ltb, leb, eqb}
use Rattle.model.specs.Bytes.{Bytes, pick}
use Rattle.model.specs.Sector.{Card, store, put}
use Rattle.model.specs.Ground.{granted}
use Rattle.model.specs.Outcome.{Outcome, Done, No}
use Rattle.operations.specs.Fitting.{fits_on, fit_outcome}
use Rattle.operations.proofs.Small.{v, blank, appended}
use Rattle.operations.proofs.Compute.{compute}

abbrev asked : List ℕ → Card → List Outcome
asked ns c = map (λ n. fit_outcome (granted (fits_on v c n))) ns

-- Clusters 4 to 9 are free, of 512 bytes each: 3,072 bytes fit, and no more.
blank_row : asked (0 ∷ 1 ∷ 512 ∷ 513 ∷ 3072 ∷ 3073 ∷ 18446744073709551615 ∷ []) blank
    ≡ Done 0 ∷ Done 4 ∷ Done 4 ∷ Done 5 ∷ Done 9 ∷ No ∷ No ∷ []
unfolding compute
blank_row = refl

-- A file has 4 and 5.
appended_row : (d : Bytes) → asked (0 ∷ 512 ∷ 513 ∷ 2048 ∷ 2049 ∷ []) (appended d) ≡ Done 0 ∷ Done 6 ∷ Done 7 ∷ Done 9 ∷ No ∷ []
unfolding compute
appended_row d = refl

-- Clusters 5 and 8 alone are free: the entries of the others hold an end value, those past cluster 9 are 0.
abbrev holes : Card
holes = put blank (store 1 (λ j. pick (ltb j 20) (pick (eqb j 10 || eqb j 11 || eqb j 16 || eqb j 17) 0 0xFF) 0))

holes_row : asked (1 ∷ 512 ∷ 513 ∷ 1024 ∷ 1025 ∷ []) holes ≡ Done 5 ∷ Done 5 ∷ Done 8 ∷ Done 8 ∷ No ∷ []
unfolding compute
holes_row = refl

-- None is free: no bytes fit, one does not.
abbrev full : Card
full = put blank (store 1 (λ j. pick (leb 4 j) (pick (ltb j 20) 0xFF 0) 0))

full_row : asked (0 ∷ 1 ∷ []) full ≡ Done 0 ∷ No ∷ []
unfolding compute
full_row = refl
