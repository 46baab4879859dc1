-- A file marked read-only on card K, worked out by hand: after M4, in which ROUTE.CUT has 1,300 bytes in slot 0, and a create of B, which
-- takes slot 1. Then an office machine sets bit 0x01 of ROUTE.CUT's attributes, at 11 in root sector 33: 0x20 becomes 0x21. The bytes are
-- arbitrary.
use Rattle.std.specs.Prelude.{◌≡◌, List, [], ◌∷◌, map, replicate}
use Rattle.model.specs.Bytes.{Bytes, patch}
use Rattle.model.specs.Sector.{Window, store, put}
use Rattle.model.specs.Outcome.{Outcome, Refused, Done}
use Rattle.model.specs.declared.Ground.TheVariants as Ground
use Rattle.operations.specs.Calls.{Call, creates, appends, truncates, deletes, renames, replaces, plan}
use Rattle.operations.specs.Outcome.{outcome, made, left, largest}
use Rattle.operations.specs.Reading.{read, list, filled_outcome, buffer_after}
use Rattle.worked.specs.CardK.{route, letter, afternoon, span}
use Rattle.worked.specs.Worked.{k4}

unfoldable pub marked : Window → Window
marked w = record { size = w.size; card = put w.card (store 33 (patch 1 0x21 11 (w.card 33))) }

abbrev pub office : Bytes → Window
office d = marked (left largest (creates (letter 66) afternoon) (k4 d))

-- Each of the five calls on ROUTE.CUT: also with no bytes, to the present size and to one above it, onto a name that is taken, onto its own.
abbrev pub refusals : Bytes → List Call
refusals e =
    appends route (span 100 e) afternoon ∷ appends route (span 0 e) afternoon ∷ truncates route 512 afternoon ∷ truncates route 1300 afternoon
    ∷ truncates route 1301 afternoon ∷ deletes route ∷ renames route (letter 67) ∷ renames route (letter 66) ∷ renames route route
    ∷ replaces route (span 600 e) afternoon ∷ replaces route (span 0 e) afternoon ∷ []

unfoldable pub answers : List Call → Window → List Outcome
answers ks w = map (λ k. outcome largest (plan k w)) ks

pub record Locked (d e : Bytes) : Type 0 where
  pub locked : answers (refusals e) (office d) ≡ replicate 11 (Refused Ground.Locked)
  -- Read and list go on: 1,300 bytes, of which these; two entries.
  pub reads : filled_outcome (read (office d) route 0 2000) ≡ Done 1300
  pub bytes : map (buffer_after (read (office d) route 1290 20) (λ i. 7)) (0 ∷ 9 ∷ 10 ∷ []) ≡ d 1290 ∷ d 1299 ∷ 7 ∷ []
  pub lists : filled_outcome (list (office d) 64) ≡ Done 2
  -- Create of another name goes on, with the next log sector: group, root, commit. So does an append to B; renamed onto ROUTE.CUT it is EXISTS.
  pub creates_on : map (λ s. s.sector) (made largest (plan (creates (letter 67) afternoon) (office d))) ≡ 68 ∷ 33 ∷ 68 ∷ []
  pub appends_on : map (λ s. s.sector) (made largest (plan (appends (letter 66) (span 100 e) afternoon) (office d)))
      ≡ 76 ∷ 17 ∷ 68 ∷ 1 ∷ 33 ∷ 68 ∷ []
  pub exists : answers (creates route afternoon ∷ renames (letter 66) route ∷ []) (office d) ≡ replicate 2 (Refused Ground.Exists)
