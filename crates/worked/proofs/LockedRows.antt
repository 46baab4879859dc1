-- The rows of a locked file on card K, by computation. That the card is clean is computed once; the rest asks what follows.
use Prim.Native.Nat.{ℕ, ◌≤◌}
use native.Mathlib.Omega.{arith}
use mathlib.Core.Path.{◌≡◌, refl, sym, ap, ◌∙◌}
use mathlib.Core.List.{List, [], ◌∷◌, map}
use lib.ListN.{replicate}
use Rattle.model.specs.Bytes.{Bytes, Span}
use Rattle.model.specs.Sector.{Window}
use Rattle.model.specs.Ground.{Answer, granted}
use Rattle.model.specs.Calendar.{stamp_of, last_second}
use Rattle.model.specs.Volume.{clean}
use Rattle.model.specs.Outcome.{Outcome, Refused, Done}
use Rattle.model.specs.declared.Ground.TheVariants as Ground
use Rattle.operations.specs.Program.{Program}
use Rattle.operations.specs.Calls.{plan}
use Rattle.operations.specs.Calls.{create, append, truncate, delete, rename, replace, create_on, append_on, truncate_on, delete_on, rename_on, replace_on}
use Rattle.operations.specs.Outcome.{outcome, made, left, largest}
use Rattle.operations.specs.Reading.{Filled, read, read_on, list, directory_listing, shown, filled_outcome, buffer_after}
use Rattle.worked.specs.CardK.{route, letter, morning, afternoon, span}
use Rattle.worked.specs.Worked.{volume_k, k4}
use Rattle.worked.specs.Locked.{marked, office, answers, Locked}
use Rattle.worked.proofs.Compute.{compute}
use Rattle.worked.proofs.Flat.{flattened, flattened_same}
use Rattle.worked.proofs.Asked.{create_is, append_is, truncate_is, delete_is, rename_is, replace_is, read_is, list_is}
use Rattle.worked.proofs.Grown.{cut_window, grown_at, grown_is, grown_clean}

abbrev office_from : Window → Window
office_from w = marked (cut_window largest (create_on volume_k w.card (letter 66) (stamp_of afternoon)) w)

abbrev desk : Bytes → Window
desk d = flattened 80 (office_from (grown_at morning afternoon d))

desk_is : (d : Bytes) → office d ≡ desk d
unfolding left plan
desk_is d =
    let h : afternoon ≤ last_second = omega arith in
    ap (λ p. marked (cut_window largest p (k4 d))) (create_is (k4 d) volume_k (grown_clean morning afternoon d) afternoon h (letter 66))
    ∙ ap office_from (grown_is morning afternoon (omega arith) h d) ∙ sym (flattened_same 80 (office_from (grown_at morning afternoon d)))

desk_clean : (d : Bytes) → clean (desk d) ≡ granted volume_k
unfolding compute marked
desk_clean d = refl

-- ---- rows: all at once, so that the window is computed once

record FromDesk : Type 0 where
  locked : List Outcome
  reads : Outcome
  bytes : List ℕ
  lists : Outcome
  creates_on : List ℕ
  appends_on : List ℕ
  exists : List Outcome

abbrev ends_as : List (Answer Program) → List Outcome
ends_as ps = map (λ p. outcome largest p) ps

abbrev sectors : Answer Program → List ℕ
sectors p = map (λ s. s.sector) (made largest p)

-- What is seen of the calls: as they are asked of a window, and as they are computed on a clean one.
abbrev seen : Bytes → (Span → Answer Program) → (Span → Span → Answer Program) → (Span → ℕ → Answer Program) → (Span → Answer Program)
    → (Span → Span → Answer Program) → (Span → Span → Answer Program) → (ℕ → ℕ → Answer Filled) → Answer Filled → FromDesk
seen e creating appending truncating deleting renaming replacing reading listing = record {
  locked = ends_as (
      appending route (span 100 e) ∷ appending route (span 0 e) ∷ truncating route 512 ∷ truncating route 1300 ∷ truncating route 1301 ∷ deleting route
      ∷ renaming route (letter 67) ∷ renaming route (letter 66) ∷ renaming route route ∷ replacing route (span 600 e) ∷ replacing route (span 0 e) ∷ []);
  reads = filled_outcome (reading 0 2000);
  bytes = map (buffer_after (reading 1290 20) (λ i. 7)) (0 ∷ 9 ∷ 10 ∷ []);
  lists = filled_outcome listing;
  creates_on = sectors (creating (letter 67));
  appends_on = sectors (appending (letter 66) (span 100 e));
  exists = ends_as (creating route ∷ renaming (letter 66) route ∷ []);
}

abbrev asked : Bytes → Window → FromDesk
asked e w =
    seen e (λ n. create w n afternoon) (λ n d. append w n d afternoon) (λ n size. truncate w n size afternoon) (delete w) (rename w)
    (λ n d. replace w n d afternoon) (read w route) (list w 64)

abbrev computed : Bytes → Window → FromDesk
computed e w =
    let c = w.card in
    let st = stamp_of afternoon in
    seen e (λ n. create_on volume_k c n st) (λ n d. append_on volume_k c n d st) (λ n size. truncate_on volume_k c n size st) (delete_on volume_k c)
    (rename_on volume_k c) (λ n d. replace_on volume_k c n d st) (read_on volume_k c route)
    (granted (directory_listing volume_k.layout c (shown volume_k.layout c) 64))

same_rows : (e : Bytes) (w : Window) → clean w ≡ granted volume_k → asked e w ≡ computed e w
same_rows e w is =
    let h : afternoon ≤ last_second = omega arith in
    λ t. seen e (λ n. create_is w volume_k is afternoon h n t) (λ n d. append_is w volume_k is afternoon h n d t)
    (λ n size. truncate_is w volume_k is afternoon h n size t) (λ n. delete_is w volume_k is n t) (λ n m. rename_is w volume_k is n m t)
    (λ n d. replace_is w volume_k is afternoon h n d t) (λ offset room. read_is w volume_k is route offset room t) (list_is w volume_k is 64 t)

abbrev rows : Bytes → FromDesk
rows d = record {
  locked = replicate 11 (Refused Ground.Locked);
  reads = Done 1300;
  bytes = d 1290 ∷ d 1299 ∷ 7 ∷ [];
  lists = Done 2;
  creates_on = 68 ∷ 33 ∷ 68 ∷ [];
  appends_on = 76 ∷ 17 ∷ 68 ∷ 1 ∷ 33 ∷ 68 ∷ [];
  exists = replicate 2 (Refused Ground.Exists);
}

computed_rows : (d e : Bytes) → computed e (desk d) ≡ rows d
unfolding compute marked
computed_rows d e = refl

pub locked : (d e : Bytes) → Locked d e
unfolding answers plan
locked d e =
    let all : asked e (office d) ≡ rows d = ap (asked e) (desk_is d) ∙ same_rows e (desk d) (desk_clean d) ∙ computed_rows d e in
    record {
      locked = ap (λ (t : FromDesk). t.locked) all;
      reads = ap (λ (t : FromDesk). t.reads) all;
      bytes = ap (λ (t : FromDesk). t.bytes) all;
      lists = ap (λ (t : FromDesk). t.lists) all;
      creates_on = ap (λ (t : FromDesk). t.creates_on) all;
      appends_on = ap (λ (t : FromDesk). t.appends_on) all;
      exists = ap (λ (t : FromDesk). t.exists) all;
    }
