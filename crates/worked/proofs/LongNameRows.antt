-- The rows of a long name on card K, by computation. That the card is clean is computed once; the rest asks what follows.
use Prim.Native.Nat.{ℕ}
use native.Mathlib.Omega.{arith}
use mathlib.Core.Path.{◌≡◌, refl, sym, ap, ◌∙◌}
use mathlib.Core.List.{List, [], ◌∷◌}
use Rattle.model.specs.Bytes.{Bytes}
use Rattle.model.specs.Sector.{Window}
use Rattle.model.specs.Ground.{Answer, granted}
use Rattle.model.specs.Volume.{clean}
use Rattle.model.specs.Text.{ascii}
use Rattle.operations.specs.Program.{Program}
use Rattle.operations.specs.Calls.{plan, deletes, renames, delete_on, rename_on}
use Rattle.worked.specs.CardK.{route, letter, morning, afternoon}
use Rattle.worked.specs.Worked.{volume_k}
use Rattle.worked.specs.LongNames.{long_entry, renamed_in_office, named, Marks, marks_of, recovered_marks, listed_group, LongNames}
use Rattle.worked.proofs.Compute.{compute}
use Rattle.worked.proofs.Flat.{flattened, flattened_same}
use Rattle.worked.proofs.Asked.{delete_is, rename_is}
use Rattle.worked.proofs.Grown.{grown_at, grown_is}

abbrev desk : Bytes → Window
desk d = flattened 80 (renamed_in_office (grown_at morning afternoon d))

desk_is : (d : Bytes) → named d ≡ desk d
desk_is d =
    ap renamed_in_office (grown_is morning afternoon (omega arith) (omega arith) d) ∙ sym (flattened_same 80 (renamed_in_office (grown_at morning afternoon d)))

desk_clean : (d : Bytes) → clean (desk d) ≡ granted volume_k
unfolding compute long_entry renamed_in_office
desk_clean d = refl

-- ---- rows: all at once, so that the window is computed once

record FromDesk : Type 0 where
  deleted : Marks
  renamed : Marks
  cut_0 : Marks
  cut_1 : Marks
  cut_2 : Marks
  listing : List ℕ

-- What is seen of the two calls on a window: as they are asked of it, and as they are computed on a clean one.
abbrev seen : Window → Answer Program → Answer Program → FromDesk
seen w deletion renaming = record {
  deleted = marks_of deletion w.card;
  renamed = marks_of renaming w.card;
  cut_0 = recovered_marks 0 renaming w;
  cut_1 = recovered_marks 1 renaming w;
  cut_2 = recovered_marks 2 renaming w;
  listing = listed_group 0 renaming;
}

abbrev asked : Window → FromDesk
asked w = seen w (plan (deletes route) w) (plan (renames route (letter 66)) w)

abbrev computed : Window → FromDesk
computed w = seen w (delete_on volume_k w.card route) (rename_on volume_k w.card route (letter 66))

same_rows : (w : Window) → clean w ≡ granted volume_k → asked w ≡ computed w
unfolding plan
same_rows w is = λ t. seen w (delete_is w volume_k is route t) (rename_is w volume_k is route (letter 66) t)

abbrev rows : FromDesk
rows = record {
  deleted = record { stored = 17 ∷ 67 ∷ 1 ∷ 33 ∷ 34 ∷ 67 ∷ []; begins = 0xE5 ∷ 0xE5 ∷ 0xE5 ∷ 0xE5 ∷ 0xE5 ∷ 0 ∷ [] };
  renamed = record { stored = 67 ∷ 33 ∷ 34 ∷ 67 ∷ []; begins = 66 ∷ 0xE5 ∷ 0xE5 ∷ 0xE5 ∷ 0xE5 ∷ 0 ∷ [] };
  cut_0 = record { stored = []; begins = 0xE5 ∷ 0xE5 ∷ 0x42 ∷ 1 ∷ 82 ∷ 0 ∷ [] };
  cut_1 = record { stored = 33 ∷ 34 ∷ 67 ∷ []; begins = 66 ∷ 0xE5 ∷ 0xE5 ∷ 0xE5 ∷ 0xE5 ∷ 0 ∷ [] };
  cut_2 = record { stored = 33 ∷ 34 ∷ 67 ∷ []; begins = 66 ∷ 0xE5 ∷ 0xE5 ∷ 0xE5 ∷ 0xE5 ∷ 0 ∷ [] };
  listing =
      ascii "log 1 sectors\n0 0 rename pending ROUTE.CUT slot 17 first 10 from 0 size 1300\n0 1 part pending B slot 0 first 10 from 0 size 1300\n";
}

computed_rows : (d : Bytes) → computed (desk d) ≡ rows
unfolding compute long_entry renamed_in_office marks_of recovered_marks
computed_rows d = refl

pub long_names : (d : Bytes) → LongNames d
long_names d =
    let all : asked (named d) ≡ rows = ap asked (desk_is d) ∙ same_rows (desk d) (desk_clean d) ∙ computed_rows d in
    record {
      deleted = ap (λ (t : FromDesk). t.deleted) all;
      renamed = ap (λ (t : FromDesk). t.renamed) all;
      cut_0 = ap (λ (t : FromDesk). t.cut_0) all;
      cut_1 = ap (λ (t : FromDesk). t.cut_1) all;
      cut_2 = ap (λ (t : FromDesk). t.cut_2) all;
      listing = ap (λ (t : FromDesk). t.listing) all;
    }
