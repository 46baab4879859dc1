-- The worked example, proved by computation over the definitions.
use Prim.Native.Nat.{ℕ, ◌≤◌}
use native.Mathlib.Omega.{arith}
use mathlib.Core.Path.{◌≡◌, refl, sym, ap, ◌∙◌}
use mathlib.Core.List.{List, ◌∷◌, [], map}
use lib.ListN.{get_or, replicate}
use Rattle.model.specs.Bytes.{Bytes, zeros}
use Rattle.model.specs.Sector.{Window, store}
use Rattle.model.specs.Boot.{layout}
use Rattle.model.specs.Calendar.{stamp_of, last_second}
use Rattle.model.specs.Ground.{Answer, refused, granted}
use Rattle.model.specs.Volume.{clean, mount}
use Rattle.model.specs.Text.{ascii}
use Rattle.model.specs.Listing.{log_text}
use Rattle.model.specs.Root.{slot_at, file_size}
use Rattle.model.specs.Outcome.{Done, Stopped}
use Rattle.model.specs.declared.Ground.TheVariants as Ground
use Rattle.operations.specs.Program.{Program}
use Rattle.operations.specs.Calls.{creates, appends, truncates, deletes, renames, recovers, plan, append_on, rename_on, truncate_on}
use Rattle.operations.specs.Outcome.{made, left, largest}
use Rattle.worked.specs.CardK.{k, window_k, route, letter, morning, afternoon, span, row_of, trace, trace_on, file}
use Rattle.worked.specs.Worked.{Worked, volume_k, calls, rows, k3, m4, k4, tail_of, CutRow, cut_row, dates_in, stretched, large}
use Rattle.worked.proofs.Compute.{compute}
use Rattle.worked.proofs.Flat.{flat, trace_flat, flattened, flattened_same}
use Rattle.worked.proofs.Asked.{append_is, truncate_is, rename_is}
use Rattle.worked.proofs.Instance.{first_row}
use Rattle.worked.proofs.Grown.{cut_window, created, new_at, is_created, new_is, growing, is_growing, grown_clean}

history_flat : (d e : Bytes) → trace_on row_of (flat 80) (calls d e) k ≡ rows
unfolding compute
history_flat d e = refl

-- ---- the rows that begin with the windows after M3 and after M4, all at once, so that each of the two is computed once

record Slot : Type 0 where
  size : ℕ
  dates : List ℕ

record From4 : Type 0 where
  cut_7 : CutRow
  renamed : Slot
  short : Answer Program
  longer : Answer Program

record From3 : Type 0 where
  zeros_4 : List ℕ
  cut_4 : CutRow
  cut_5 : CutRow
  later : From4

abbrev slot_of : Bytes → Slot
slot_of b = record { size = file_size b; dates = dates_in b }

-- Of the window, an append, a rename and a truncate on it.
abbrev seen_4 : Window → Answer Program → Answer Program → Answer Program → From4
seen_4 w appending renaming shortening = record {
  cut_7 = cut_row 2 appending w;
  renamed = slot_of (slot_at volume_k.layout (left largest recovers (cut_window 2 renaming w)).card 1);
  short = plan (deletes route) (stretched w);
  longer = shortening;
}

abbrev asked_4 : Bytes → Window → From4
asked_4 e w = seen_4 w (plan (appends route (span 100 e) afternoon) w) (plan (renames route (letter 66)) w) (plan (truncates route 1301 afternoon) w)

abbrev computed_4 : Bytes → Window → From4
computed_4 e w =
    let st = stamp_of afternoon in
    seen_4 w (append_on volume_k w.card route (span 100 e) st) (rename_on volume_k w.card route (letter 66))
    (truncate_on volume_k w.card route 1301 st)

same_4 : (e : Bytes) (w : Window) → clean w ≡ granted volume_k → asked_4 e w ≡ computed_4 e w
unfolding plan
same_4 e w is =
    let h : afternoon ≤ last_second = omega arith in
    λ t. seen_4 w (append_is w volume_k is afternoon h route (span 100 e) t) (rename_is w volume_k is route (letter 66) t)
    (truncate_is w volume_k is afternoon h route 1301 t)

-- Of the window, M4's call and what is seen later.
abbrev seen_3 : Window → Answer Program → From4 → From3
seen_3 w p later = record { zeros_4 = tail_of (made largest p) 2 275; cut_4 = cut_row 4 p w; cut_5 = cut_row 5 p w; later = later }

abbrev from_plan : Bytes → Window → Answer Program → From3
from_plan e w p = seen_3 w p (computed_4 e (flattened 80 (cut_window largest p w)))

abbrev from_3 : Bytes → Bytes → Window → From3
from_3 d e w = from_plan e w (growing afternoon d w)

abbrev rows_3 : Bytes → From3
rows_3 d = record {
  zeros_4 = d 1299 ∷ replicate 236 0;
  cut_4 = record { cut = Stopped 4; stored = 17 ∷ []; recovered = Done 1; file_then = file 0 [] };
  cut_5 = record { cut = Stopped 5; stored = 1 ∷ 33 ∷ 66 ∷ []; recovered = Done 3; file_then = file 1300 (10 ∷ 11 ∷ 12 ∷ []) };
  later = record {
    cut_7 = record { cut = Stopped 2; stored = 33 ∷ 67 ∷ []; recovered = Done 2; file_then = file 1400 (10 ∷ 11 ∷ 12 ∷ []) };
    renamed = record { size = 1300; dates = 0 ∷ 0xEF ∷ 0x51 ∷ 0x71 ∷ 0x5D ∷ 0x71 ∷ 0x5D ∷ 0 ∷ 0 ∷ 0x03 ∷ 0x85 ∷ 0x71 ∷ 0x5D ∷ [] };
    short = refused Ground.Chain;
    longer = refused Ground.Length;
  };
}

computed_rows : (d e : Bytes) → from_3 d e (new_at morning) ≡ rows_3 d
unfolding compute
computed_rows d e = refl

shared : (d e : Bytes) → seen_3 k3 (plan (m4 d) k3) (asked_4 e (k4 d)) ≡ rows_3 d
unfolding left
shared d e =
    let h : morning ≤ last_second = omega arith in
    let g : afternoon ≤ last_second = omega arith in
    ap (seen_3 k3 (plan (m4 d) k3)) (same_4 e (k4 d) (grown_clean morning afternoon d) ∙ ap (computed_4 e) (sym (flattened_same 80 (k4 d))))
    ∙ ap (from_plan e k3) (is_growing morning afternoon g d) ∙ ap (from_3 d e) (new_is morning h) ∙ computed_rows d e

second_row : clean (window_k 4149) ≡ refused Ground.Boot
unfolding compute
second_row = refl

largest_row : (mount (large 65524) ≡ granted (layout ((large 65524).card 0))) × ((layout ((large 65524).card 0)).clusters ≡ 65524)
unfolding compute
largest_row = (refl, refl)

too_large_row : (mount (large 65525) ≡ refused Ground.Boot) × ((layout ((large 65525).card 0)).clusters ≡ 65525)
unfolding compute
too_large_row = (refl, refl)

-- The listings of the first and the third store of M3.
abbrev listings : Answer Program → List (List ℕ)
listings p = map (λ i. log_text (span 512 (get_or (made largest p) i (store 0 zeros)).bytes)) (0 ∷ 2 ∷ [])

abbrev pending_text : List ℕ
pending_text = ascii "log 1 sectors\n0 0 create pending ROUTE.CUT slot 0 first 0 from 0 size 0\n0 1 part pending T???????.??? slot 0 first 0 from 0 size 0\n"

abbrev committed_text : List ℕ
committed_text =
    ascii "log 1 sectors\n0 0 create committed ?OUTE.CUT slot 0 first 0 from 0 size 0\n0 1 part committed ????????.??? slot 0 first 0 from 0 size 0\n"

listing_computed : listings (created morning) ≡ pending_text ∷ committed_text ∷ []
unfolding compute
listing_computed = refl

listing_rows : listings (plan (creates route morning) k) ≡ pending_text ∷ committed_text ∷ []
listing_rows = ap listings (is_created morning (omega arith)) ∙ listing_computed

pub worked : (d e : Bytes) → Worked d e
unfolding left trace
worked d e = record {
  m1 = first_row;
  m2 = second_row;
  history = trace_flat row_of 80 (calls d e) k ∙ history_flat d e;
  m4_zeros = ap (λ (t : From3). t.zeros_4) (shared d e);
  m5 = ap (λ (t : From3). t.cut_4) (shared d e);
  m6 = ap (λ (t : From3). t.cut_5) (shared d e);
  m7_cut = ap (λ (t : From3). t.later.cut_7) (shared d e);
  rename_cut = ap (λ (t : From3). t.later.renamed.size) (shared d e);
  rename_dates = ap (λ (t : From3). t.later.renamed.dates) (shared d e);
  short_chain = ap (λ (t : From3). t.later.short) (shared d e);
  largest_card = largest_row;
  too_large = too_large_row;
  longer = ap (λ (t : From3). t.later.longer) (shared d e);
  listing = ap (λ ts. get_or ts 0 []) listing_rows;
  listing_then = ap (λ ts. get_or ts 1 []) listing_rows;
}
