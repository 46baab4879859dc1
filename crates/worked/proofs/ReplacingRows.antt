-- The rows of replace on card K, by computation; those that begin after M4 all at once, so that its window is computed once.
use Prim.Native.Nat.{ℕ, ◌≤◌}
use native.Mathlib.Omega.{arith}
use mathlib.Core.Path.{◌≡◌, refl, ap, ◌∙◌}
use mathlib.Core.List.{List, [], ◌∷◌, map}
use Rattle.model.specs.Bytes.{Bytes}
use Rattle.model.specs.Scan.{range}
use Rattle.model.specs.Sector.{Window, after}
use Rattle.model.specs.Fat.{entry, fat1_of}
use Rattle.model.specs.Calendar.{stamp_of, last_second}
use Rattle.model.specs.Ground.{Answer}
use Rattle.model.specs.Text.{ascii}
use Rattle.model.specs.Listing.{log_text}
use Rattle.model.specs.Outcome.{Done, Stopped}
use Rattle.operations.specs.Program.{Program}
use Rattle.operations.specs.Calls.{plan, replace_on}
use Rattle.operations.specs.Outcome.{made, left, largest}
use Rattle.worked.specs.CardK.{k, route, morning, afternoon, span, row_of, trace, trace_on, file}
use Rattle.worked.specs.Worked.{volume_k, k4, CutRow, cut_row}
use Rattle.worked.specs.Replacing.{replacements, replacement_rows, by_600, group_bytes, Replacing}
use Rattle.worked.proofs.Compute.{compute}
use Rattle.worked.proofs.Flat.{flat, trace_flat}
use Rattle.worked.proofs.Asked.{replace_is}
use Rattle.worked.proofs.Grown.{grown_at, grown_is, grown_clean}

history_flat : (d e : Bytes) → trace_on row_of (flat 80) (replacements d e) k ≡ replacement_rows
unfolding compute
history_flat d e = refl

record From4 : Type 0 where
  entries : List ℕ
  cut_4 : CutRow
  cut_3 : CutRow
  listing : List ℕ

abbrev from_plan : Window → Answer Program → From4
from_plan w p = record {
  entries = map (entry (fat1_of volume_k.layout (after (made largest p) w.card))) (range 10 6);
  cut_4 = cut_row 4 p w;
  cut_3 = cut_row 3 p w;
  listing = log_text (span 512 (group_bytes (made largest p)));
}

abbrev from_4 : Bytes → Window → From4
from_4 e w = from_plan w (replace_on volume_k w.card route (span 600 e) (stamp_of afternoon))

abbrev rows_4 : From4
rows_4 = record {
  entries = 0 ∷ 0 ∷ 0 ∷ 14 ∷ 0xFFFF ∷ 0 ∷ [];
  cut_4 = record { cut = Stopped 4; stored = 1 ∷ 33 ∷ 67 ∷ []; recovered = Done 3; file_then = file 600 (13 ∷ 14 ∷ []) };
  cut_3 = record { cut = Stopped 3; stored = 17 ∷ []; recovered = Done 1; file_then = file 1300 (10 ∷ 11 ∷ 12 ∷ []) };
  listing = ascii "log 1 sectors\n0 0 replace pending ROUTE.CUT slot 0 first 10 from 13 size 600\n0 1 part pending T???????.??? slot 0 first 0 from 0 size 0\n";
}

computed_rows : (d e : Bytes) → from_4 e (grown_at morning afternoon d) ≡ rows_4
unfolding compute
computed_rows d e = refl

shared : (d e : Bytes) → from_plan (k4 d) (plan (by_600 e) (k4 d)) ≡ rows_4
unfolding plan
shared d e =
    let h : afternoon ≤ last_second = omega arith in
    ap (from_plan (k4 d)) (replace_is (k4 d) volume_k (grown_clean morning afternoon d) afternoon h route (span 600 e))
    ∙ ap (from_4 e) (grown_is morning afternoon (omega arith) h d) ∙ computed_rows d e

pub replacing : (d e : Bytes) → Replacing d e
unfolding left trace
replacing d e = record {
  history = trace_flat row_of 80 (replacements d e) k ∙ history_flat d e;
  entries = ap (λ (t : From4). t.entries) (shared d e);
  cut_4 = ap (λ (t : From4). t.cut_4) (shared d e);
  cut_3 = ap (λ (t : From4). t.cut_3) (shared d e);
  listing = ap (λ (t : From4). t.listing) (shared d e);
}
