-- The rows of dates on card K, by computation. That a card is clean is known already; the rest asks what follows.
use Prim.Native.Nat.{ℕ, ◌≤◌, ◌<◌}
use native.Mathlib.Omega.{arith}
use mathlib.Core.Path.{◌≡◌, refl, ap, ◌∙◌}
use mathlib.Core.List.{List, [], ◌∷◌, ◌++◌, map}
use lib.ListN.{replicate}
use Rattle.model.specs.Bytes.{Bytes, view}
use Rattle.model.specs.Sector.{Card, Window}
use Rattle.model.specs.Calendar.{stamp_of, last_second}
use Rattle.model.specs.Ground.{Answer, refused, granted}
use Rattle.model.specs.Volume.{clean}
use Rattle.model.specs.Outcome.{Outcome, Refused, Done}
use Rattle.model.specs.declared.Ground.TheVariants as Ground
use Rattle.operations.specs.Program.{Program}
use Rattle.operations.specs.Calls.{creates, appends, truncates, recovers, plan}
use Rattle.operations.specs.Calls.{create_on, create_long_on, append_on, replace_on, truncate_on}
use Rattle.operations.specs.Outcome.{outcome, left, largest, outcome_number}
use Rattle.operations.proofs.Clock.{create_late, long_late, append_late, truncate_late, replace_late}
use Rattle.worked.specs.CardK.{k, route, letter, span, trace_on}
use Rattle.worked.specs.Worked.{volume_k}
use Rattle.worked.specs.Locked.{answers}
use Rattle.worked.specs.Spelling.{letters}
use Rattle.worked.specs.Dates.{leap_eve, leap_day, common_eve, timely, late}
use Rattle.worked.specs.Dates.{DateRow, date_row, date_row_of, date_row_after, date_row_recovered, changes, change_rows}
use Rattle.worked.specs.Dates.{new, longer, at_first, at_last, as_route, free, k_new, k_longer, words, clocked, misnamed, unstamped}
use Rattle.worked.specs.Dates.{LongRow, long_row_of, long_row_after, long_row_recovered, long_call, stamp_part, Dated}
use Rattle.worked.proofs.Compute.{compute}
use Rattle.worked.proofs.Flat.{flat, trace_flat}
use Rattle.worked.proofs.Asked.{create_is, create_long_is, append_is, truncate_is, replace_is}
use Rattle.worked.proofs.Asked.{create_refused, create_long_refused, append_refused, truncate_refused, replace_refused}
use Rattle.worked.proofs.Instance.{first_row}
use Rattle.worked.proofs.Grown.{cut_window, created, is_created, new_at, new_is, growing, is_growing, grown_at, grown_is, grown_clean}

history_flat : (d e : Bytes) → trace_on date_row_of (flat 80) (changes d e) k ≡ change_rows
unfolding compute date_row_of
history_flat d e = refl

-- ---- creates on card K

even_row : date_row_after (created 636249598) k.card ≡ date_row (65 ∷ 33 ∷ 65 ∷ []) (as_route 82 new) free
unfolding compute date_row_of date_row_after
even_row = refl

earliest_row : date_row_after (created 0) k.card ≡ date_row (65 ∷ 33 ∷ 65 ∷ []) (as_route 82 at_first) free
unfolding compute date_row_of date_row_after
earliest_row = refl

latest_row : date_row_after (created timely) k.card ≡ date_row (65 ∷ 33 ∷ 65 ∷ []) (as_route 82 at_last) free
unfolding compute date_row_of date_row_after
latest_row = refl

latest_is : date_row_after (plan (creates route timely) k) k.card ≡ date_row (65 ∷ 33 ∷ 65 ∷ []) (as_route 82 at_last) free
latest_is = ap (λ p. date_row_after p k.card) (is_created timely (omega arith)) ∙ latest_row

latest_numbers : words (date_row [] (as_route 82 at_last) []) ≡ 49021 ∷ 65439 ∷ []
unfolding compute
latest_numbers = refl

record Cuts : Type 0 where
  cut_0 : DateRow
  cut_1 : DateRow

abbrev cuts : ℕ → ℕ → Window → Answer Program → Cuts
cuts i j w p = record { cut_0 = date_row_recovered i p w; cut_1 = date_row_recovered j p w }

create_rows : cuts 0 1 k (created leap_eve) ≡ record { cut_0 = date_row [] free free; cut_1 = date_row (33 ∷ 65 ∷ []) (as_route 82 new) free }
unfolding compute date_row_of date_row_after date_row_recovered
create_rows = refl

-- ---- with a long name

abbrev long_created : Answer Program
long_created = create_long_on volume_k k.card route (letters 14) (stamp_of leap_eve)

is_long : long_call ≡ long_created
unfolding plan
is_long = create_long_is k volume_k first_row leap_eve (omega arith) route (letters 14)

record Long : Type 0 where
  group : LongRow
  whole : LongRow
  cut : LongRow

abbrev long_seen : Answer Program → Long
long_seen p = record { group = long_row_after 1 p k.card; whole = long_row_after largest p k.card; cut = long_row_recovered 1 p k }

long_rows : long_seen long_created ≡ record {
  group = record { stored = 65 ∷ []; part = stamp_part 0x54; short = free };
  whole = record { stored = 65 ∷ 33 ∷ 65 ∷ []; part = stamp_part 0xE5; short = as_route 82 new };
  cut = record { stored = 33 ∷ 65 ∷ []; part = stamp_part 0xE5; short = as_route 82 new };
}
unfolding compute long_row_of long_row_after long_row_recovered
long_rows = refl

-- ---- the append, on the window after the create

abbrev append_seen : Cuts
append_seen = record { cut_0 = date_row (17 ∷ []) (as_route 82 new) free; cut_1 = date_row (1 ∷ 33 ∷ 66 ∷ []) (as_route 82 longer) free }

append_rows : (d : Bytes) → cuts 4 5 (new_at leap_eve) (growing leap_day d (new_at leap_eve)) ≡ append_seen
unfolding compute date_row_of date_row_after date_row_recovered
append_rows d = refl

append_cuts : (d : Bytes) → cuts 4 5 k_new (plan (appends route (span 1300 d) leap_day) k_new) ≡ append_seen
append_cuts d =
    ap (cuts 4 5 k_new) (is_growing leap_eve leap_day (omega arith) d) ∙ ap (λ w. cuts 4 5 w (growing leap_day d w)) (new_is leap_eve (omega arith))
    ∙ append_rows d

-- ---- calls on the window after both

abbrev ends_as : List (Answer Program) → List Outcome
ends_as ps = map (λ p. outcome largest p) ps

abbrev none_on : Bytes → Card → List Outcome
none_on e c =
    let st = stamp_of common_eve in
    ends_as (append_on volume_k c route (span 0 e) st ∷ truncate_on volume_k c route 1300 st ∷ [])

none_computed : (d e : Bytes) → none_on e (grown_at leap_eve leap_day d).card ≡ Done 0 ∷ Done 0 ∷ []
unfolding compute
none_computed d e = refl

none_row : (d e : Bytes) → answers (appends route (span 0 e) common_eve ∷ truncates route 1300 common_eve ∷ []) (k_longer d) ≡ Done 0 ∷ Done 0 ∷ []
unfolding answers plan
none_row d e =
    let w = k_longer d in
    let is : clean (k_longer d) ≡ granted volume_k = grown_clean leap_eve leap_day d in
    let h : common_eve ≤ last_second = omega arith in
    (λ t. ends_as (append_is w volume_k is common_eve h route (span 0 e) t ∷ truncate_is w volume_k is common_eve h route 1300 t ∷ []))
    ∙ ap (λ (w : Window). none_on e w.card) (grown_is leap_eve leap_day (omega arith) (omega arith) d) ∙ none_computed d e

-- CLOCK, on any window that is clean.
module _ (w : Window) (is : clean w ≡ granted volume_k) (e : Bytes) where
  clock_row : answers (clocked e late) w ≡ replicate 8 (Refused Ground.Clock)
  unfolding answers outcome
  clock_row =
      let h : last_second < late = omega arith in
      λ t. ends_as (create_late w volume_k is late h (letter 66) t ∷ long_late w volume_k is late h (letter 66) (letters 14) t
      ∷ append_late w volume_k is late h route (span 100 e) t ∷ append_late w volume_k is late h route (span 0 e) t
      ∷ truncate_late w volume_k is late h route 512 t ∷ truncate_late w volume_k is late h route 1300 t
      ∷ replace_late w volume_k is late h route (span 600 e) t ∷ replace_late w volume_k is late h route (span 0 e) t ∷ [])

  clock_first_row : answers (misnamed e late) w ≡ replicate 6 (Refused Ground.Clock)
  unfolding answers outcome
  clock_first_row =
      let h : last_second < late = omega arith in
      λ t. ends_as (create_late w volume_k is late h (letter 97) t ∷ long_late w volume_k is late h (letter 97) (letters 14) t
      ∷ append_late w volume_k is late h (letter 97) (span 100 e) t ∷ truncate_late w volume_k is late h (letter 97) 512 t
      ∷ replace_late w volume_k is late h (letter 97) (span 600 e) t ∷ long_late w volume_k is late h (letter 66) (view (63 ∷ 0 ∷ [])) t ∷ [])

-- NAME and LONGNAME, whatever the card.
abbrev misnamed_on : Bytes → ℕ → Card → List Outcome
misnamed_on e st c = ends_as (create_on volume_k c (letter 97) st ∷ create_long_on volume_k c (letter 97) (letters 14) st
    ∷ append_on volume_k c (letter 97) (span 100 e) st ∷ truncate_on volume_k c (letter 97) 512 st
    ∷ replace_on volume_k c (letter 97) (span 600 e) st ∷ create_long_on volume_k c (letter 66) (view (63 ∷ 0 ∷ [])) st ∷ [])

misnamed_rows : (e : Bytes) (st : ℕ) (c : Card) → misnamed_on e st c ≡ replicate 5 (Refused Ground.Name) ++ (Refused Ground.Longname ∷ [])
unfolding compute
misnamed_rows e st c = refl

names_row : (w : Window) → clean w ≡ granted volume_k → (e : Bytes)
    → answers (misnamed e timely) w ≡ replicate 5 (Refused Ground.Name) ++ (Refused Ground.Longname ∷ [])
unfolding answers plan
names_row w is e =
    let h : timely ≤ last_second = omega arith in
    (λ t. ends_as (create_is w volume_k is timely h (letter 97) t ∷ create_long_is w volume_k is timely h (letter 97) (letters 14) t
    ∷ append_is w volume_k is timely h (letter 97) (span 100 e) t ∷ truncate_is w volume_k is timely h (letter 97) 512 t
    ∷ replace_is w volume_k is timely h (letter 97) (span 600 e) t ∷ create_long_is w volume_k is timely h (letter 66) (view (63 ∷ 0 ∷ [])) t ∷ []))
    ∙ misnamed_rows e (stamp_of timely) w.card

-- ---- with a group pending

stopped_row : clean (cut_window 1 (created leap_eve) k) ≡ refused Ground.Unclean
unfolding compute
stopped_row = refl

stopped_unclean : clean (left 1 (creates route leap_eve) k) ≡ refused Ground.Unclean
unfolding left
stopped_unclean = ap (λ p. clean (cut_window 1 p k)) (is_created leap_eve (omega arith)) ∙ stopped_row

without_stopped : plan recovers (unstamped (cut_window 1 (created leap_eve) k)) ≡ refused Ground.Record
unfolding compute unstamped
without_stopped = refl

without_row : plan recovers (unstamped (left 1 (creates route leap_eve) k)) ≡ refused Ground.Record
unfolding left
without_row = ap (λ p. plan recovers (unstamped (cut_window 1 p k))) (is_created leap_eve (omega arith)) ∙ without_stopped

unclean_row : (w : Window) → clean w ≡ refused Ground.Unclean → (e : Bytes) → answers (clocked e late) w ≡ replicate 8 (Refused Ground.Unclean)
unfolding answers plan outcome
unclean_row w is e =
    let g = Ground.Unclean in
    λ t. ends_as (create_refused w g is late (letter 66) t ∷ create_long_refused w g is late (letter 66) (letters 14) t
    ∷ append_refused w g is late route (span 100 e) t ∷ append_refused w g is late route (span 0 e) t ∷ truncate_refused w g is late route 512 t
    ∷ truncate_refused w g is late route 1300 t ∷ replace_refused w g is late route (span 600 e) t ∷ replace_refused w g is late route (span 0 e) t ∷ [])

number_row : outcome_number (Refused Ground.Clock) ≡ 77309411328
number_row = refl

pub dated_rows : (d e : Bytes) → Dated d e
dated_rows d e =
    let call : cuts 0 1 k (plan (creates route leap_eve) k) ≡ cuts 0 1 k (created leap_eve) = ap (cuts 0 1 k) (is_created leap_eve (omega arith)) in
    let long : long_seen long_call ≡ long_seen long_created = ap long_seen is_long in
    record {
      history = trace_flat date_row_of 80 (changes d e) k ∙ history_flat d e;
      even = ap (λ p. date_row_after p k.card) (is_created 636249598 (omega arith)) ∙ even_row;
      earliest = ap (λ p. date_row_after p k.card) (is_created 0 (omega arith)) ∙ earliest_row;
      latest = latest_is;
      latest_words = ap words latest_is ∙ latest_numbers;
      none = none_row d e;
      clock = clock_row (k_longer d) (grown_clean leap_eve leap_day d) e;
      clock_first = clock_first_row (k_longer d) (grown_clean leap_eve leap_day d) e;
      names_then = names_row (k_longer d) (grown_clean leap_eve leap_day d) e;
      number = number_row;
      unclean = unclean_row (left 1 (creates route leap_eve) k) stopped_unclean e;
      cut_0 = ap (λ (t : Cuts). t.cut_0) (call ∙ create_rows);
      cut_1 = ap (λ (t : Cuts). t.cut_1) (call ∙ create_rows);
      without = without_row;
      append_4 = ap (λ (t : Cuts). t.cut_0) (append_cuts d);
      append_5 = ap (λ (t : Cuts). t.cut_1) (append_cuts d);
      long_group = ap (λ (t : Long). t.group) (long ∙ long_rows);
      long = ap (λ (t : Long). t.whole) (long ∙ long_rows);
      long_cut = ap (λ (t : Long). t.cut) (long ∙ long_rows);
    }
