-- The rows of a long name that is written on card K, by computation. That the card is clean, before and after, is known already; the rest asks
-- what follows.
use Prim.Native.Nat.{ℕ}
use native.Mathlib.Omega.{arith}
use mathlib.Core.Path.{◌≡◌, refl, ap, ◌∙◌}
use mathlib.Core.List.{List, [], ◌∷◌, ◌++◌}
use mathlib.Core.Bool.{true}
use lib.ListN.{replicate}
use Rattle.model.specs.Sector.{Card, after}
use Rattle.model.specs.Calendar.{stamp_of}
use Rattle.model.specs.Ground.{Answer, granted}
use Rattle.model.specs.Volume.{clean}
use Rattle.model.specs.Text.{ascii}
use Rattle.model.specs.Outcome.{Done}
use Rattle.operations.specs.Program.{Program}
use Rattle.operations.specs.Calls.{plan, creates_long, create_long_on}
use Rattle.operations.specs.Outcome.{made, left, largest}
use Rattle.operations.specs.Reading.{long_name_on}
use Rattle.safety.proofs.Theorem.{after_calls}
use Rattle.worked.specs.CardK.{k, route, morning}
use Rattle.worked.specs.Worked.{volume_k}
use Rattle.worked.specs.LongNames.{listed_group}
use Rattle.worked.specs.Spelling.{letters, spelling, Spelled, spelled_of, recovered_spelled, Told, told_of, read_again, marked_records, Spelling}
use Rattle.worked.proofs.Compute.{compute}
use Rattle.worked.proofs.Instance.{first_row, k_genuine}
use Rattle.worked.proofs.Asked.{create_long_is, long_name_is}

-- The call on a clean card, and the card after it.
abbrev computed : ℕ → Answer Program
computed n = create_long_on volume_k k.card route (letters n) (stamp_of morning)

is_computed : (n : ℕ) → spelling n ≡ computed n
unfolding plan
is_computed n = create_long_is k volume_k first_row morning (omega arith) route (letters n)

abbrev then_card : Answer Program → Card
then_card p = after (made largest p) k.card

abbrev told : ℕ → Answer Program → Told
told n p = told_of (long_name_on volume_k (then_card p) route 416) (letters n)

is_told : (n : ℕ) → read_again n 416 ≡ told n (computed n)
unfolding left
is_told n =
    let call = creates_long route (letters n) morning in
    let again : clean (left largest call k) ≡ granted volume_k = (after_calls call k volume_k k_genuine first_row).clean_again in
    ap (λ a. told_of a (letters n)) (long_name_is (left largest call k) volume_k again route 416) ∙ ap (told n) (is_computed n)

-- ---- rows: of each program all at once, so that it is computed once

record Seen : Type 0 where
  spelled : Spelled
  read : Told

abbrev seen : ℕ → Answer Program → Seen
seen n p = record { spelled = spelled_of p k.card; read = told n p }

abbrev short : List ℕ
short = 65 ∷ 33 ∷ 65 ∷ []

abbrev sixteen : List ℕ
sixteen = 0x50 ∷ 15 ∷ 14 ∷ 13 ∷ 12 ∷ 11 ∷ 10 ∷ 9 ∷ 8 ∷ 7 ∷ 6 ∷ 5 ∷ 4 ∷ 3 ∷ 2 ∷ 1 ∷ 82 ∷ 0 ∷ []

row_1 : seen 1 (computed 1)
    ≡ record { spelled = record { stored = short; begins = 0x41 ∷ 82 ∷ replicate 16 0 }; read = record { answer = Done 1; same = true } }
unfolding compute spelled_of told_of
row_1 = refl

row_13 : seen 13 (computed 13)
    ≡ record { spelled = record { stored = short; begins = 0x41 ∷ 82 ∷ replicate 16 0 }; read = record { answer = Done 13; same = true } }
unfolding compute spelled_of told_of
row_13 = refl

row_26 : seen 26 (computed 26)
    ≡ record { spelled = record { stored = short; begins = 0x42 ∷ 1 ∷ 82 ∷ replicate 15 0 }; read = record { answer = Done 26; same = true } }
unfolding compute spelled_of told_of
row_26 = refl

record Seen_14 : Type 0 where
  all : Seen
  listed : List ℕ
  listed_then : List ℕ
  cut_0 : Spelled
  cut_1 : Spelled

abbrev seen_14 : Answer Program → Seen_14
seen_14 p = record {
  all = seen 14 p;
  listed = listed_group 0 p;
  listed_then = listed_group 2 p;
  cut_0 = recovered_spelled 0 p;
  cut_1 = recovered_spelled 1 p;
}

row_14 : seen_14 (computed 14) ≡ record {
  all = record { spelled = record { stored = short; begins = 0x42 ∷ 1 ∷ 82 ∷ replicate 15 0 }; read = record { answer = Done 14; same = true } };
  listed = ascii "log 1 sectors\n0 0 create pending ROUTE.CUT slot 2 first 0 from 0 size 0\n";
  listed_then = ascii "log 1 sectors\n0 0 create committed ?OUTE.CUT slot 2 first 0 from 0 size 0\n";
  cut_0 = record { stored = []; begins = replicate 18 0 };
  cut_1 = record { stored = 33 ∷ 65 ∷ []; begins = 0x42 ∷ 1 ∷ 82 ∷ replicate 15 0 };
}
unfolding compute spelled_of told_of recovered_spelled
row_14 = refl

record Seen_208 : Type 0 where
  all : Seen
  marked : List ℕ
  cut_2 : Spelled

abbrev seen_208 : Answer Program → Seen_208
seen_208 p = record { all = seen 208 p; marked = marked_records 3 p; cut_2 = recovered_spelled 2 p }

row_208 : seen_208 (computed 208) ≡ record {
  all = record { spelled = record { stored = 65 ∷ 33 ∷ 34 ∷ 65 ∷ []; begins = sixteen }; read = record { answer = Done 208; same = true } };
  marked = replicate 15 0xE5 ++ (0 ∷ []);
  cut_2 = record { stored = 33 ∷ 34 ∷ 65 ∷ []; begins = sixteen };
}
unfolding compute spelled_of told_of recovered_spelled
row_208 = refl

pub spelled_out : Spelling
spelled_out =
    let call-14 : seen_14 (spelling 14) ≡ seen_14 (computed 14) = ap seen_14 (is_computed 14) in
    let call-208 : seen_208 (spelling 208) ≡ seen_208 (computed 208) = ap seen_208 (is_computed 208) in
    record {
      one = ap (λ p. spelled_of p k.card) (is_computed 1) ∙ ap (λ (t : Seen). t.spelled) row_1;
      thirteen = ap (λ p. spelled_of p k.card) (is_computed 13) ∙ ap (λ (t : Seen). t.spelled) row_13;
      fourteen = ap (λ (t : Seen_14). t.all.spelled) (call-14 ∙ row_14);
      twenty_six = ap (λ p. spelled_of p k.card) (is_computed 26) ∙ ap (λ (t : Seen). t.spelled) row_26;
      longest = ap (λ (t : Seen_208). t.all.spelled) (call-208 ∙ row_208);
      read_1 = is_told 1 ∙ ap (λ (t : Seen). t.read) row_1;
      read_13 = is_told 13 ∙ ap (λ (t : Seen). t.read) row_13;
      read_14 = is_told 14 ∙ ap (λ (t : Seen_14). t.all.read) row_14;
      read_26 = is_told 26 ∙ ap (λ (t : Seen). t.read) row_26;
      read_208 = is_told 208 ∙ ap (λ (t : Seen_208). t.all.read) row_208;
      listed = ap (λ (t : Seen_14). t.listed) (call-14 ∙ row_14);
      listed_then = ap (λ (t : Seen_14). t.listed_then) (call-14 ∙ row_14);
      cut_0 = ap (λ (t : Seen_14). t.cut_0) (call-14 ∙ row_14);
      cut_1 = ap (λ (t : Seen_14). t.cut_1) (call-14 ∙ row_14);
      longest_marked = ap (λ (t : Seen_208). t.marked) (call-208 ∙ row_208);
      cut_2 = ap (λ (t : Seen_208). t.cut_2) (call-208 ∙ row_208);
    }
