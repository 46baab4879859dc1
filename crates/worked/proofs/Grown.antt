-- ROUTE.CUT created on card K, and appended to: the windows that many rows begin with. That each of them is clean follows from the theorems, so
-- a row that is computed with these forms of them need not ask it.
use Prim.Native.Nat.{ℕ, ◌≤◌}
use mathlib.Core.Path.{◌≡◌, sym, ap, ◌∙◌}
use Rattle.model.specs.Bytes.{Bytes}
use Rattle.model.specs.Sector.{Window, after}
use Rattle.model.specs.Calendar.{stamp_of, last_second}
use Rattle.model.specs.Ground.{Answer, granted}
use Rattle.model.specs.Volume.{clean}
use Rattle.operations.specs.Program.{Program}
use Rattle.operations.specs.Calls.{creates, appends, plan, create_on, append_on}
use Rattle.operations.specs.Outcome.{made, left, largest}
use Rattle.safety.specs.Demand3.{Genuine}
use Rattle.safety.proofs.Theorem.{after_calls}
use Rattle.safety.proofs.Genuine.{stays_genuine}
use Rattle.worked.specs.CardK.{k, route, span}
use Rattle.worked.specs.Worked.{volume_k}
use Rattle.worked.proofs.Flat.{flattened, flattened_same}
use Rattle.worked.proofs.Asked.{create_is, append_is}
use Rattle.worked.proofs.Instance.{first_row, k_genuine}

-- A window after the first stores of a program.
abbrev pub cut_window : ℕ → Answer Program → Window → Window
cut_window limit p w = record { size = w.size; card = after (made limit p) w.card }

-- After a create at second s.
abbrev pub created : ℕ → Answer Program
created s = create_on volume_k k.card route (stamp_of s)

abbrev pub new_at : ℕ → Window
new_at s = flattened 80 (cut_window largest (created s) k)

pub is_created : (s : ℕ) → s ≤ last_second → plan (creates route s) k ≡ created s
unfolding plan
is_created s h = create_is k volume_k first_row s h route

pub new_is : (s : ℕ) → s ≤ last_second → left largest (creates route s) k ≡ new_at s
unfolding left
new_is s h = ap (λ p. cut_window largest p k) (is_created s h) ∙ sym (flattened_same 80 (cut_window largest (created s) k))

pub new_clean : (s : ℕ) → clean (left largest (creates route s) k) ≡ granted volume_k
new_clean s = (after_calls (creates route s) k volume_k k_genuine first_row).clean_again

-- After an append of 1,300 bytes at second t.
abbrev pub growing : ℕ → Bytes → Window → Answer Program
growing t d w = append_on volume_k w.card route (span 1300 d) (stamp_of t)

abbrev grown_from : ℕ → Bytes → Window → Window
grown_from t d w = cut_window largest (growing t d w) w

abbrev pub grown_at : ℕ → ℕ → Bytes → Window
grown_at s t d = flattened 80 (grown_from t d (new_at s))

pub is_growing : (s t : ℕ) → t ≤ last_second → (d : Bytes)
    → plan (appends route (span 1300 d) t) (left largest (creates route s) k) ≡ growing t d (left largest (creates route s) k)
unfolding plan
is_growing s t h d = append_is (left largest (creates route s) k) volume_k (new_clean s) t h route (span 1300 d)

pub grown_is : (s t : ℕ) → s ≤ last_second → t ≤ last_second → (d : Bytes)
    → left largest (appends route (span 1300 d) t) (left largest (creates route s) k) ≡ grown_at s t d
unfolding left
grown_is s t h g d =
    ap (λ p. cut_window largest p (left largest (creates route s) k)) (is_growing s t g d) ∙ ap (grown_from t d) (new_is s h)
    ∙ sym (flattened_same 80 (grown_from t d (new_at s)))

pub grown_clean : (s t : ℕ) (d : Bytes) → clean (left largest (appends route (span 1300 d) t) (left largest (creates route s) k)) ≡ granted volume_k
grown_clean s t d =
    let real : Genuine (left largest (creates route s) k) = stays_genuine (creates route s) k volume_k k_genuine first_row tt largest in
    (after_calls (appends route (span 1300 d) t) (left largest (creates route s) k) volume_k real (new_clean s)).clean_again
