-- Laws of the characters that a create is given: how many there are, that they are allowed, and that RECORD takes them.
use Prim.Native.Nat.{ℕ, ◌+◌, ◌*◌, ◌/◌, ◌%◌, ◌≤◌, ◌<◌}
use native.Mathlib.Omega.{arith}
use mathlib.Core.Path.{◌≡◌, refl, sym, ap, ◌∙◌, fun_ext}
use mathlib.Core.Logic.{◌⊎◌, inl, inr}
use mathlib.Core.Bool.{true, not}
use lib.Dec.{eqb}
use borrow.Author.Tests.{eqb-true, eq-eqb, ne_eqb, lt-ltb, le-ltb, not-true}
use Rattle.model.specs.Bytes.{Span, zeros, le}
use Rattle.model.specs.Scan.{any, between}
use Rattle.model.specs.LongName.{character, forbidden, all_allowed, most_characters, text_ok}
use Rattle.model.specs.Record.{Change, text_room, text_length}
use Rattle.model.specs.Pending.{fills, characters_ok}
use Rattle.model.proofs.Tests.{every_at, between_true, between_is, and_both, or_left, clash}
use Rattle.model.proofs.Scan.{all_at0, all_of0, first_is0}
use Rattle.model.proofs.Numbers.{le_local}
use Rattle.model.proofs.Records.{zeros_length}
use Rattle.operations.specs.Plan.{text_of, slots_for}

-- The text of a call: none, or one that LONGNAME lets pass.
abbrev pub TextFine : Span → Type 0
TextFine t = (t.size ≡ 0) ⊎ (text_ok t ≡ true)

-- A forbidden character is not 0.
pub allowed_some : (c : ℕ) → not (forbidden c) ≡ true → c ≡ 0 → ⊥
unfolding forbidden any
allowed_some c h e =
    let low : between 0 31 c ≡ true = between_is 0 31 c (omega arith) (omega arith) in
    clash (or_left (between 0 31 c) _ low) (not-true _ h)

-- Bytes of the text past its end are 0.
pub text_past : (t : Span) (i : ℕ) → t.size ≤ i → text_of t i ≡ 0
text_past t i more = rw (le-ltb i t.size more)

pub text_in : (t : Span) (i : ℕ) → i < t.size → text_of t i ≡ t.byte i
text_in t i less = rw (lt-ltb i t.size less)

pub empty_text : (t : Span) → t.size ≡ 0 → text_of t ≡ zeros
empty_text t e = fun_ext (λ i. text_past t i (omega arith))

module _ (t : Span) (h : text_ok t ≡ true) where
  pub text_even : t.size % 2 ≡ 0
  unfolding text_ok
  text_even = eqb-true (t.size % 2) 0 (every_at _ h 0)

  pub text_some : 1 ≤ t.size / 2
  unfolding text_ok
  text_some = (between_true 1 most_characters (t.size / 2) (every_at _ h 1)).0

  pub text_few : t.size / 2 ≤ most_characters
  unfolding text_ok
  text_few = (between_true 1 most_characters (t.size / 2) (every_at _ h 1)).1

  pub same_character : (q : ℕ) → q < t.size / 2 → character (text_of t) q ≡ character t.byte q
  same_character q less = le_local 2 (text_of t) t.byte (2 * q) (λ i lo hi. text_in t i (omega arith))

  pub text_allowed : (q : ℕ) → q < t.size / 2 → not (forbidden (character (text_of t) q)) ≡ true
  unfolding text_ok all_allowed
  text_allowed q less =
      ap (λ c. not (forbidden c)) (same_character q less) ∙ all_at0 (λ q. not (forbidden (character t.byte q))) (t.size / 2) (every_at _ h 2) q less

  ends_zero : (q : ℕ) → t.size / 2 ≤ q → character (text_of t) q ≡ 0
  unfolding le
  ends_zero q more = let even = text_even in rw (text_past t (2 * q) (omega arith), text_past t (2 * q + 1) (omega arith))

  fine_length : text_length (text_of t) ≡ t.size / 2
  unfolding text_length
  fine_length =
      let few = text_few in
      first_is0 (λ q. eqb (character (text_of t) q) 0) (text_room / 2) (t.size / 2) (omega arith)
      (λ q less. ne_eqb (character (text_of t) q) 0 (allowed_some (character (text_of t) q) (text_allowed q less)))
      (eq-eqb (character (text_of t) (t.size / 2)) 0 (ends_zero (t.size / 2) (omega arith)))

-- How many characters the text has.
pub span_length : (t : Span) → TextFine t → text_length (text_of t) ≡ t.size / 2
span_length t (inl e) = ap text_length (empty_text t e) ∙ zeros_length ∙ (let z : 0 ≡ t.size / 2 = omega arith in z)
span_length t (inr h) = fine_length t h

-- RECORD takes the characters of a create with as many long slots as they need.
pub span_ok : (t : Span) → TextFine t → (x : Change) → x.text ≡ text_of t → fills x.operation ≡ slots_for t → characters_ok x ≡ true
unfolding characters_ok all_allowed
span_ok t fine x e f =
    let n : text_length x.text ≡ t.size / 2 = ap text_length e ∙ span_length t fine in
    rw (n, e, f) (and_both _ _ (eq-eqb (slots_for t) (slots_for t) refl) (allowed fine))
  where
    allowed : TextFine t → all_allowed (text_of t) (t.size / 2) ≡ true
    allowed (inl z) = all_of0 (λ q. not (forbidden (character (text_of t) q))) (t.size / 2) (λ q less. absurd (omega arith))
    allowed (inr h) = all_of0 (λ q. not (forbidden (character (text_of t) q))) (t.size / 2) (text_allowed t h)

-- A change without characters that fills no long slot.
pub silent_ok : (x : Change) → x.text ≡ zeros → fills x.operation ≡ 0 → characters_ok x ≡ true
silent_ok x e f =
    let none : Span = record { size = 0; byte = zeros } in
    span_ok none (inl refl) x (e ∙ sym (empty_text none refl)) f
