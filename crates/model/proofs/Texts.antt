-- Laws of the characters in a group's sector: whether its record 0 leads it, and the text that is read from it.
use Prim.Native.Nat.{ℕ, ◌+◌, ◌-◌, ◌*◌, ◌/◌, ◌%◌, ◌≤◌, ◌<◌}
use native.Mathlib.Omega.{arith}
use mathlib.Core.Path.{◌≡◌, refl, sym, ap, ◌∙◌, fun_ext}
use mathlib.Core.Logic.{⊎_elim}
use mathlib.Core.Bool.{Bool, true, false, not}
use mathlib.Core.List.{List, [], ◌∷◌, map}
use lib.Dec.{eqb, leb}
use lib.ListN.{length, get_or-eq_default}
use borrow.Author.Tests.{eq-eqb, ne_eqb, lt-ltb, le-ltb, le-leb}
use Rattle.model.specs.Bytes.{Bytes, bytes_of, le, byte_of, overlay}
use Rattle.model.specs.Scan.{every}
use Rattle.model.specs.Sector.{clip}
use Rattle.model.specs.LongName.{character}
use Rattle.model.specs.Record.{record_bytes, record_of, operation_records, records, lay, encode}
use Rattle.model.specs.Record.{record_at, Change, text_start, text_room, text_length, leads, text_in, change_of}
use Rattle.model.specs.Record.{group_records}
use Rattle.model.specs.Pending.{fills}
use Rattle.model.specs.declared.Record.{Record}
use Rattle.model.specs.declared.Operation.{Operation}
use Rattle.model.specs.declared.Operation.TheVariants.{Create, Update, Delete, Truncate, Rename, Replace}
use Rattle.model.proofs.Tests.{less?}
use Rattle.model.proofs.Scan.{Sofar, first_is0, none_below}
use Rattle.model.proofs.Cards.{clip_at}
use Rattle.model.proofs.Records.{ChangeFits, Spells, Silent, listed, in_text, before_text, record_read, operation_read}

-- Whether a sector's record 0 leads it is told by three of its bytes.
pub leads_by : (b : Bytes) (r : Record) → record_at b 0 ≡ r → leads b ≡ every (not (eqb (b 0) 0) ∷ eqb r.number 1 ∷ leb 1 r.count ∷ [])
unfolding leads
leads_by b r e = λ i. every (not (eqb (b 0) 0) ∷ eqb (e i).number 1 ∷ leb 1 (e i).count ∷ [])

-- A record of an operation that fills no long slot leads nothing.
leads_none : (o : Operation) (t : Bool) → fills o ≡ 0
    → every (t ∷ eqb (listed (operation_records o) 0).number 1 ∷ leb 1 (listed (operation_records o) 0).count ∷ []) ≡ false
unfolding operation_records record_of every
leads_none (Create e count stamp) true h = rw h
leads_none (Create e count stamp) false h = refl
leads_none (Update e last from size stamp) true h = refl
leads_none (Update e last from size stamp) false h = refl
leads_none (Delete e count first size) true h = refl
leads_none (Delete e count first size) false h = refl
leads_none (Truncate e first from size stamp) true h = refl
leads_none (Truncate e first from size stamp) false h = refl
leads_none (Rename e count first size to renamed) true h = refl
leads_none (Rename e count first size to renamed) false h = refl
leads_none (Replace e first from size stamp) true h = refl
leads_none (Replace e first from size stamp) false h = refl

pub record_first : (r : Record) → record_bytes r 0 ≡ byte_of r.name.stem 0
unfolding record_bytes overlay
record_first r = refl

-- The first byte of a sector is that of the name in its first record.
pub leading_byte : (x : Change) → ChangeFits x → 0 < length (records x) → clip (encode x) 0 ≡ byte_of (listed (records x) 0).name.stem 0
unfolding lay
leading_byte x h some = before_text x 0 (omega arith) ∙ go (records x) some
  where
    go : (rs : List Record) → 0 < length rs → lay (map record_bytes rs) 0 ≡ byte_of (listed rs 0).name.stem 0
    go [] less = absurd (omega arith)
    go (r ∷ rs) less = record_first r

-- An operation is told by some records, no more than a sector has.
pub told_records : (o : Operation) → (0 < length (operation_records o)) × (length (operation_records o) ≤ 16)
unfolding operation_records
told_records (Create e count stamp) = (omega arith, omega arith)
told_records (Update e last from size stamp) = (omega arith, omega arith)
told_records (Delete e count first size) = (omega arith, omega arith)
told_records (Truncate e first from size stamp) = (omega arith, omega arith)
told_records (Rename e count first size to renamed) = (omega arith, omega arith)
told_records (Replace e first from size stamp) = (omega arith, omega arith)

module _ (x : Change) (h : ChangeFits x) where
  -- There is a record.
  pub some_told : 0 < length (records x)
  unfolding records
  some_told = (told_records x.operation).0

  -- Record 0 of a group that writes no long name leads nothing,
  pub silent_leads : Silent x → leads (clip (encode x)) ≡ false
  unfolding records
  silent_leads s = leads_by (clip (encode x)) (listed (records x) 0) (record_read x h 0 some_told) ∙ leads_none x.operation _ s.1

  -- that of one that does leads its sector.
  text_begins : Spells x → 32 * length (records x) ≡ text_start
  unfolding records operation_records
  text_begins s = ap (λ (o : Operation). 32 * length (operation_records o)) s.is

  pub spells_leads : Spells x → leads (clip (encode x)) ≡ true
  unfolding records operation_records record_of every
  spells_leads s =
      let r : Record = listed (operation_records (Create s.entry s.count s.stamp)) 0 in
      let same : listed (records x) 0 ≡ r = ap (λ (o : Operation). listed (operation_records o) 0) s.is in
      let live : eqb (clip (encode x) 0) 0 ≡ false =
      ne_eqb _ 0 (λ e. s.begins (sym (leading_byte x h some_told ∙ ap (λ (r : Record). byte_of r.name.stem 0) same) ∙ e)) in
      leads_by (clip (encode x)) r (record_read x h 0 some_told ∙ same) ∙ rw (live, le-leb 1 s.count s.some)

  -- The text is read back.
  pub text_read : text_in (clip (encode x)) ≡ x.text
  unfolding text_in
  text_read = fun_ext (λ i. ⊎_elim
      (λ s. rw (silent_leads s) (sym (λ t. s.0 t i)))
      (λ s. rw (spells_leads s) (⊎_elim
      (λ less. let start = text_begins s in
      rw (lt-ltb i text_room less) (clip_at (encode x) (text_start + i) (omega arith) ∙ in_text x (text_start + i) (omega arith)
      ∙ ap x.text (let e : text_start + i - 32 * length (records x) ≡ i = omega arith in e)))
      (λ more. rw (le-ltb i text_room more) (sym (s.after i (omega (arith, s.few))))) (less? i text_room)))
      h.text)

  pub change_read : change_of (clip (encode x)) ≡ x
  unfolding change_of
  change_read = λ i. record { operation = operation_read x h i; text = text_read i }

  -- Past the characters the sector is zero,
  pub text_after : (j : ℕ) → 32 * length (records x) + 2 * text_length x.text ≤ j → encode x j ≡ 0
  text_after j more = in_text x j (omega arith) ∙ ⊎_elim (λ s. λ t. s.0 t (j - 32 * length (records x)))
      (λ s. s.after (j - 32 * length (records x)) (omega arith)) h.text

  -- and so past its records.
  pub records_after : (r : ℕ) → group_records x ≤ r → encode x (32 * r) ≡ 0
  unfolding group_records
  records_after r more = text_after (32 * r) (omega arith)

-- ---- a text in a list of bytes

module _ (xs : List ℕ) (even : length xs % 2 ≡ 0) (short : length xs ≤ text_room) where
  abbrev ends_at : ℕ → Bool
  ends_at q = eqb (character (bytes_of xs) q) 0

  past_list : (q : ℕ) → length xs ≤ 2 * q → character (bytes_of xs) q ≡ 0
  unfolding le
  past_list q more = rw (get_or-eq_default xs 0 {n = 2 * q} more, get_or-eq_default xs 0 {n = 2 * q + 1} (omega arith))

  -- It has as many characters as stand before a zero, or before its end.
  pub length_found : (q : ℕ) → 2 * q < length xs → Sofar ends_at false 0 q → ends_at q ≡ true → text_length (bytes_of xs) ≡ q
  unfolding text_length
  length_found q less none h = first_is0 ends_at (text_room / 2) q (omega arith) (λ j low. none j (omega arith) low) h

  pub length_whole : (n : ℕ) → n ≡ length xs / 2 → Sofar ends_at false 0 n → text_length (bytes_of xs) ≡ n
  unfolding text_length
  length_whole n e none = ⊎_elim
      (λ less. first_is0 ends_at (text_room / 2) n less (λ j low. none j (omega arith) low) (eq-eqb (character (bytes_of xs) n) 0 (past_list n (omega arith))))
      (λ more. none_below ends_at (text_room / 2) n none more ∙ (let z : text_room / 2 ≡ n = omega arith in z)) (less? n (text_room / 2))
