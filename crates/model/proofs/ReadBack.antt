-- A long name is read back as it was written: how many entries belong to its slot, how many characters they have, and which.
use Prim.Native.Nat.{ℕ, zero, suc, ◌+◌, ◌-◌, ◌*◌, ◌/◌, ◌%◌, ◌^◌, ◌≤◌, ◌<◌}
use native.Mathlib.Omega.{arith}
use native.Mathlib.Numerals.{add-one}
use mathlib.Core.Path.{◌≡◌, refl, sym, ap, ◌∙◌, subst}
use mathlib.Core.Logic.{⊎_elim}
use mathlib.Core.Bool.{Bool, true, false}
use lib.Dec.{leb, eqb}
use borrow.Author.Tests.{eq-eqb, ne_eqb, leb-true, lt-ltb, le-ltb}
use Rattle.model.specs.Bytes.{Bytes, zeros}
use Rattle.model.specs.Scan.{all, all_from, walk}
use Rattle.model.specs.Root.{Directory}
use Rattle.model.specs.Long.{checksum, sum_of, is_long, order_byte, long_count, turned}
use Rattle.model.specs.LongName.{place, fill, long_entry, name_entry, long_slots, most_characters, spelled}
use Rattle.model.specs.LongName.{character, long_byte, long_character, long_length}
use Rattle.model.proofs.Tests.{less?}
use Rattle.model.proofs.Scan.{all_at0, first_is0, none_below}
use Rattle.model.proofs.Numbers.{le_below, le_shift, le_tells, Small, patched}
use Rattle.model.proofs.Belong.{order_last, order_inner, order_range, count_found}
use Rattle.model.proofs.LongEntries.{fill_read, entry_long}

-- ---- one entry

-- A checksum is a byte, and depends on the eleven bytes of the name.
pub sum_small : (n : ℕ) (b : Bytes) → sum_of n b < 256
unfolding sum_of
sum_small zero b = omega arith
sum_small (suc n) b = omega arith

pub sum_more : (n : ℕ) (b : Bytes) → (turned (sum_of n b) + b n) % 256 ≡ sum_of (n + 1) b
unfolding sum_of
sum_more n b = rw (add-one n)

pub sum_local : (n : ℕ) (a b : Bytes) → ((j : ℕ) → j < n → a j ≡ b j) → sum_of n a ≡ sum_of n b
unfolding sum_of
sum_local zero a b h = refl
sum_local (suc n) a b h = rw (sum_local n a b (λ j less. h j (omega arith)), h n (omega arith))

-- What makes an entry a long one is in its 32 bytes.
long_local : (sum order : ℕ) (a b : Bytes) → ((j : ℕ) → j < 32 → a j ≡ b j) → is_long sum order a ≡ is_long sum order b
unfolding is_long
long_local sum order a b h = rw (h 0 (omega arith), h 11 (omega arith), h 13 (omega arith))

-- The places are in them too.
places_end : all (λ k. leb (place k + 2) 32) 13 ≡ true
unfolding all_from walk
places_end = refl

place_in : (k : ℕ) → k < 13 → place k + 2 ≤ 32
place_in k less = leb-true (place k + 2) 32 (all_at0 (λ k. leb (place k + 2) 32) 13 places_end k less)

-- An entry is written in bytes.
fill_small : (f : ℕ → ℕ) (b : Bytes) → Small b → (k : ℕ) → Small (fill f b k)
unfolding fill
fill_small f b h zero = h
fill_small f b h (suc k) = patched 2 (f k) (place k) (fill f b k) (fill_small f b h k)

entry_small : (sum order : ℕ) (f : ℕ → ℕ) → Small (long_entry sum order f)
unfolding long_entry
entry_small sum order f = fill_small f _ (patched 1 order 0 _ (patched 1 0x0F 11 _ (patched 1 sum 13 zeros (λ j. omega arith)))) 13

-- ---- what is written for a character

module _ (t : Bytes) (n : ℕ) where
  spelled_in : (q : ℕ) → q < n → spelled t n q ≡ character t q
  unfolding spelled
  spelled_in q less = rw (lt-ltb q n less)

  spelled_end : spelled t n n ≡ 0
  unfolding spelled
  spelled_end = rw (le-ltb n n (omega arith), eq-eqb n n refl)

-- ---- the entries of a name

-- Before slot s of a directory stand the entries of a text of n characters.
pub record Written (d : Directory) (s : ℕ) (t : Bytes) (n : ℕ) : Type 0 where
  pub some : 1 ≤ n
  pub few : n ≤ most_characters
  pub room : long_slots n ≤ s
  pub entries : (i : ℕ) → 1 ≤ i → i ≤ long_slots n → (j : ℕ) → j < 32 → d (s - i) j ≡ name_entry (checksum (d s)) t n i j

module _ (d : Directory) (s : ℕ) (t : Bytes) (n : ℕ) (h : Written d s t n) where
  abbrev count : ℕ
  count = long_slots n

  written_long : (i : ℕ) → 1 ≤ i → i ≤ count → is_long (checksum (d s)) (order_byte count i) (d (s - i)) ≡ true
  unfolding name_entry
  written_long i low high =
      long_local (checksum (d s)) (order_byte count i) (d (s - i)) (name_entry (checksum (d s)) t n i) (h.entries i low high)
      ∙ entry_long (checksum (d s)) (order_byte count i) _ (sum_small 11 (d s))
      (⊎_elim (λ e. omega (arith, h.few)) (λ e. omega (arith, h.few)) (order_range count i))

  -- They belong to the slot, and no others do.
  pub written_count : long_count d s ≡ count
  written_count = count_found d s count
      (λ i low high. ap (λ o. is_long (checksum (d s)) o (d (s - i))) (sym (order_inner count i (λ e. omega arith))) ∙ written_long i low (omega arith))
      (omega (arith, h.some)) (omega (arith, h.few)) h.room
      (ap (λ o. is_long (checksum (d s)) o (d (s - count))) (sym (order_last count count refl)) ∙ written_long count (omega (arith, h.some)) (omega arith))

  -- A byte of the characters, and a character.
  byte_at : (q e : ℕ) → e < 2 → long_byte d s (2 * q + e) ≡ d (s - (q / 13 + 1)) (place (q % 13) + e)
  byte_at q e less =
      let row : (2 * q + e) / 26 ≡ q / 13 = omega arith in
      let col : (2 * q + e) / 2 % 13 ≡ q % 13 = omega arith in
      let low : (2 * q + e) % 2 ≡ e = omega arith in
      rw (row, col, low)

  abbrev entry_of : ℕ → Bytes
  entry_of q = name_entry (checksum (d s)) t n (q / 13 + 1)

  byte_is : (q : ℕ) → q < 13 * count → (e : ℕ) → e < 2 → long_byte d s (2 * q + e) ≡ entry_of q (place (q % 13) + e)
  byte_is q less e low =
      let inside = place_in (q % 13) (omega arith) in
      byte_at q e low ∙ h.entries (q / 13 + 1) (omega arith) (omega arith) (place (q % 13) + e) (omega arith)

  byte_small : (q : ℕ) → q < 13 * count → (e : ℕ) → e < 2 → long_byte d s (2 * q + e) < 256
  unfolding name_entry
  byte_small q less e low = subst (λ x. x < 256) (sym (byte_is q less e low)) (entry_small _ _ _ _)

  character_is : (q : ℕ) → q < 13 * count → spelled t n q < 256 ^ 2 → long_character d s q ≡ spelled t n q
  unfolding name_entry long_entry
  character_is q less small =
      let f : ℕ → ℕ = λ k. spelled t n (13 * (q / 13 + 1 - 1) + k) in
      let at : 13 * (q / 13 + 1 - 1) + q % 13 ≡ q = omega arith in
      le_shift 2 (long_byte d s) (entry_of q) (2 * q) (place (q % 13)) (byte_is q less)
      ∙ fill_read f _ 13 (q % 13) (omega arith) (omega arith) (subst (λ x. spelled t n x < 256 ^ 2) (sym at) small) ∙ ap (spelled t n) at

  -- Of a text without zeros, of bytes, the same characters are read back, and as many;
  module _ (full : (q : ℕ) → q < n → character t q ≡ 0 → ⊥) (small : (i : ℕ) → i < 2 * n → t i < 256) where
    pub written_character : (q : ℕ) → q < n → long_character d s q ≡ character t q
    written_character q less =
        character_is q (omega arith) (subst (λ x. x < 256 ^ 2) (sym (spelled_in t n q less)) (le_below 2 t (2 * q) (λ i lo hi. small i (omega arith))))
        ∙ spelled_in t n q less

    abbrev ended : ℕ → Bool
    ended q = eqb (long_character d s q) 0

    goes_on : (q : ℕ) → q < n → ended q ≡ false
    goes_on q less = ne_eqb (long_character d s q) 0 (λ e. full q less (sym (written_character q less) ∙ e))

    pub written_length : long_length d s ≡ n
    unfolding long_length
    written_length = rw written_count (⊎_elim
        (λ less. first_is0 ended (13 * count) n less goes_on (eq-eqb _ 0
        (character_is n less (subst (λ x. x < 256 ^ 2) (sym (spelled_end t n)) (omega arith)) ∙ spelled_end t n)))
        (λ more. let e : 13 * count ≡ n = omega arith in rw e (none_below ended n n (λ q lo hi. goes_on q hi) (omega arith)))
        (less? n (13 * count)))

    -- and so the same bytes.
    pub written_byte : (i : ℕ) → i < 2 * n → long_byte d s i ≡ t i
    written_byte i less =
        let at : 2 * (i / 2) + i % 2 ≡ i = omega arith in
        let q : ℕ = i / 2 in
        subst (λ i. long_byte d s i ≡ t i) at
        (le_tells 2 (long_byte d s) t (2 * q) (2 * q) (byte_small q (omega arith)) (λ k two. small (2 * q + k) (omega arith))
        (written_character q (omega arith)) (i % 2) (omega arith))
