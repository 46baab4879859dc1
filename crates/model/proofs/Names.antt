-- Laws of names and slots: what a name that passes NAME is like, the slot that a name means, and the slot that a new one takes.
use Prim.Native.Nat.{ℕ, ◌+◌, ◌-◌, ◌≤◌, ◌<◌}
use native.Mathlib.Omega.{arith}
use mathlib.Core.Path.{◌≡◌, refl, sym, ap, ◌∙◌}
use mathlib.Core.Logic.{◌⊎◌, inl, inr, ⊎_elim}
use mathlib.Core.Bool.{Bool, true, false, ◌&&◌, ◌||◌, not}
use lib.Dec.{leb, eqb, ltb}
use borrow.Author.Tests.{leb-true, eqb-true, not-false, ltb-true, ne_eqb, eqb-false, not-true}
use Rattle.model.specs.Bytes.{Bytes, byte_of, le, Span, part}
use Rattle.model.specs.Scan.{between, first}
use Rattle.model.specs.Sector.{Card}
use Rattle.model.specs.Root.{name_byte, padded, stem_length, name_ok, name_in, vacant, listed, is_label, first_bytes, find, slot_at, lowest_slot}
use Rattle.model.specs.Root.{bears, same_name, free_slot, end_slot, root_ok}
use Rattle.model.specs.declared.Layout.{Layout}
use Rattle.model.specs.declared.Name.{Name}
use Rattle.model.proofs.Tests.{any_elim, between_true, and_left, and_right, told, every_at, or_left, less?, clash}
use Rattle.model.proofs.Scan.{all_at0, first_before0, first_has0, first_mono}
use Rattle.model.proofs.Numbers.{le_below}
use Rattle.model.proofs.Records.{NameFits}
use Rattle.model.proofs.Order.{ordered}
use Rattle.model.proofs.Root.{free_slot_is}
use Rattle.model.specs.Record.{starts}
use Rattle.model.proofs.Pendings.{starts_not_zero}

-- ---- names

-- Bytes that names are made of.
abbrev Printed : ℕ → Type 0
Printed b = (33 ≤ b) × (b ≤ 126)

name_byte_in : (b : ℕ) → name_byte b ≡ true → Printed b
unfolding name_byte
name_byte_in b h =
    any_elim _ (
      one 33 refl,
      (
        many 35 41 refl,
        (
          one 45 refl,
          (
            many 48 57 refl,
            (many 64 90 refl, (many 94 96 refl, (one 123 refl, (one 125 refl, (one 126 refl, tt))))),
          ),
        ),
      ),
    ) h
  where
    many : (lo hi : ℕ) → (leb 33 lo && leb hi 126) ≡ true → between lo hi b ≡ true → Printed b
    many lo hi t e =
        let r = between_true lo hi b e in
        let l : 33 ≤ lo = leb-true 33 lo (and_left (leb 33 lo) (leb hi 126) t) in
        let m : hi ≤ 126 = leb-true hi 126 (and_right (leb 33 lo) (leb hi 126) t) in
        (omega arith, omega arith)

    one : (n : ℕ) → (leb 33 n && leb n 126) ≡ true → eqb b n ≡ true → Printed b
    one n t e =
        let l : 33 ≤ n = leb-true 33 n (and_left (leb 33 n) (leb n 126) t) in
        let m : n ≤ 126 = leb-true n 126 (and_right (leb 33 n) (leb n 126) t) in
        rw (eqb-true b n e) (l, m)

padded_at : (n : ℕ) (b : Bytes) → padded n b ≡ true → (i : ℕ) → i < n → Printed (b i) ⊎ (b i ≡ 32)
unfolding padded stem_length
padded_at n b h i less = go (told (ltb i k)) (all_at0 (λ i. ltb i k || eqb (b i) 32) n h i less)
  where
    k : ℕ
    k = first (λ i. not (name_byte (b i))) n

    go : (ltb i k ≡ true) ⊎ (ltb i k ≡ false) → (ltb i k || eqb (b i) 32) ≡ true → Printed (b i) ⊎ (b i ≡ 32)
    go (inl e) r = inl (name_byte_in (b i) (not-false (name_byte (b i)) (first_before0 (λ i. not (name_byte (b i))) n i (ltb-true i k e))))
    go (inr e) r = inr (eqb-true (b i) 32 (rw e at r))

padded_small : (n : ℕ) (b : Bytes) → padded n b ≡ true → (i : ℕ) → i < n → b i < 256
padded_small n b h i less = ⊎_elim (λ r. omega arith) (λ r. omega arith) (padded_at n b h i less)

-- The first byte of a number of 8 bytes.
pub first_byte : (b : Bytes) → b 0 < 256 → byte_of (le 8 b 0) 0 ≡ b 0
unfolding byte_of le
first_byte b h = omega arith

module _ (s : Span) (h : name_ok s ≡ true) where
  stem_ok : padded 8 s.byte ≡ true
  unfolding name_ok
  stem_ok = every_at _ h 1

  extension_ok : padded 3 (part s.byte 8) ≡ true
  unfolding name_ok
  extension_ok = every_at _ h 2

  pub name_fits : NameFits (name_in s.byte)
  name_fits = record {
    stem = le_below 8 s.byte 0 (λ i lo hi. padded_small 8 s.byte stem_ok i (omega arith));
    extension = le_below 3 s.byte 8 (λ i lo hi. let e : 8 + (i - 8) ≡ i = omega arith in
        rw e at (padded_small 3 (part s.byte 8) extension_ok (i - 8) (omega arith)));
  }

  pub name_starts : starts (byte_of (name_in s.byte).stem 0) ≡ true
  unfolding name_ok
  name_starts = ⊎_elim
      (λ r. rw (first_byte s.byte (omega arith), ne_eqb (s.byte 0) 0 (λ e. omega arith), ne_eqb (s.byte 0) 0xE5 (λ e. omega arith)))
      (λ r. absurd (eqb-false (s.byte 0) 32 (not-true (eqb (s.byte 0) 32) (every_at _ h 3)) r))
      (padded_at 8 s.byte stem_ok 0 (omega arith))

-- ---- slots

-- A slot is live where its first byte is neither 0 nor 0xE5.
pub vacant_starts : (b : Bytes) → not (vacant b) ≡ starts (b 0)
unfolding vacant
vacant_starts b = go (eqb (b 0) 0) (eqb (b 0) 0xE5)
  where
    go : (x y : Bool) → not (x || y) ≡ (not x && not y)
    go true y = refl
    go false y = refl

listed_starts : (b : Bytes) → listed b ≡ true → starts (b 0) ≡ true
unfolding listed
listed_starts b h = sym (vacant_starts b) ∙ and_left (not (vacant b)) (not (is_label b)) h

pub record Live (l : Layout) (c : Card) (s : ℕ) : Type 0 where
  pub in_root : s < l.entries
  pub begins : starts (first_bytes l c s) ≡ true

module _ (l : Layout) (c : Card) where
  -- The slot that a name means.
  pub found_listed : (name : Name) → find l c name < l.entries → listed (slot_at l c (find l c name)) ≡ true
  unfolding find lowest_slot bears
  found_listed name less = and_left (listed (slot_at l c (find l c name))) (same_name (name_in (slot_at l c (find l c name))) name)
      (first_has0 (λ k. bears name (slot_at l c k)) l.entries less)

  pub found_live : (name : Name) → find l c name < l.entries → Live l c (find l c name)
  found_live name less = record { in_root = less; begins = listed_starts (slot_at l c (find l c name)) (found_listed name less) }

  -- A free slot is the lowest vacant one.
  pub free_vacant : free_slot l c < l.entries → vacant (slot_at l c (free_slot l c)) ≡ true
  unfolding lowest_slot
  free_vacant less = rw (free_slot_is l c) (first_has0 (λ k. vacant (slot_at l c k)) l.entries (rw (free_slot_is l c) at less))

  pub free_low : free_slot l c ≤ end_slot l.entries (first_bytes l c)
  unfolding lowest_slot end_slot vacant
  free_low = rw (free_slot_is l c) (first_mono (λ k. eqb (slot_at l c k 0) 0) (λ k. vacant (slot_at l c k)) 0 l.entries
      (λ k e. or_left (eqb (slot_at l c k 0) 0) (eqb (slot_at l c k 0) 0xE5) e))

  -- A live slot is not above the lowest beginning 0, and is not free.
  pub live_low : root_ok l.entries (first_bytes l c) ≡ true → (s : ℕ) → Live l c s → s ≤ end_slot l.entries (first_bytes l c)
  live_low h s a = ⊎_elim (λ r. absurd (starts_not_zero (first_bytes l c s) a.begins
      ((ordered l.entries (first_bytes l c) h).above s r a.in_root))) (λ r. r)
      (less? (end_slot l.entries (first_bytes l c)) s)

  pub live_not_free : (s : ℕ) → Live l c s → free_slot l c < l.entries → s ≡ free_slot l c → ⊥
  live_not_free s a less e = clash (vacant_starts (slot_at l c s) ∙ a.begins) (ap not (rw (← e) at (free_vacant less)))
