-- Laws of what is pending in a log: nothing, or the one group that stands there.
use Prim.Native.Nat.{ℕ, zero, suc, ◌+◌, ◌-◌, ◌*◌, ◌/◌, ◌%◌, ◌≤◌, ◌<◌}
use native.Mathlib.Omega.{arith}
use mathlib.Core.Path.{◌≡◌, refl, sym, ap, ◌∙◌}
use mathlib.Core.Logic.{◌⊎◌, inl, inr, ⊎_elim}
use mathlib.Core.List.{List, [], ◌∷◌, map}
use mathlib.Core.Bool.{Bool, true, false, ◌&&◌, ◌||◌, not, and-true, and-false, or-true}
use lib.Dec.{eqb, ltb, leb}
use lib.ListN.{length, get_or}
use borrow.Author.Tests.{eq-eqb, ne_eqb, eqb-true, lt-ltb, le-ltb, ltb-false, ltb-true, le-leb}
use Rattle.model.specs.Bytes.{Bytes, zeros, pick}
use Rattle.model.specs.Scan.{first}
use Rattle.model.specs.Sector.{clip}
use Rattle.model.specs.Log.{Log}
use Rattle.model.specs.Record.{starts, pends, tells, leads, committed, record_bytes, encode, lay, records, group_size, record_at}
use Rattle.model.specs.Record.{text_length, group_records, group_of, group_in}
use Rattle.model.specs.Pending.{pending_in, first_pending, pending_at, accepted}
use Rattle.model.specs.Pending.{records_ok, empty_from, group_ok, alone}
use Rattle.model.specs.declared.Area.{Area}
use Rattle.model.specs.declared.Record.{Record}
use Rattle.model.specs.Record.{Change}
use Rattle.model.specs.declared.Pending.{Pending}
use Rattle.model.proofs.Tests.{clash, less?, told, each_every, every_at, ◌also◌, same?, or_right, or_left, and_both}
use Rattle.model.proofs.Scan.{first_before0, first_above0, all_same, all_of, first_is0, all_of0}
use Rattle.model.proofs.All.{All}
use Rattle.model.proofs.Cards.{clip_at}
use Rattle.model.proofs.Records.{ChangeFits, zeros_length, listed, before_text, record_read, size_read}
use Rattle.model.proofs.Texts.{record_first, some_told, spells_leads, change_read, text_after, records_after}
use Rattle.model.proofs.Recorded.{Starts, Recorded, told_size, asked_same}

-- A record that begins so is pending; so is a slot live.
pub starts_not_zero : (v : ℕ) → starts v ≡ true → v ≡ 0 → ⊥
starts_not_zero v h e = clash h (rw e)

-- A record is pending if it begins so and is the first, or no record leads its sector.
both_of : (u v t : Bool) → ((u && t) && v) ≡ ((u && v) && t)
both_of true v true = sym (and-true v)
both_of true v false = sym (and-false v)
both_of false v t = refl

pub pends_starts : (b : Bytes) (r : ℕ) → pends b r ≡ (starts (b (32 * r)) && (eqb r 0 || not (leads b)))
unfolding pends tells
pends_starts b r = both_of (not (eqb (b (32 * r)) 0)) (not (eqb (b (32 * r)) 0xE5)) (eqb r 0 || not (leads b))

-- One that does not begin so is not, nor is one in a sector that another leads.
pub unbegun : (b : Bytes) (r : ℕ) → starts (b (32 * r)) ≡ false → pends b r ≡ false
unbegun b r e = pends_starts b r ∙ rw e

pub led : (b : Bytes) (r : ℕ) → 0 < r → leads b ≡ true → pends b r ≡ false
led b r more e = pends_starts b r ∙ rw (ne_eqb r 0 (λ q. omega arith), e) (and-false (starts (b (32 * r))))

pub begun : (b : Bytes) (r : ℕ) → starts (b (32 * r)) ≡ true → (r ≡ 0) ⊎ (leads b ≡ false) → pends b r ≡ true
begun b r e (inl z) = pends_starts b r ∙ rw (e, eq-eqb r 0 z)
begun b r e (inr n) = pends_starts b r ∙ rw (e, n) (or-true (eqb r 0))

-- ---- nothing

-- No record of a sector is pending.
abbrev pub Quiet : Bytes → Type 0
Quiet b = (r : ℕ) → r < 16 → pends b r ≡ false

pub quiet_zeros : Quiet (clip zeros)
unfolding pends tells
quiet_zeros r less = refl

-- A sector whose first records are committed and whose others do not begin as pending ones do.
pub committed_quiet : (m : ℕ) (b : Bytes) → ((r : ℕ) → m ≤ r → r < 16 → starts (b (32 * r)) ≡ false) → Quiet (clip (committed m b))
unfolding committed
committed_quiet m b h r less = unbegun (clip (committed m b)) r (ap (λ v. starts v) (clip_at (committed m b) (32 * r) (omega arith)) ∙ go (less? r m))
  where
    zero : 32 * r % 32 ≡ 0
    zero = omega arith

    go : (r < m) ⊎ (m ≤ r) → starts (committed m b (32 * r)) ≡ false
    go (inl k) = rw (eq-eqb (32 * r % 32) 0 zero, lt-ltb (32 * r) (32 * m) (omega arith))
    go (inr k) = rw (eq-eqb (32 * r % 32) 0 zero, le-ltb (32 * r) (32 * m) (omega arith)) (h r k less)

-- "A group is record 0 of a sector"
accepted_first : (entries z n : ℕ) (g : Log) (i : ℕ) → accepted entries z n g i ≡ true → i % 16 ≡ 0
unfolding accepted
accepted_first entries z n g i h = eqb-true (i % 16) 0 (every_at _ h 0)

module _ (entries : ℕ) (z : Bytes → ℕ) (a : Area) (g : Log) where
  -- Where nothing is pending no record is,
  pub calm_quiet : pending_in entries z a g ≡ Pending.Nothing → (i : ℕ) → i < a.sectors → Quiet (g i)
  unfolding pending_in first_pending
  calm_quiet h i less r small =
      let row : (16 * i + r) / 16 ≡ i = omega arith in
      let col : (16 * i + r) % 16 ≡ r = omega arith in
      rw (row, col) at (first_before0 (pending_at g) (16 * a.sectors) (16 * i + r)
      (let past = go (told (ltb (first (pending_at g) (16 * a.sectors)) (16 * a.sectors))) in omega arith))
    where
      never : (t : Bool) (x : ℕ) → pick t (Pending.Held x) Pending.Broken ≡ Pending.Nothing → ⊥
      never true x e = let z : ◌≡◌ {A = ℕ} 0 1 = cc in omega arith
      never false x e = let z : ◌≡◌ {A = ℕ} 0 1 = cc in omega arith

      go : (ltb (first (pending_at g) (16 * a.sectors)) (16 * a.sectors) ≡ true) ⊎ (ltb (first (pending_at g) (16 * a.sectors)) (16 * a.sectors) ≡ false)
          → 16 * a.sectors ≤ first (pending_at g) (16 * a.sectors)
      go (inl e) =
          let j : ℕ = first (pending_at g) (16 * a.sectors) in
          absurd (never (accepted entries (z (g (j / 16))) a.sectors g j) (a.sector + j / 16) (rw e at h))
      go (inr e) = ltb-false (first (pending_at g) (16 * a.sectors)) (16 * a.sectors) e

  -- and where no record is pending nothing is.
  pub quiet_calm : ((i : ℕ) → i < a.sectors → Quiet (g i)) → pending_in entries z a g ≡ Pending.Nothing
  unfolding pending_in first_pending
  quiet_calm q =
      let past : 16 * a.sectors ≤ first (pending_at g) (16 * a.sectors) =
      first_above0 (pending_at g) (16 * a.sectors) (16 * a.sectors) (omega arith) (λ j less. q (j / 16) (omega arith) (j % 16) (omega arith)) in
      rw (le-ltb (first (pending_at g) (16 * a.sectors)) (16 * a.sectors) past)

  -- A pending group stands in a sector of the log.
  pub group_place : (x : ℕ) → pending_in entries z a g ≡ Pending.Held x
      → (i : ℕ) × (i < a.sectors) × (x ≡ a.sector + i) × (accepted entries (z (g i)) a.sectors g (16 * i) ≡ true)
  unfolding pending_in
  group_place x h = go (told (ltb j (16 * a.sectors)))
    where
      j : ℕ
      j = first_pending a.sectors g

      here : (t : Bool) → accepted entries (z (g (j / 16))) a.sectors g j ≡ t → pick t (Pending.Held (a.sector + j / 16)) Pending.Broken ≡ Pending.Held x
          → (x ≡ a.sector + j / 16) × (accepted entries (z (g (j / 16))) a.sectors g j ≡ true)
      here true q e = let r : a.sector + j / 16 ≡ x = cc in (sym r, q)
      here false q e = let z : ◌≡◌ {A = ℕ} 0 1 = cc in absurd (omega arith)

      go : (ltb j (16 * a.sectors) ≡ true) ⊎ (ltb j (16 * a.sectors) ≡ false)
          → (i : ℕ) × (i < a.sectors) × (x ≡ a.sector + i) × (accepted entries (z (g i)) a.sectors g (16 * i) ≡ true)
      go (inl e) =
          let less : j < 16 * a.sectors = ltb-true j (16 * a.sectors) e in
          let k = here (accepted entries (z (g (j / 16))) a.sectors g j) refl (rw e at h) in
          let zero : j % 16 ≡ 0 = accepted_first entries (z (g (j / 16))) a.sectors g j k.1 in
          let at : j ≡ 16 * (j / 16) = omega arith in
          (j / 16, omega arith, k.0, ap (λ (i : ℕ). accepted entries (z (g (j / 16))) a.sectors g i) (sym at) ∙ k.1)
      go (inr e) = let r : Pending.Nothing ≡ Pending.Held x = rw e at h in let z : ◌≡◌ {A = ℕ} 0 1 = cc in absurd (omega arith)

-- ---- a group

-- RECORD reads a sector's 512 bytes alone.
empty_clip : (i : ℕ) (b : Bytes) → empty_from i (clip b) ≡ empty_from i b
unfolding empty_from
empty_clip i b = all_same (λ j. eqb (clip b j) 0) (λ j. eqb (b j) 0) i (512 - i) (λ j lo hi. ap (λ v. eqb v 0) (clip_at b j (omega arith)))

-- The first byte of a record is its name's.
first_byte : (rs : List Record) (k : ℕ) → k < length rs → All Starts rs → starts (get_or (map record_bytes rs) k zeros 0) ≡ true
first_byte [] k less a = absurd (omega arith)
first_byte (r ∷ rs) zero less a = ap starts (record_first r) ∙ a.0
first_byte (r ∷ rs) (suc k) less a = first_byte rs k (omega arith) a.1

module _ (x : Change) (h : ChangeFits x) where
  -- All records of a group that tell its operation begin as pending ones, and the first is one.
  begins_at : (k : ℕ) → k < length (records x) → All Starts (records x) → starts (clip (encode x) (32 * k)) ≡ true
  unfolding lay
  begins_at k less live =
      let row : 32 * k / 32 ≡ k = omega arith in
      let col : 32 * k % 32 ≡ 0 = omega arith in
      ap starts (clip_at (encode x) (32 * k) (omega (arith, h.few)) ∙ before_text x (32 * k) (omega arith)
      ∙ (λ i. get_or (map record_bytes (records x)) (row i) zeros (col i)))
      ∙ first_byte (records x) k less live

  first_pends : All Starts (records x) → pends (clip (encode x)) 0 ≡ true
  first_pends live = begun (clip (encode x)) 0 (begins_at 0 (some_told x h) live) (inl refl)

  -- Past these nothing is pending in its sector.
  pub rest_quiet : (r : ℕ) → length (records x) ≤ r → r < 16 → pends (clip (encode x)) r ≡ false
  rest_quiet r le less = ⊎_elim
      (λ s. unbegun (clip (encode x)) r (ap (λ v. starts v) (clip_at (encode x) (32 * r) (omega arith) ∙ text_after x h (32 * r)
      (let none : text_length x.text ≡ 0 = ap text_length s.0 ∙ zeros_length in omega arith))))
      (λ s. led (clip (encode x)) r (omega (arith, some_told x h)) (spells_leads x h s)) h.text

  -- Past all its records, those of characters too, the sector is zero.
  pub rest_zero : (r : ℕ) → group_records x ≤ r → r < 16 → starts (clip (encode x) (32 * r)) ≡ false
  rest_zero r le less = ap (λ v. starts v) (clip_at (encode x) (32 * r) (omega arith) ∙ records_after x h r le)

  -- RECORD reads of the sector what it asks of the change.
  records_read : (n z : ℕ) → records_ok n z (record_at (clip (encode x))) ≡ records_ok n z (listed (records x))
  records_read n z =
      asked_same n z (length (records x)) (record_at (clip (encode x))) (listed (records x)) (record_read x h) (some_told x h) (size_read x h) (told_size x)

  group_fine : (n z : ℕ) → Recorded n z x → group_ok n z (clip (encode x)) ≡ true
  unfolding group_ok empty_from
  group_fine n z w =
      let m : ℕ = length (records x) in
      let e : ℕ = 32 * m + 2 * text_length x.text in
      rw (size_read x h, change_read x h)
      (each_every _ (records_read n z ∙ w.0
      also all_of0 (λ r. starts (clip (encode x) (32 * r))) m (λ r less. begins_at r less w.1)
      also w.2
      also empty_clip e (encode x) ∙ all_of (λ j. eqb (encode x j) 0) e (512 - e) (λ j lo hi. eq-eqb (encode x j) 0 (text_after x h j lo))
      also tt))

pub group_read : (s : ℕ) (o : Change) → ChangeFits o → group_in s (clip (encode o)) ≡ group_of s o
unfolding group_in
group_read s o h = ap (group_of s) (change_read o h)

-- The group of change o stands in log sector u, and no record of the others is pending.
pub record Stored (n : ℕ) (g : Log) (u : ℕ) (o : Change) : Type 0 where
  pub in_log : u < n
  pub bytes : g u ≡ clip (encode o)
  pub others : (i : ℕ) → i < n → (i ≡ u → ⊥) → Quiet (g i)

module _ (entries : ℕ) (z : Bytes → ℕ) (a : Area) (g : Log) (u : ℕ) (o : Change) (h : Stored a.sectors g u o)
    (fits : ChangeFits o) (fine : Recorded entries (z (clip (encode o))) o) where
  at_sector : (k : ℕ) → k / 16 ≡ u → pending_at g k ≡ pends (clip (encode o)) (k % 16)
  at_sector k e = ap (λ (b : Bytes). pends b (k % 16)) (ap g e ∙ h.bytes)

  found_at : first_pending a.sectors g ≡ 16 * u
  unfolding first_pending
  found_at =
      let less : u < a.sectors = h.in_log in
      let zero : 16 * u % 16 ≡ 0 = omega arith in
      first_is0 (pending_at g) (16 * a.sectors) (16 * u) (omega arith) (λ j lt. h.others (j / 16) (omega arith) (λ e. omega arith) (j % 16) (omega arith))
      (at_sector (16 * u) (omega arith) ∙ ap (pends (clip (encode o))) zero ∙ first_pends o fits fine.1)

  alone_at : alone a.sectors g (16 * u) (length (records o)) ≡ true
  unfolding alone
  alone_at = all_of0 (λ k. own k || not (pending_at g k)) (16 * a.sectors) (λ k less. go k less (same? (k / 16) u) (less? k (16 * u + length (records o))))
    where
      own : ℕ → Bool
      own k = leb (16 * u) k && ltb k (16 * u + length (records o))

      go : (k : ℕ) → k < 16 * a.sectors → (k / 16 ≡ u) ⊎ (k / 16 ≡ u → ⊥) → (k < 16 * u + length (records o)) ⊎ (16 * u + length (records o) ≤ k)
          → (own k || not (pending_at g k)) ≡ true
      go k less (inr ne) t = or_right (own k) _ (ap not (h.others (k / 16) (omega arith) ne (k % 16) (omega arith)))
      go k less (inl e) (inl t) = or_left (own k) _ (and_both _ _ (le-leb (16 * u) k (omega arith)) (lt-ltb k (16 * u + length (records o)) t))
      go k less (inl e) (inr t) = or_right (own k) _ (ap not (at_sector k e ∙ rest_quiet o fits (k % 16) (omega arith) (omega arith)))

  sizes : alone a.sectors g (16 * u) (group_size (record_at (clip (encode o)))) ≡ true
  sizes = ap (alone a.sectors g (16 * u)) (size_read o fits) ∙ alone_at

  accepted_at : accepted entries (z (clip (encode o))) a.sectors g (16 * u) ≡ true
  unfolding accepted
  accepted_at =
      let back : 16 * u / 16 ≡ u = omega arith in
      let here : g (16 * u / 16) ≡ clip (encode o) = ap g back ∙ h.bytes in
      rw here (each_every _ (eq-eqb (16 * u % 16) 0 (omega arith) also group_fine o fits entries (z (clip (encode o))) fine also sizes also tt))

  -- What is pending is the group in that sector.
  pub pending_is : pending_in entries z a g ≡ Pending.Held (a.sector + u)
  unfolding pending_in
  pending_is =
      let less : u < a.sectors = h.in_log in
      let back : 16 * u / 16 ≡ u = omega arith in
      rw (found_at, lt-ltb (16 * u) (16 * a.sectors) (omega arith), back, h.bytes, accepted_at)
