-- Laws of the long entries that belong to a slot: what they are like, and how a scan going back finds their number.
use Prim.Native.Nat.{ℕ, ◌+◌, ◌-◌, ◌≤◌, ◌<◌}
use native.Mathlib.Omega.{arith}
use mathlib.Core.Path.{◌≡◌, refl, sym, ap, ◌∙◌, subst}
use mathlib.Core.Logic.{◌⊎◌, inl, inr, ⊎_elim}
use mathlib.Core.Bool.{Bool, true, false, and-false}
use lib.Dec.{leb}
use borrow.Author.Tests.{eq-eqb, ne_eqb, eqb-true, le-leb, lt-leb, leb-true}
use Rattle.model.specs.Bytes.{Bytes, pick}
use Rattle.model.specs.Scan.{first_from, all_from}
use Rattle.model.specs.Root.{Directory, is_label}
use Rattle.model.specs.Long.{checksum, is_long, order_byte, belong, most_long, long_count}
use Rattle.model.proofs.Tests.{told, less?, same?, and_left, and_right, and_both, every_at, every_not}
use Rattle.model.proofs.Scan.{Sofar, all_of, all_at, all_not, first_is, first_none, first_ge, first_has}
use Rattle.model.proofs.Long.{OfName}
use Rattle.model.specs.Record.{starts}

-- ---- one entry

-- It begins as its number says: its slot is no vacant one. And it bears bit 0x08.
module _ (sum order : ℕ) (b : Bytes) (h : is_long sum order b ≡ true) where
  long_first : b 0 ≡ order
  unfolding is_long
  long_first = eqb-true (b 0) order (every_at _ h 0)

  long_label : is_label b ≡ true
  unfolding is_long is_label
  long_label = let e : b 11 ≡ 0x0F = eqb-true (b 11) 0x0F (every_at _ h 1) in rw e

-- Another number is another entry.
long_other : (sum i j : ℕ) (b : Bytes) → is_long sum i b ≡ true → (i ≡ j → ⊥) → is_long sum j b ≡ false
unfolding is_long
long_other sum i j b h ne = every_not _ 0 (ne_eqb (b 0) j (λ e. ne (sym (long_first sum i b h) ∙ e)))

module _ (n i : ℕ) where
  pub order_last : i ≡ n → order_byte n i ≡ 0x40 + i
  order_last e = rw (eq-eqb i n e)

  pub order_inner : (i ≡ n → ⊥) → order_byte n i ≡ i
  order_inner ne = rw (ne_eqb i n ne)

  pub order_range : (order_byte n i ≡ 0x40 + i) ⊎ (order_byte n i ≡ i)
  order_range = ⊎_elim (λ e. inl (order_last e)) (λ ne. inr (order_inner ne)) (same? i n)

-- ---- those before slot s of a directory

module _ (d : Directory) (s : ℕ) where
  abbrev entry_test : ℕ → ℕ → Bool
  entry_test n i = is_long (checksum (d s)) (order_byte n i) (d (s - i))

  abbrev pub inner_test : ℕ → Bool
  inner_test i = is_long (checksum (d s)) i (d (s - i))

  belong_low : (n : ℕ) → belong d s n ≡ true → n ≤ s
  unfolding belong
  belong_low n h = leb-true n s (and_left (leb n s) (all_from (entry_test n) 1 n) h)

  belong_at : (n : ℕ) → belong d s n ≡ true → (i : ℕ) → 1 ≤ i → i ≤ n → entry_test n i ≡ true
  unfolding belong
  belong_at n h i low high = all_at (entry_test n) 1 n (and_right (leb n s) (all_from (entry_test n) 1 n) h) i low (omega arith)

  belong_is : (n : ℕ) → n ≤ s → ((i : ℕ) → 1 ≤ i → i ≤ n → entry_test n i ≡ true) → belong d s n ≡ true
  unfolding belong
  belong_is n low h = and_both (leb n s) (all_from (entry_test n) 1 n) (le-leb n s low) (all_of (entry_test n) 1 n (λ i lo hi. h i lo (omega arith)))

  belong_not : (n i : ℕ) → 1 ≤ i → i ≤ n → entry_test n i ≡ false → belong d s n ≡ false
  unfolding belong
  belong_not n i low high h = rw (all_not (entry_test n) 1 n i low (omega arith) h, and-false)

  belong_past : (n : ℕ) → s < n → belong d s n ≡ false
  unfolding belong
  belong_past n less = rw (lt-leb n s less)

  -- How many belong: none, or as many as do.
  pub counted : (long_count d s ≡ 0) ⊎ ((belong d s (long_count d s) ≡ true) × (1 ≤ long_count d s) × (long_count d s ≤ most_long))
  unfolding long_count
  counted = go (told (leb (first_from (belong d s) 1 most_long) most_long))
    where
      n : ℕ
      n = first_from (belong d s) 1 most_long

      go : (leb n most_long ≡ true) ⊎ (leb n most_long ≡ false) → (pick (leb n most_long) n 0 ≡ 0)
          ⊎ ((belong d s (pick (leb n most_long) n 0) ≡ true) × (1 ≤ pick (leb n most_long) n 0) × (pick (leb n most_long) n 0 ≤ most_long))
      go (inl e) =
          let le : n ≤ most_long = leb-true n most_long e in
          inr (rw e (first_has (belong d s) 1 most_long (omega arith)), (rw e (first_ge (belong d s) 1 most_long)), (rw e le))
      go (inr e) = inl (rw e)

  pub count_few : long_count d s ≤ most_long
  count_few = ⊎_elim (λ e. omega arith) (λ k. k.2) counted

  pub count_low : long_count d s ≤ s
  count_low = ⊎_elim (λ e. omega arith) (λ k. belong_low (long_count d s) k.0) counted

  -- A slot of the name but its own is live, and no file's: it is a long entry.
  module _ (k : ℕ) (w : OfName s (long_count d s) k) (ne : k ≡ s → ⊥) where
    long_at : entry_test (long_count d s) (s - k) ≡ true
    long_at = ⊎_elim (λ e. absurd (omega (arith, w))) (λ b. belong_at (long_count d s) b.0 (s - k) (omega (arith, w.0)) w.1) counted

    back : s - (s - k) ≡ k
    back = omega (arith, w.0)

    pub long_is_label : is_label (d k) ≡ true
    long_is_label = subst (λ i. is_label (d i) ≡ true) back (long_label (checksum (d s)) (order_byte (long_count d s) (s - k)) (d (s - (s - k))) long_at)

    first_is_order : d k 0 ≡ order_byte (long_count d s) (s - k)
    first_is_order = ap (λ (i : ℕ). d i 0) (sym back) ∙ long_first (checksum (d s)) (order_byte (long_count d s) (s - k)) (d (s - (s - k))) long_at

    pub long_starts : starts (d k 0) ≡ true
    long_starts =
        let few : long_count d s ≤ most_long = count_few in
        let range = order_range (long_count d s) (s - k) in
        let not-zero : d k 0 ≡ 0 → ⊥ = λ e. ⊎_elim (λ (q : order_byte (long_count d s) (s - k) ≡ 0x40 + (s - k)). omega (arith, first_is_order))
        (λ (q : order_byte (long_count d s) (s - k) ≡ s - k). omega (arith, first_is_order, w.0)) range in
        let not-deleted : d k 0 ≡ 0xE5 → ⊥ = λ e. ⊎_elim (λ (q : order_byte (long_count d s) (s - k) ≡ 0x40 + (s - k)). omega (arith, first_is_order, w.1))
        (λ (q : order_byte (long_count d s) (s - k) ≡ s - k). omega (arith, first_is_order, w.1)) range in
        rw (ne_eqb (d k 0) 0 not-zero, ne_eqb (d k 0) 0xE5 not-deleted)

  -- ---- a scan going back

  -- The entries seen so far are inner ones: the last is not among them.
  inner_not : (i : ℕ) → Sofar inner_test true 1 i → (n : ℕ) → 1 ≤ n → n < i → belong d s n ≡ false
  inner_not i so n low less =
      belong_not n n low (omega arith)
      (ap (λ o. is_long (checksum (d s)) o (d (s - n))) (order_last n n refl) ∙ long_other (checksum (d s)) n (0x40 + n) (d (s - n)) (so n low less)
      (λ e. omega arith))

  count_none : ((n : ℕ) → 1 ≤ n → n ≤ most_long → belong d s n ≡ false) → long_count d s ≡ 0
  unfolding long_count
  count_none h = let e : first_from (belong d s) 1 most_long ≡ 1 + most_long = first_none (belong d s) 1 most_long (λ n lo hi. h n lo (omega arith)) in rw e

  -- It ends at slot 0, or after as many as may be,
  pub count_past : (i : ℕ) → Sofar inner_test true 1 i → s < i → long_count d s ≡ 0
  count_past i so less = count_none (λ n low high. ⊎_elim (λ lt. inner_not i so n low lt) (λ ge. belong_past n (omega arith)) (less? n i))

  pub count_over : (i : ℕ) → Sofar inner_test true 1 i → most_long < i → long_count d s ≡ 0
  count_over i so less = count_none (λ n low high. inner_not i so n low (omega arith))

  -- at the last entry,
  pub count_found : (i : ℕ) → Sofar inner_test true 1 i → 1 ≤ i → i ≤ most_long → i ≤ s → is_long (checksum (d s)) (0x40 + i) (d (s - i)) ≡ true
      → long_count d s ≡ i
  unfolding long_count
  count_found i so low few le h =
      let here : belong d s i ≡ true = belong_is i le (λ j lo hi. ⊎_elim
      (λ e. subst (λ (j : ℕ). entry_test i j ≡ true) (sym e) (ap (λ o. is_long (checksum (d s)) o (d (s - i))) (order_last i i refl) ∙ h))
      (λ ne. ap (λ o. is_long (checksum (d s)) o (d (s - j))) (order_inner i j ne) ∙ so j lo (omega arith)) (same? j i)) in
      let e : first_from (belong d s) 1 most_long ≡ i =
      first_is (belong d s) 1 most_long i low (omega arith) (λ n lo hi. inner_not i so n lo hi) here in
      rw (e, le-leb i most_long few)

  -- or at one that is neither.
  pub count_broken : (i : ℕ) → Sofar inner_test true 1 i → 1 ≤ i → is_long (checksum (d s)) (0x40 + i) (d (s - i)) ≡ false → inner_test i ≡ false
      → long_count d s ≡ 0
  count_broken i so low last inner = count_none (λ n lo hi. ⊎_elim (λ lt. inner_not i so n lo lt)
      (λ ge. belong_not n i low ge (⊎_elim
      (λ e. ap (λ o. is_long (checksum (d s)) o (d (s - i))) (order_last n i e) ∙ last)
      (λ ne. ap (λ o. is_long (checksum (d s)) o (d (s - i))) (order_inner n i ne) ∙ inner) (same? i n))) (less? n i))
