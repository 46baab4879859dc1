-- A directory listing in a lent buffer grows by a slot.
use mathlib.Core.Path.{◌≡◌, refl, sym, ap, ◌∙◌}
use mathlib.Core.Logic.{⊎_elim}
use mathlib.Core.Bool.{Bool, true, false}
use mathlib.Core.List.{List, [], ◌∷◌, ◌++◌, append-nil}
use Prim.Native.Nat.{ℕ, zero, suc, ◌+◌, ◌*◌, ◌/◌, ◌%◌, ◌<◌, ◌≤◌, min}
use native.Mathlib.Omega.{arith}
use lib.ListN.{length, get_or, length-append, get_or-append}
use lib.Seq.{get_or-append-add}
use lib.Dec.{eqb, leb, ltb}
use borrow.Author.Tests.{leb-true, leb-false, lt-ltb, le-ltb}
use Rattle.model.specs.Bytes.{pick, overlay, bytes_of}
use Rattle.model.specs.Scan.{all_from}
use Rattle.model.specs.Sector.{Card}
use Rattle.model.specs.Root.{slot_at, listed}
use Rattle.operations.specs.Reading.{Filled, directory_listing}
use Rattle.operations.specs.Promises.{Fills}
use Rattle.call_read.specs.Filled.{Listed, shown_to}
use Rattle.model.specs.declared.Layout.{Layout}
use Rattle.model.proofs.Scan.{indices_step, all_at}
use Rattle.root_read.proofs.Laws.{blank_unlisted}
use Rattle.model.proofs.Tests.{less?}
use Rattle.model.proofs.Overlays.{overlay_in, overlay_below, overlay_above, over_first}

pub listing_none : (l : Layout) (c : Card) (room : ℕ) (e : List ℕ) → Fills (directory_listing l c [] room) e e 0
unfolding directory_listing
listing_none l c room e = record { counted = refl; bytes = λ i. none i ∙ sym (over_first _ _ (bytes_of e) i) }
  where
    none : (i : ℕ) → get_or e i 0 ≡ pick (ltb i (32 * min 0 (room / 32))) (slot_at l c (get_or [] (i / 32) 0) (i % 32)) (get_or e i 0)
    none i = rw (le-ltb i (32 * min 0 (room / 32)) (omega arith))

module _ (l : Layout) (c : Card) (ss : List ℕ) (room : ℕ) (e x y : List ℕ) (n k : ℕ) (so : Fills (directory_listing l c ss room) e x n) where
  more : List ℕ
  more = ss ++ (k ∷ [])

  abbrev slots : List ℕ → ℕ → ℕ
  slots ts i = slot_at l c (get_or ts (i / 32) 0) (i % 32)

  counts : n ≡ length ss
  unfolding directory_listing
  counts = so.counted

  long : length (ss ++ (k ∷ [])) ≡ n + 1
  long = length-append ss (k ∷ []) ∙ ap (λ (z : ℕ). z + 1) (sym counts)

  -- the slots before are those before
  old : (i : ℕ) → i / 32 < n → slots (ss ++ (k ∷ [])) i ≡ slots ss i
  old i h = ap (λ (z : ℕ). slot_at l c z (i % 32)) (get_or-append ss (k ∷ []) 0 (i / 32) (omega (arith, counts)))

  was : (i : ℕ) → get_or x i 0 ≡ pick (ltb i (32 * min n (room / 32))) (slots ss i) (get_or e i 0)
  unfolding directory_listing
  was i = rw counts (so.bytes i ∙ over_first _ _ (bytes_of e) i)

  new : (i : ℕ) → i / 32 ≡ n → slots (ss ++ (k ∷ [])) i ≡ slot_at l c k (i % 32)
  new i h =
      let z : i / 32 ≡ length ss + 0 = omega (arith, counts) in
      ap (λ (q : ℕ). slot_at l c q (i % 32)) (ap (λ (q : ℕ). get_or (ss ++ (k ∷ [])) q 0) z ∙ get_or-append-add ss (k ∷ []) 0 0)

  -- a slot that fits
  pub listing_more : 32 * n + 32 ≤ room → ((i : ℕ) → get_or y i 0 ≡ overlay 32 (slot_at l c k) (32 * n) (bytes_of x) i)
      → Fills (directory_listing l c (ss ++ (k ∷ [])) room) e y (n + 1)
  unfolding directory_listing
  listing_more fits step = record { counted = sym long; bytes = λ i. rw long (step i ∙ byte i ∙ sym (over_first _ _ (bytes_of e) i)) }
    where
      byte : (i : ℕ) → overlay 32 (slot_at l c k) (32 * n) (bytes_of x) i ≡ pick (ltb i (32 * min (n + 1) (room / 32)))
          (slots (ss ++ (k ∷ [])) i) (get_or e i 0)
      byte i = ⊎_elim low (λ u. ⊎_elim (mid u) high (less? i (32 * n + 32))) (less? i (32 * n))
        where
          low : i < 32 * n → overlay 32 (slot_at l c k) (32 * n) (bytes_of x) i ≡ pick (ltb i (32 * min (n + 1) (room / 32)))
              (slots (ss ++ (k ∷ [])) i) (get_or e i 0)
          low h = rw (lt-ltb i (32 * min (n + 1) (room / 32)) (omega arith))
              (overlay_below (slot_at l c k) (32 * n) (bytes_of x) 32 i h ∙ was i
              ∙ rw (lt-ltb i (32 * min n (room / 32)) (omega arith)) (sym (old i (omega arith))))

          mid : 32 * n ≤ i → i < 32 * n + 32 → overlay 32 (slot_at l c k) (32 * n) (bytes_of x) i ≡ pick (ltb i (32 * min (n + 1) (room / 32)))
              (slots (ss ++ (k ∷ [])) i) (get_or e i 0)
          mid u h = rw (lt-ltb i (32 * min (n + 1) (room / 32)) (omega arith))
              (overlay_in (slot_at l c k) (32 * n) (bytes_of x) 32 i u h ∙ ap (slot_at l c k) (omega arith) ∙ sym (new i (omega arith)))

          high : 32 * n + 32 ≤ i → overlay 32 (slot_at l c k) (32 * n) (bytes_of x) i ≡ pick (ltb i (32 * min (n + 1) (room / 32)))
              (slots (ss ++ (k ∷ [])) i) (get_or e i 0)
          high h = rw (le-ltb i (32 * min (n + 1) (room / 32)) (omega arith))
              (overlay_above (slot_at l c k) (32 * n) (bytes_of x) 32 i h ∙ was i ∙ rw (le-ltb i (32 * min n (room / 32)) (omega arith)) refl)

  -- a slot that does not
  pub listing_full : room < 32 * n + 32 → Fills (directory_listing l c (ss ++ (k ∷ [])) room) e x (n + 1)
  unfolding directory_listing
  listing_full full = record { counted = sym long; bytes = λ i. rw long (was i ∙ byte i ∙ sym (over_first _ _ (bytes_of e) i)) }
    where
      byte : (i : ℕ) → pick (ltb i (32 * min n (room / 32))) (slots ss i) (get_or e i 0) ≡ pick (ltb i (32 * min (n + 1) (room / 32)))
          (slots (ss ++ (k ∷ [])) i) (get_or e i 0)
      byte i =
          let m : min (n + 1) (room / 32) ≡ min n (room / 32) = omega arith in
          rw m (⊎_elim (λ h. rw (lt-ltb i (32 * min n (room / 32)) h) (sym (old i (omega arith))))
          (λ h. rw (le-ltb i (32 * min n (room / 32)) h) refl) (less? i (32 * min n (room / 32))))

pub fills_same : (f : Filled) (e x y : List ℕ) (n : ℕ) → Fills f e x n → ((i : ℕ) → get_or y i 0 ≡ get_or x i 0) → Fills f e y n
fills_same f e x y n so h = record { counted = so.counted; bytes = λ i. h i ∙ so.bytes i }

module _ (l : Layout) (c : Card) (k n : ℕ) (e x y : List ℕ) (m : ℕ) (t : Listed l c k n x y m) where
  pub listed_le : m ≤ n + 1
  listed_le = go (listed (slot_at l c k)) t.counted
    where
      go : (b : Bool) → m ≡ n + pick b 1 0 → m ≤ n + 1
      go true h = omega arith
      go false h = omega arith

  -- a turn of the loop over the slots
  pub listing_step : Fills (directory_listing l c (shown_to l c k) (length e)) e x n → length x ≡ length e
      → Fills (directory_listing l c (shown_to l c (k + 1)) (length e)) e y m
  listing_step so same = rw (indices_step (λ j. listed (slot_at l c j)) 0 k) (go (listed (slot_at l c k)) refl (leb (32 * n + 32) (length x)) refl)
    where
      z : 0 + k ≡ k
      z = omega arith

      go : (b : Bool) → listed (slot_at l c k) ≡ b → (d : Bool) → leb (32 * n + 32) (length x) ≡ d
          → Fills (directory_listing l c (shown_to l c k ++ pick (listed (slot_at l c (0 + k))) ((0 + k) ∷ []) []) (length e)) e y m
      go true p true f =
          let counted : m ≡ n + 1 = rw p at t.counted in
          rw (z, p, counted) (listing_more l c (shown_to l c k) (length e) e x y n k so (omega (arith, leb-true (32 * n + 32) (length x) f))
          (λ i. rw (p, f) at (t.bytes i)))
      go true p false f =
          let counted : m ≡ n + 1 = rw p at t.counted in
          rw (z, p, counted)
          (fills_same (directory_listing l c (shown_to l c k ++ (k ∷ [])) (length e)) e x y (n + 1)
          (listing_full l c (shown_to l c k) (length e) e x y n k so (omega (arith, leb-false (32 * n + 32) (length x) f)))
          (λ i. rw (p, f) at (t.bytes i)))
      go false p d f =
          let counted : m ≡ n = (rw p at t.counted) ∙ omega arith in
          rw (z, p, append-nil, counted)
          (fills_same (directory_listing l c (shown_to l c k) (length e)) e x y n so (λ i. rw p at (t.bytes i)))

-- A sector of slots that were never used adds nothing.
pub shown_past : (l : Layout) (c : Card) (k n : ℕ) → all_from (λ m. eqb (slot_at l c m 0) 0) k n ≡ true → shown_to l c (k + n) ≡ shown_to l c k
shown_past l c k n blank = go n (omega arith)
  where
    unlisted : (m : ℕ) → m < n → listed (slot_at l c (0 + (k + m))) ≡ false
    unlisted m less =
        let z : 0 + (k + m) ≡ k + m = omega arith in
        rw z (blank_unlisted (slot_at l c (k + m)) (all_at (λ m. eqb (slot_at l c m 0) 0) k n blank (k + m) (omega arith) (omega arith)))

    go : (m : ℕ) → m ≤ n → shown_to l c (k + m) ≡ shown_to l c k
    go zero le = ap (shown_to l c) (omega arith)
    go (suc m) le =
        let z : k + suc m ≡ k + m + 1 = omega arith in
        rw (z, indices_step (λ j. listed (slot_at l c j)) 0 (k + m), unlisted m (omega arith), append-nil) (go m (omega arith))
