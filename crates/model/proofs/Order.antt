-- Laws of ground ROOT: the first bytes of n slots, in order, also while slots are filled; the lowest that begins 0.
use Prim.Native.Nat.{ℕ, ◌≤◌, ◌<◌}
use native.Mathlib.Omega.{arith}
use mathlib.Core.Path.{◌≡◌, sym, ◌∙◌}
use mathlib.Core.Logic.{◌⊎◌, inl, inr, ⊎_elim}
use mathlib.Core.Bool.{true, false, ◌||◌}
use lib.Dec.{eqb, leb}
use borrow.Author.Tests.{eqb-false, eqb-true, lt-leb, ne_eqb, eq-eqb, le-leb}
use Rattle.model.specs.Bytes.{Bytes, pick}
use Rattle.model.specs.Scan.{among}
use Rattle.model.specs.Root.{end_slot, root_ok}
use Rattle.model.specs.Pending.{named_slots, end_past}
use Rattle.model.specs.declared.Operation.{Operation}
use Rattle.model.proofs.Tests.{told, or_right, or_left, less?}
use Rattle.model.proofs.Scan.{first_le0, first_before0, first_has0, first_same, all_at0, first_above0, all_of0}

-- Slots below z begin otherwise than 0, those after z begin 0. Slot z itself may do either.
pub record Ordered (n z : ℕ) (b : Bytes) : Type 0 where
  pub within : z ≤ n
  pub below : (k : ℕ) → k < z → b k ≡ 0 → ⊥
  pub above : (k : ℕ) → z < k → k < n → b k ≡ 0

module _ (n : ℕ) (b : Bytes) where
  pub end_le : end_slot n b ≤ n
  unfolding end_slot
  end_le = first_le0 (λ k. eqb (b k) 0) n

  -- What ROOT accepts is ordered,
  pub ordered : root_ok n b ≡ true → Ordered n (end_slot n b) b
  unfolding root_ok end_slot
  ordered h = record {
    within = end_le;
    below = λ k less. eqb-false (b k) 0 (first_before0 (λ k. eqb (b k) 0) n k less);
    above = λ k more less. eqb-true (b k) 0 (rw (lt-leb k (end_slot n b) more) at (all_at0 (λ k. leb k (end_slot n b) || eqb (b k) 0) n h k less));
  }

  -- and what is ordered it accepts, with the lowest slot beginning 0 not below z.
  pub ordered_end : (z : ℕ) → Ordered n z b → z ≤ end_slot n b
  unfolding end_slot
  ordered_end z o = first_above0 (λ k. eqb (b k) 0) n z o.within (λ k less. ne_eqb (b k) 0 (o.below k less))

  pub ordered_ok : (z : ℕ) → Ordered n z b → root_ok n b ≡ true
  unfolding root_ok
  ordered_ok z o = all_of0 (λ k. leb k (end_slot n b) || eqb (b k) 0) n (λ k less. ⊎_elim
      (λ h. let low : z ≤ end_slot n b = ordered_end z o in or_right (leb k (end_slot n b)) _ (eq-eqb (b k) 0 (o.above k (omega arith) less)))
      (λ h. or_left _ _ (le-leb k (end_slot n b) h)) (less? (end_slot n b) k))

-- Other slots with the same first bytes.
pub ordered_same : (n z : ℕ) (a b : Bytes) → ((k : ℕ) → k < n → b k ≡ a k) → Ordered n z a → Ordered n z b
ordered_same n z a b h o = record {
  within = o.within;
  below = λ k less e. let low : z ≤ n = o.within in o.below k less (sym (h k (omega arith)) ∙ e);
  above = λ k more less. h k less ∙ o.above k more less;
}

-- ---- order, two slots at a time

-- After a slot that begins 0 all begin so.
abbrev pub InOrder : ℕ → Bytes → Type 0
InOrder n b = (j k : ℕ) → j < k → k < n → b j ≡ 0 → b k ≡ 0

module _ (n : ℕ) (b : Bytes) where
  pub in_order : root_ok n b ≡ true → InOrder n b
  in_order h j k less in_root e =
      let o : Ordered n (end_slot n b) b = ordered n b h in
      ⊎_elim (λ low. absurd (o.below j low e)) (λ high. o.above k (omega arith) in_root) (less? j (end_slot n b))

  pub order_ok : InOrder n b → root_ok n b ≡ true
  unfolding root_ok end_slot
  order_ok h = all_of0 (λ k. leb k (end_slot n b) || eqb (b k) 0) n (λ k less. ⊎_elim
      (λ more. or_right (leb k (end_slot n b)) _ (eq-eqb (b k) 0 (h (end_slot n b) k more less
      (eqb-true (b (end_slot n b)) 0 (first_has0 (λ k. eqb (b k) 0) n (omega arith))))))
      (λ low. or_left _ _ (le-leb k (end_slot n b) low)) (less? (end_slot n b) k))

pub order_same : (n : ℕ) (a b : Bytes) → ((k : ℕ) → k < n → b k ≡ a k) → root_ok n a ≡ true → root_ok n b ≡ true
order_same n a b h ok = order_ok n b (λ j k less in_root e. h k in_root ∙ in_order n a ok j k less in_root (sym (h j (omega arith)) ∙ e))

-- ---- the lowest slot beginning 0, where the slots that an operation names are read as if they began 0xE5

module _ (o : Operation) (n : ℕ) (f : Bytes) where
  abbrev Seen : ℕ → ℕ
  Seen k = pick (among (named_slots o) k) 0xE5 (f k)

  -- A slot below it that is not named does not begin 0,
  pub seen_before : (k : ℕ) → k < end_past o n f → eqb (Seen k) 0 ≡ false
  unfolding end_past end_slot
  seen_before k less = first_before0 (λ k. eqb (Seen k) 0) n k less

  pub seen_below : (k : ℕ) → k < end_past o n f → among (named_slots o) k ≡ false → f k ≡ 0 → ⊥
  seen_below k less off e = eqb-false (Seen k) 0 (seen_before k less) (rw off e)

  -- and it is not below the lowest slot that does.
  pub seen_up : end_slot n f ≤ end_past o n f
  unfolding end_past end_slot
  seen_up = first_above0 (λ k. eqb (Seen k) 0) n (end_slot n f) (end_le n f) (λ k less. go k less (told (among (named_slots o) k)))
    where
      go : (k : ℕ) → k < end_slot n f → (among (named_slots o) k ≡ true) ⊎ (among (named_slots o) k ≡ false) → eqb (Seen k) 0 ≡ false
      go k less (inl on) = rw on
      go k less (inr off) = rw off (first_before0 (λ k. eqb (f k) 0) n k less)

-- First bytes that differ in named slots only.
pub seen_same : (o : Operation) (n : ℕ) (f g : Bytes) → ((k : ℕ) → k < n → among (named_slots o) k ≡ false → f k ≡ g k) → end_past o n f ≡ end_past o n g
unfolding end_past end_slot
seen_same o n f g h = first_same (λ k. eqb (Seen o n f k) 0) (λ k. eqb (Seen o n g k) 0) 0 n (λ k lo hi. go k (omega arith) (told (among (named_slots o) k)))
  where
    go : (k : ℕ) → k < n → (among (named_slots o) k ≡ true) ⊎ (among (named_slots o) k ≡ false) → eqb (Seen o n f k) 0 ≡ eqb (Seen o n g k) 0
    go k less (inl on) = rw on
    go k less (inr off) = rw (off, h k less off)

-- ---- slots that an operation fills

-- It leaves the others; each that it names is not above z and begins otherwise than 0 then.
module _ (n : ℕ) (o : Operation) (old new : Bytes) (ok : root_ok n old ≡ true)
    (kept : (k : ℕ) → k < n → among (named_slots o) k ≡ false → new k ≡ old k)
    (live : (k : ℕ) → k < n → among (named_slots o) k ≡ true → new k ≡ 0 → ⊥) where
  -- A slot that begins 0 after it began so before.
  none_new : (j : ℕ) → j < n → new j ≡ 0 → (among (named_slots o) j ≡ false) × (old j ≡ 0)
  none_new j less e = ⊎_elim (λ on. absurd (live j less on e)) (λ off. (off, sym (kept j less off) ∙ e)) (told (among (named_slots o) j))

  -- Slots that are filled from the lowest on: those below m as they will be, the others as in y, which is in order.
  pub row_ok : ((k : ℕ) → k < n → among (named_slots o) k ≡ true → k ≤ end_past o n old) → (y x : Bytes) (m : ℕ)
      → ((k : ℕ) → k < n → (y k ≡ old k) ⊎ (y k ≡ new k)) → root_ok n y ≡ true
      → ((k : ℕ) → k < m → k < n → x k ≡ new k) → ((k : ℕ) → m ≤ k → k < n → x k ≡ y k) → root_ok n x ≡ true
  row_ok seats y x m near y-ok low high = order_ok n x (λ j k less in_root e. go j k less in_root e (less? j m) (less? k m))
    where
      filled : (j k : ℕ) → j < k → k < n → among (named_slots o) j ≡ false → old j ≡ 0 → new k ≡ 0
      filled j k less in_root off e = ⊎_elim
          (λ on. let top = seats k in_root on in absurd (seen_below o n old j (omega arith) off e))
          (λ out. kept k in_root out ∙ in_order n old ok j k less in_root e) (told (among (named_slots o) k))

      go : (j k : ℕ) → j < k → k < n → x j ≡ 0 → (j < m) ⊎ (m ≤ j) → (k < m) ⊎ (m ≤ k) → x k ≡ 0
      go j k less in_root e (inr a) b =
          high k (omega arith) in_root ∙ in_order n y y-ok j k less in_root (sym (high j a (omega arith)) ∙ e)
      go j k less in_root e (inl a) (inl b) =
          let z = none_new j (omega arith) (sym (low j a (omega arith)) ∙ e) in
          low k b in_root ∙ filled j k less in_root z.0 z.1
      go j k less in_root e (inl a) (inr b) =
          let was : new j ≡ 0 = sym (low j a (omega arith)) ∙ e in
          let z = none_new j (omega arith) was in
          high k b in_root ∙ in_order n y y-ok j k less in_root (⊎_elim (λ q. q ∙ z.1) (λ q. q ∙ was) (near j (omega arith)))

  -- Slots not above the lowest that begins 0, filled in any order.
  pub any_ok : ((k : ℕ) → k < n → among (named_slots o) k ≡ true → k ≤ end_slot n old) → (x : Bytes)
      → ((k : ℕ) → k < n → (x k ≡ old k) ⊎ (x k ≡ new k)) → root_ok n x ≡ true
  any_ok seats x near = order_ok n x (λ j k less in_root e. go j k less in_root (zero j (omega arith) e (near j (omega arith))) (near k in_root))
    where
      zero : (j : ℕ) → j < n → x j ≡ 0 → (x j ≡ old j) ⊎ (x j ≡ new j) → old j ≡ 0
      zero j less e (inl a) = sym a ∙ e
      zero j less e (inr a) = (none_new j less (sym a ∙ e)).1

      go : (j k : ℕ) → j < k → k < n → old j ≡ 0 → (x k ≡ old k) ⊎ (x k ≡ new k) → x k ≡ 0
      go j k less in_root e (inl a) = a ∙ in_order n old ok j k less in_root e
      go j k less in_root e (inr a) = a ∙ ⊎_elim
          (λ on. let top = seats k in_root on in absurd ((ordered n old ok).below j (omega arith) e))
          (λ off. kept k in_root off ∙ in_order n old ok j k less in_root e) (told (among (named_slots o) k))
