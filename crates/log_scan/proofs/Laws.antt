-- Laws of the scan of a log table.
use Prim.Native.Nat.{ℕ, ◌+◌, ◌-◌, ◌*◌, ◌/◌, ◌%◌, ◌<◌, ◌≤◌}
use native.Mathlib.Omega.{arith}
use mathlib.Core.Path.{◌≡◌, refl, sym, ap, ◌∙◌, subst}
use mathlib.Core.Logic.{⊎_elim, ◌⊎◌, inl, inr}
use mathlib.Core.Bool.{Bool, true, false, ◌&&◌, ◌||◌, not}
use mathlib.Core.List.{List}
use Rattle.std.proofs.Common.{Option, Some, None}
use Rattle.std.proofs.lemmas.Option.{none-some, same_Some}
use lib.ListN.{length}
use lib.Dec.{leb, ltb, eqb}
use borrow.Author.Tests.{ltb-true, ltb-false, lt-ltb, le-ltb, le-leb, lt-leb}
use Rattle.model.specs.Bytes.{pick}
use Rattle.model.specs.Scan.{every, all, all_from, first_from}
use Rattle.model.specs.Sector.{card_of, Card}
use Rattle.model.specs.Log.{Log, log_of}
use Rattle.model.specs.Record.{tells, pends, record_at, group_size}
use Rattle.model.specs.Pending.{pending_at, first_pending, group_ok, alone, accepted, pending_in, seen_end, pending}
use Rattle.model.specs.declared.Area.{Area}
use Rattle.model.specs.declared.Pending.{Pending}
use Rattle.model.proofs.Tests.{less?, told}
use Rattle.model.proofs.Scan.{Sofar, none_below, first_is, first_has, first_ge, first_before, all_of, all_not, all_at0}
use Rattle.model.proofs.Logs.{first_pending_same, pending_same}
use Rattle.log_scan.specs.Place.{place_of, judged, Seen, Table}
use Rattle.log_scan.specs.declared.Place.{Place}
use Rattle.model.specs.declared.Layout.{Layout}

-- Record r of sector s.
pub at_place : (g : Log) (s r : ℕ) → r < 16 → pending_at g (16 * s + r) ≡ pends (g s) r
at_place g s r h =
    let a : (16 * s + r) / 16 ≡ s = omega arith in
    let b : (16 * s + r) % 16 ≡ r = omega arith in
    rw (a, b)

-- A sector whose records all begin 0 has none that pends.
pub blank_idle : (g : Log) (s : ℕ) → all (λ i. eqb (g s (32 * i)) 0) 16 ≡ true → Sofar (pending_at g) false 0 (16 * s)
    → Sofar (pending_at g) false 0 (16 * (s + 1))
unfolding pends tells
blank_idle g s blank inv m l h =
    ⊎_elim
    (λ low. inv m l low)
    (λ up.
    let d : m / 16 ≡ s = omega arith in
    let z : eqb (g s (32 * (m % 16))) 0 ≡ true = all_at0 (λ i. eqb (g s (32 * i)) 0) 16 blank (m % 16) (omega arith) in
    rw (d, z))
    (less? m (16 * s))

-- The first pending record of n sectors is record r of sector s.
pub record FirstAt (n : ℕ) (g : Log) (s r : ℕ) : Type 0 where
  pub few : r < 16
  pub within : s < n
  pub none : Sofar (pending_at g) false 0 (16 * s + r)
  pub here : pends (g s) r ≡ true

pub place_none : (n : ℕ) (g : Log) → Sofar (pending_at g) false 0 (16 * n) → place_of (first_pending n g) n ≡ None
unfolding place_of first_pending
place_none n g h = rw (none_below (pending_at g) (16 * n) (16 * n) h (omega arith), le-ltb (16 * n) (16 * n) (omega arith))

pub place_found : (n : ℕ) (g : Log) (s r : ℕ) → FirstAt n g s r → place_of (first_pending n g) n ≡ Some (record { sector = s; number = r })
unfolding place_of first_pending
place_found n g s r f =
    let a : (16 * s + r) / 16 ≡ s = omega (arith, f.few) in
    let b : (16 * s + r) % 16 ≡ r = omega (arith, f.few) in
    let e : first_from (pending_at g) 0 (16 * n) ≡ 16 * s + r =
    first_is (pending_at g) 0 (16 * n) (16 * s + r) (omega arith) (omega (arith, f.few, f.within)) f.none (at_place g s r f.few ∙ f.here) in
    rw (e, lt-ltb (16 * s + r) (16 * n) (omega (arith, f.few, f.within)), a, b)

-- A place, taken apart.
pub record Placed (i n s r : ℕ) : Type 0 where
  pub at : i ≡ 16 * s + r
  pub few : r < 16
  pub within : s < n

pub placed : (i n : ℕ) (p : Place) → place_of i n ≡ Some p → Placed i n p.sector p.number
unfolding place_of
placed i n p h = go (ltb i (16 * n)) refl
  where
    go : (t : Bool) → ltb i (16 * n) ≡ t → Placed i n p.sector p.number
    go true e =
        let same = same_Some _ _ (rw e at h) in
        let a : i / 16 ≡ p.sector = ap (λ (p : Place). p.sector) same in
        let b : i % 16 ≡ p.number = ap (λ (p : Place). p.number) same in
        let l : i < 16 * n = ltb-true i (16 * n) e in
        record { at = omega arith; few = omega arith; within = omega arith }
    go false e = absurd (none-some _ (rw e at h))

pub nowhere : (i n : ℕ) → place_of i n ≡ None → 16 * n ≤ i
unfolding place_of
nowhere i n h = go (ltb i (16 * n)) refl
  where
    go : (t : Bool) → ltb i (16 * n) ≡ t → 16 * n ≤ i
    go true e = absurd (none-some _ (sym (rw e at h)))
    go false e = ltb-false i (16 * n) e

-- The first pending record is the group's: the others are sought after it.
module _ (n : ℕ) (g : Log) (i m : ℕ) (first : first_pending n g ≡ i) (fits : i + m ≤ 16 * n) where
  abbrev next : ℕ
  next = first_from (pending_at g) (i + m) (16 * n - (i + m))

  pub alone_is : alone n g i m ≡ leb (16 * n) next
  unfolding alone first_pending
  alone_is = ⊎_elim more none (less? next (16 * n))
    where
      p : ℕ → Bool
      p k = (leb i k && ltb k (i + m)) || not (pending_at g k)

      more : next < 16 * n → all_from p 0 (16 * n) ≡ leb (16 * n) next
      more l =
          let has : pending_at g next ≡ true = first_has (pending_at g) (i + m) (16 * n - (i + m)) (omega arith) in
          let from : i + m ≤ next = first_ge (pending_at g) (i + m) (16 * n - (i + m)) in
          all_not p 0 (16 * n) next (omega arith) (omega arith) (rw (le-leb i next (omega arith), le-ltb next (i + m) from, has))
          ∙ sym (lt-leb (16 * n) next l)

      each : 16 * n ≤ next → (k : ℕ) → 0 ≤ k → k < 0 + 16 * n → p k ≡ true
      each l k a b = ⊎_elim below (λ u. ⊎_elim (inside u) (after u) (less? k (i + m))) (less? k i)
        where
          below : k < i → p k ≡ true
          below h = rw (lt-leb i k h, first_before (pending_at g) 0 (16 * n) k a (rw first h))

          inside : i ≤ k → k < i + m → p k ≡ true
          inside u h = rw (le-leb i k u, lt-ltb k (i + m) h)

          after : i ≤ k → i + m ≤ k → p k ≡ true
          after u h = rw (le-leb i k u, le-ltb k (i + m) h, first_before (pending_at g) (i + m) (16 * n - (i + m)) k h (omega arith))

      none : 16 * n ≤ next → all_from p 0 (16 * n) ≡ leb (16 * n) next
      none l = all_of p 0 (16 * n) (each l) ∙ sym (le-leb (16 * n) next l)

-- Record r of sector s begins what is pending.
pub judged_at : (entries z : ℕ) (a : Area) (g : Log) (s r : ℕ) → r < 16
    → judged entries z a g (16 * s + r)
    ≡ pick (eqb r 0 && (group_ok entries z (g s) && (alone a.sectors g (16 * s + r) (group_size (record_at (g s))) && true)))
    (Pending.Held (a.sector + s)) Pending.Broken
unfolding judged accepted every
judged_at entries z a g s r h =
    let e : (16 * s + r) / 16 ≡ s = omega arith in
    let f : (16 * s + r) % 16 ≡ r = omega arith in
    rw (e, f)

-- The log as a part of a window: its first pending record, and what is pending.
module _ (a : Area) (w xs : List ℕ) (t : Table a w xs) where
  pub first_part : first_pending a.sectors (card_of xs) ≡ first_pending a.sectors (log_of a (card_of w))
  first_part = first_pending_same a.sectors (card_of xs) (log_of a (card_of w)) t.same

  pub pending_part : (entries z : ℕ) → pending_in entries (λ _. z) a (card_of xs) ≡ pending_in entries (λ _. z) a (log_of a (card_of w))
  pending_part entries z = pending_same entries (λ _. z) a (card_of xs) (log_of a (card_of w)) t.same

  pub place_part : place_of (first_pending (length xs / 512) (card_of xs)) (length xs / 512)
      ≡ place_of (first_pending a.sectors (log_of a (card_of w))) a.sectors
  place_part = let n : length xs / 512 ≡ a.sectors = omega (arith, t.whole) in rw (n, first_part)

-- What is pending is judged with the slot that RECORD reads for the group that is found.
pub seen_pending : (l : Layout) (a : Area) (c : Card) (z : ℕ) (p : Option Place) → p ≡ place_of (first_pending a.sectors (log_of a c)) a.sectors
    → Seen l a c p z → pending_in l.entries (λ _. z) a (log_of a c) ≡ pending l a c
unfolding pending pending_in place_of
seen_pending l a c z p is seen = go (told (ltb i (16 * a.sectors)))
  where
    i : ℕ
    i = first_pending a.sectors (log_of a c)

    held : ℕ → Pending
    held z = pick (accepted l.entries z a.sectors (log_of a c) i) (Pending.Held (a.sector + i / 16)) Pending.Broken

    go : (ltb i (16 * a.sectors) ≡ true) ⊎ (ltb i (16 * a.sectors) ≡ false)
        → pick (ltb i (16 * a.sectors)) (held z) Pending.Nothing ≡ pick (ltb i (16 * a.sectors)) (held (seen_end l c (log_of a c (i / 16)))) Pending.Nothing
    go (inl e) =
        let at : p ≡ Some (record { sector = i / 16; number = i % 16 }) = is ∙ rw e in
        rw (e, subst (λ (p : Option Place). Seen l a c p z) at seen)
    go (inr e) = rw e
