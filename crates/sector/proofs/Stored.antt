-- Bytes of a sector by their index, sectors compared by a loop that keeps one truth, and a sector that is lent to be stored.
use Prim.Native.Nat.{ℕ, zero, suc, ◌+◌, ◌-◌, ◌*◌, ◌%◌, ◌<◌, ◌≤◌}
use mathlib.Core.Path.{◌≡◌, refl, sym, ap, ◌∙◌, fun_ext, subst}
use mathlib.Core.List.{List, [], ◌∷◌, ◌++◌, append-nil}
use lib.ListN.{get_or, length, take, drop, replicate, length-drop}
use lib.Pointwise.{pointwise, bytes_decides}
use lib.Seq.{length-take-le, get_or-take, get_or-drop}
use borrow.Author.Tests.{eq-eqb, eqb-true}
use Rattle.std.proofs.lemmas.Grind.{same_number_lists}
use native.Mathlib.Nat.{pow-suc, pow-zero}
use Rattle.model.proofs.Numbers.{le_suc, le_zero, le_add}
use Rattle.model.proofs.Overlays.{overlay_below, overlay_in, overlay_above}
use Rattle.model.specs.Scan.{all}
use mathlib.Core.Bool.{Bool, true, false, not, ◌&&◌}
use mathlib.Core.Logic.{⊎_elim}
use lib.Dec.{eqb}
use native.Mathlib.Omega.{arith}
use Rattle.model.specs.Bytes.{Bytes, bytes_of, overlay, part, zeros}
use Rattle.model.specs.Scan.{all_from}
use Rattle.model.specs.Sector.{card_of, clip, store, put, after}
use Rattle.model.specs.Fat.{same}
use Rattle.std.proofs.Common.{Result, is_ok}
use borrow.Rule.Slice.PartMut.{put_mid}
use Rattle.model.specs.declared.Stopped.{Stopped}
use Rattle.model.specs.Promises.{Number, Ran, Spent}
use Rattle.model.proofs.Tests.{less?, and_left, and_right, and_both}
use Rattle.model.proofs.Scan.{all_same, all_of0, all_at0}
use Rattle.model.proofs.Lists.{all_zero, back_below, back_in, back_above}
use Rattle.model.proofs.Sectors.{byte_in, part_sector}
use Rattle.model.proofs.Cards.{sector_back, put_in, put_case, clip_clip}

pub in_sector : (xs : List ℕ) (r s : ℕ) → r ≡ s → (j : ℕ) → j < 512 → get_or xs (512 * r + j) 0 ≡ card_of xs s j
in_sector xs r s e j h = ap (λ z. get_or xs (512 * z + j) 0) e ∙ sym (byte_in xs s j h)

-- A truth that a loop keeps: p has held of all numbers below n.
pub all_none : (p : ℕ → Bool) → true ≡ all_from p 0 0
all_none p = sym (all_of0 p 0 (λ k h. absurd (omega arith)))

pub all_more : (p : ℕ → Bool) (n : ℕ) (b : Bool) → b ≡ all_from p 0 n → (b && p n) ≡ all_from p 0 (n + 1)
all_more p n b so = go (all_from p 0 (n + 1)) refl
  where
    no : (t : Bool) → (b && p n) ≡ t → all_from p 0 (n + 1) ≡ false → t ≡ false
    no true h e =
        sym (all_of0 p (n + 1) (λ k less. ⊎_elim
        (λ l. all_at0 p n (sym so ∙ and_left b (p n) h) k l)
        (λ g. let z : k ≡ n = omega arith in rw z (and_right b (p n) h))
        (less? k n))) ∙ e
    no false h e = refl

    go : (t : Bool) → all_from p 0 (n + 1) ≡ t → (b && p n) ≡ t
    go true e = and_both b (p n) (so ∙ all_of0 p n (λ k less. all_at0 p (n + 1) e k (omega arith))) (all_at0 p (n + 1) e n (omega arith))
    go false e = no (b && p n) refl e

abbrev pub equal : Bytes → Bytes → ℕ → Bool
equal x y j = eqb (x j) (y j)

-- x and y are bytes of the sectors b and c.
pub compared : (x y b c : Bytes) → ((j : ℕ) → j < 512 → x j ≡ b j) → ((j : ℕ) → j < 512 → y j ≡ c j)
    → (j : ℕ) → j ≡ 512 → (t : Bool) → t ≡ all_from (equal x y) 0 j → not t ≡ not (same b c)
unfolding same
compared x y b c f g j end t e =
    ap not
    (e ∙ ap (all_from (equal x y) 0) end ∙ all_same (equal x y) (equal b c) 0 512 (λ j l h. rw (f j (omega arith), g j (omega arith))))

-- ---- a sector that is lent, and given back

nothing_left : (xs : List ℕ) (n : ℕ) → length xs ≤ n → drop n xs ≡ []
nothing_left [] zero h = refl
nothing_left [] (suc n) h = refl
nothing_left (x ∷ xs) zero h = absurd (omega arith)
nothing_left (x ∷ xs) (suc n) h = nothing_left xs n (omega arith)

first_sector : (ys : List ℕ) → clip (bytes_of ys) ≡ card_of ys 0
first_sector ys = fun_ext (λ j. ap (λ (i : ℕ). get_or ys i 0) (omega arith))

-- A list of one sector, whose bytes are stored anew.
pub lent_put : (xs ys : List ℕ) → length xs ≡ 512 → length ys ≡ 512 → card_of ys ≡ put (card_of xs) (store 0 (bytes_of ys))
lent_put xs ys e f = ap card_of (sym (ap (λ (z : List ℕ). ys ++ z) (nothing_left xs 512 (omega arith)) ∙ append-nil ys)) ∙ sector_back xs ys 0 (omega arith) f

-- Sector s of xs is lent, and comes back as ys.
module _ (xs ys : List ℕ) (s : ℕ) (fits : 512 * s + 512 ≤ length xs) (one : length ys ≡ 512) where
  abbrev lent : List ℕ
  lent = take 512 (drop (512 * s) xs)

  abbrev back : List ℕ
  back = take (512 * s) xs ++ (ys ++ drop 512 (drop (512 * s) xs))

  lent_sector : card_of lent 0 ≡ card_of xs s
  lent_sector = part_sector xs s 512 0 (omega arith) ∙ ap (card_of xs) (omega arith)

  stored : (b : Bytes) → card_of ys 0 ≡ clip b → card_of back ≡ put (card_of xs) (store s b)
  stored b e = sector_back xs ys s fits one ∙ ap (λ (f : Bytes). put (card_of xs) (record { sector = s; bytes = f })) (first_sector ys ∙ e)

  -- As it was.
  back_same : card_of ys ≡ card_of lent → card_of back ≡ card_of xs
  back_same e = stored (card_of xs s) (ap (λ c. c 0) e ∙ lent_sector ∙ sym (clip_clip (λ j. get_or xs (512 * s + j) 0)))
      ∙ fun_ext (λ t. put_case (λ (b : Bytes). b ≡ card_of xs t) (card_of xs) (store s (card_of xs s)) t
      (λ h. clip_clip (card_of xs s) ∙ clip_clip (λ j. get_or xs (512 * s + j) 0) ∙ ap (card_of xs) (sym h)) (λ _. refl))

  -- With other bytes.
  back_put : (b : Bytes) → card_of ys ≡ put (card_of lent) (store 0 b) → card_of back ≡ put (card_of xs) (store s b)
  back_put b e = stored b (ap (λ c. c 0) e ∙ put_in (card_of lent) (store 0 b) 0 refl ∙ clip_clip b)

  ran_lent : (limit m : ℕ) (w : Bool) (b : Bytes) → Ran limit (store 0 b ∷ []) lent ys m w → Ran limit (store s b ∷ []) xs back m w
  unfolding after
  ran_lent zero m w b so = record { stores = so.stores; all = so.all; card = back_same so.card }
  ran_lent (suc zero) m w b so = record { stores = so.stores; all = so.all; card = back_put b so.card }
  ran_lent (suc (suc limit)) m w b so = record { stores = so.stores; all = so.all; card = back_put b so.card }

  pub spent_lent : (limit left : ℕ) (b : Bytes) (r : Result Unit Stopped) → Spent limit left (store 0 b ∷ []) lent ys r
      → Spent limit left (store s b ∷ []) xs back r
  spent_lent limit left b r so = record { within = so.within; ran = ran_lent limit (limit - left) (is_ok r) b so.ran }

-- The store of a buffer of zeros.
pub zeros_spent : (limit left s : ℕ) (e x : List ℕ) (r : Result Unit Stopped) → Spent limit left (store s (bytes_of (replicate 512 0)) ∷ []) e x r
    → Spent limit left (store s zeros ∷ []) e x r
zeros_spent limit left s e x r so = subst (λ (b : Bytes). Spent limit left (store s b ∷ []) e x r) (all_zero 512) so

-- ---- a part of a slice

-- A part that bytes of another slice were copied into.
pub mid_overlay : (xs ys : List ℕ) (at from n : ℕ) → at + n ≤ length xs → from + n ≤ length ys
    → (i : ℕ) → get_or (put_mid at (at + n - at) xs (take (from + n - from) (drop from ys))) i 0 ≡ overlay n (part (bytes_of ys) from) at (bytes_of xs) i
mid_overlay xs ys at from n h g i =
    let e : at + n - at ≡ n = omega arith in
    let f : from + n - from ≡ n = omega arith in
    rw (e, f) (⊎_elim below (λ low. ⊎_elim (within low) above (less? i (at + n))) (less? i at))
  where
    zs : List ℕ
    zs = take n (drop from ys)

    long : length zs ≡ n
    long = length-take-le n (drop from ys) (rw (length-drop from ys) (omega arith))

    p : Bytes
    p = part (bytes_of ys) from

    below : i < at → get_or (put_mid at n xs zs) i 0 ≡ overlay n p at (bytes_of xs) i
    below l = back_below xs zs at n h long i l ∙ sym (overlay_below p at (bytes_of xs) n i l)

    within : at ≤ i → i < at + n → get_or (put_mid at n xs zs) i 0 ≡ overlay n p at (bytes_of xs) i
    within low l =
        let e : i ≡ at + (i - at) = omega arith in
        ap (λ (m : ℕ). get_or (put_mid at n xs zs) m 0) e
        ∙ back_in xs zs at n h long (i - at) (omega arith)
        ∙ get_or-take n (drop from ys) (i - at) 0 (omega arith)
        ∙ get_or-drop from ys (i - at) 0
        ∙ sym (overlay_in p at (bytes_of xs) n i low l)

    above : at + n ≤ i → get_or (put_mid at n xs zs) i 0 ≡ overlay n p at (bytes_of xs) i
    above l =
        let e : i ≡ at + (n + (i - at - n)) = omega arith in
        ap (λ (m : ℕ). get_or (put_mid at n xs zs) m 0) e
        ∙ back_above xs zs at n h long (i - at - n)
        ∙ ap (λ (m : ℕ). get_or xs m 0) (sym e)
        ∙ sym (overlay_above p at (bytes_of xs) n i l)

-- A sector as a slice.
pub sector_bytes : (xs : List ℕ) (s : ℕ) → 512 * s + 512 ≤ length xs → (j : ℕ) → j < 512
    → get_or (take (512 * s + 512 - 512 * s) (drop (512 * s) xs)) j 0 ≡ card_of xs s j
sector_bytes xs s h j l =
    let e : 512 * s + 512 - 512 * s ≡ 512 = omega arith in
    rw e (get_or-take 512 (drop (512 * s) xs) j 0 l ∙ get_or-drop (512 * s) xs j 0 ∙ in_sector xs s s refl j l)

-- Two slices of 512 bytes are alike as these bytes are.
pub told_same : (xs ys : List ℕ) (b c : Bytes) → length xs ≡ 512 → length ys ≡ 512 → ((j : ℕ) → j < 512 → get_or xs j 0 ≡ b j)
    → ((j : ℕ) → j < 512 → get_or ys j 0 ≡ c j) → pointwise eqb xs ys ≡ same b c
unfolding same
told_same xs ys b c p q f g = go (pointwise eqb xs ys) refl (all (λ j. eqb (b j) (c j)) 512) refl
  where
    go : (s : Bool) → pointwise eqb xs ys ≡ s → (t : Bool) → all (λ j. eqb (b j) (c j)) 512 ≡ t → s ≡ t
    go true h true k = refl
    go false h false k = refl
    go true h false k =
        let e : xs ≡ ys = (bytes_decides xs ys).0 h in
        sym (all_of0 (λ j. eqb (b j) (c j)) 512 (λ j l. eq-eqb (b j) (c j) (sym (f j l) ∙ ap (λ (zs : List ℕ). get_or zs j 0) e ∙ g j l))) ∙ k
    go false h true k =
        sym h ∙ (bytes_decides xs ys).1 (same_number_lists xs ys (p ∙ sym q)
        (λ j l. f j (omega arith) ∙ eqb-true (b j) (c j) (all_at0 (λ j. eqb (b j) (c j)) 512 k j (omega arith)) ∙ sym (g j (omega arith))))

-- ---- a number, from its last byte on

pub number_none : (n : ℕ) (b : Bytes) (at : ℕ) → Number (n - n) b (at + n) 0
number_none n b at = let e : n - n ≡ 0 = omega arith in rw e record { is = sym (le_zero b (at + n)); below = rw pow-zero (omega arith) }

pub number_more : (n : ℕ) (b : Bytes) (at k v x : ℕ) → k < n → x ≡ b (at + k) → x < 256 → Number (n - (k + 1)) b (at + (k + 1)) v → Number (n - k) b (at + k) (256 * v + x)
number_more n b at k v x h e l so =
    let f : n - k ≡ suc (n - (k + 1)) = omega arith in
    let g : at + (k + 1) ≡ at + k + 1 = omega arith in
    rw f record {
      is = rw (e, so.is, g, le_suc (n - (k + 1)) b (at + k)) (omega arith);
      below = rw (pow-suc) (omega (arith, so.below));
    }

-- Three bytes or fewer.
pub number_small : (n : ℕ) (b : Bytes) (at v : ℕ) → n ≤ 3 → Number n b at v → v < 16777216
number_small zero b at v h so = omega (arith, so.below)
number_small (suc zero) b at v h so = omega (arith, so.below)
number_small (suc (suc zero)) b at v h so = omega (arith, so.below)
number_small (suc (suc (suc zero))) b at v h so = omega (arith, so.below)
number_small (suc (suc (suc (suc n)))) b at v h so = absurd (omega arith)

-- The bytes below 512 of a run that is a sector once it is clipped.
pub clip_told : (b c : Bytes) → clip b ≡ c → (j : ℕ) → j < 512 → b j ≡ c j
clip_told b c e j l = let m : j % 512 ≡ j = omega arith in ap b (sym m) ∙ ap (λ (f : Bytes). f j) e

-- Eight bytes by two times four.
pub number_eight : (b : Bytes) (at x y : ℕ) → Number 4 b at x → Number 4 b (at + 4) y → Number 8 b at (x + 4294967296 * y)
number_eight b at x y low high = record { is = omega (arith, le_add 4 4 b at, low.is, high.is); below = omega (arith, low.below, high.below) }
