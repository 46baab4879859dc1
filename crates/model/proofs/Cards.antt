-- Laws of sectors, stores and the cards that stores leave.
use Prim.Native.Nat.{ℕ, ◌+◌, ◌-◌, ◌*◌, ◌%◌, ◌<◌, ◌≤◌}
use native.Mathlib.Omega.{arith}
use mathlib.Core.Path.{◌≡◌, refl, sym, ap, ◌∙◌, fun_ext}
use mathlib.Core.Logic.{⊎_elim}
use mathlib.Core.Bool.{Bool, true, false}
use mathlib.Core.List.{List, [], ◌∷◌, ◌++◌}
use lib.ListN.{length, get_or, take, drop}
use lib.Dec.{eqb}
use borrow.Author.Tests.{eqb-true, eqb-false, eq-eqb, ne_eqb}
use Rattle.model.specs.Bytes.{Bytes, pick, bytes_of}
use Rattle.model.specs.Sector.{Card, card_of, clip, Store, store, put, after}
use Rattle.model.proofs.Tests.{same?, less?}
use Rattle.model.proofs.All.{All}
use Rattle.model.proofs.Lists.{back, back_below, back_in, back_above}

-- ---- sectors

-- Bytes that agree below 512 make the same sector, and the same store.
pub clip_same : (a b : Bytes) → ((j : ℕ) → j < 512 → a j ≡ b j) → clip a ≡ clip b
clip_same a b h = fun_ext (λ j. h (j % 512) (omega arith))

pub clip_clip : (b : Bytes) → clip (clip b) ≡ clip b
clip_clip b = clip_same (clip b) b (λ j h. ap b (omega arith))

pub clip_at : (b : Bytes) (j : ℕ) → j < 512 → clip b j ≡ b j
clip_at b j h = ap b (omega arith)

pub store_same : (s : ℕ) (a b : Bytes) → ((j : ℕ) → j < 512 → a j ≡ b j) → store s a ≡ store s b
store_same s a b h = ap (λ (f : Bytes). record { sector = s; bytes = f }) (clip_same a b h)

-- ---- one store

pub put_in : (c : Card) (s : Store) (t : ℕ) → t ≡ s.sector → put c s t ≡ clip s.bytes
unfolding put
put_in c s t e = rw (eq-eqb t s.sector e)

pub put_out : (c : Card) (s : Store) (t : ℕ) → (t ≡ s.sector → ⊥) → put c s t ≡ c t
unfolding put
put_out c s t e = rw (ne_eqb t s.sector e)

-- To show something of a sector after a store: show it of the store's bytes, and of the sector before.
pub put_case : (P : Bytes → Type 0) (c : Card) (s : Store) (t : ℕ)
    → (t ≡ s.sector → P (clip s.bytes)) → ((t ≡ s.sector → ⊥) → P (c t)) → P (put c s t)
unfolding put
put_case P c s t new old = go (eqb t s.sector) refl
  where
    go : (b : Bool) → eqb t s.sector ≡ b → P (pick b (clip s.bytes) (c t))
    go true e = new (eqb-true t s.sector e)
    go false e = old (eqb-false t s.sector e)

-- The store of a sector that was lent and came back as ys.
module _ (xs ys : List ℕ) (s : ℕ) (h : 512 * s + 512 ≤ length xs) (w : length ys ≡ 512) where
  abbrev stored : Card
  stored = put (card_of xs) (store s (bytes_of ys))

  abbrev came_back : List ℕ
  came_back = back xs ys (512 * s) 512 h w

  back_at : (t j : ℕ) → get_or came_back (512 * t + j % 512) 0 ≡ stored t j
  back_at t j = ⊎_elim here (λ ne. ⊎_elim (low ne) (high ne) (less? t s)) (same? t s)
    where
      here : t ≡ s → get_or came_back (512 * t + j % 512) 0 ≡ stored t j
      here e =
          ap (λ (z : ℕ). get_or came_back (512 * z + j % 512) 0) e ∙ back_in xs ys (512 * s) 512 h w (j % 512) (omega arith)
          ∙ ap (λ (b : Bytes). b j) (sym (clip_clip (bytes_of ys)) ∙ sym (put_in (card_of xs) (store s (bytes_of ys)) t e))

      low : (t ≡ s → ⊥) → t < s → get_or came_back (512 * t + j % 512) 0 ≡ stored t j
      low ne l = back_below xs ys (512 * s) 512 h w (512 * t + j % 512) (omega arith)
          ∙ ap (λ (b : Bytes). b j) (sym (put_out (card_of xs) (store s (bytes_of ys)) t ne))

      high : (t ≡ s → ⊥) → s ≤ t → get_or came_back (512 * t + j % 512) 0 ≡ stored t j
      high ne l =
          let n : ℕ = 512 * t + j % 512 - (512 * s + 512) in
          let f : 512 * t + j % 512 ≡ 512 * s + (512 + n) = omega arith in
          ap (λ (z : ℕ). get_or came_back z 0) f ∙ back_above xs ys (512 * s) 512 h w n ∙ ap (λ (z : ℕ). get_or xs z 0) (sym f)
          ∙ ap (λ (b : Bytes). b j) (sym (put_out (card_of xs) (store s (bytes_of ys)) t ne))

  pub sector_back : card_of (take (512 * s) xs ++ (ys ++ drop 512 (drop (512 * s) xs))) ≡ put (card_of xs) (store s (bytes_of ys))
  sector_back = fun_ext (λ t. fun_ext (λ j. back_at t j))

-- ---- lists of stores

pub after_nil : (c : Card) → after [] c ≡ c
unfolding after
after_nil c = refl

pub after_append : (ss ts : List Store) (c : Card) → after (ss ++ ts) c ≡ after ts (after ss c)
unfolding after
after_append [] ts c = refl
after_append (s ∷ ss) ts c = after_append ss ts (put c s)

pub after_snoc : (ss : List Store) (s : Store) (c : Card) → after (ss ++ s ∷ []) c ≡ put (after ss c) s
unfolding after
after_snoc ss s c = after_append ss (s ∷ []) c

-- No store of a list is at sector s: the list leaves it alone.
abbrev pub Away : List Store → ℕ → Type 0
Away ss s = All (λ t. s ≡ t.sector → ⊥) ss

pub after_away : (ss : List Store) (c : Card) (s : ℕ) → Away ss s → after ss c s ≡ c s
unfolding after
after_away [] c s a = refl
after_away (t ∷ ss) c s a = after_away ss (put c t) s a.1 ∙ put_out c t s a.0
