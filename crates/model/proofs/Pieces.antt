-- Sectors that are loaded, changed in pieces, and stored: bytes laid over others, log records laid into a sector, records marked.
use Prim.Native.Nat.{ℕ, ◌+◌, ◌-◌, ◌*◌, ◌/◌, ◌%◌, ◌<◌, ◌≤◌}
use native.Mathlib.Omega.{arith}
use mathlib.Core.Path.{◌≡◌, refl, sym, ap, ◌∙◌, fun_ext}
use mathlib.Core.Logic.{⊎_elim}
use mathlib.Core.Bool.{and-false}
use mathlib.Core.List.{List, [], ◌∷◌, ◌++◌}
use lib.ListN.{length, get_or, set, length-append, get_or-append, get_or-eq_default}
use lib.Seq.{get_or-set_same, get_or-set_other, get_or-append-add}
use borrow.Author.Tests.{lt-ltb, le-ltb, eq-eqb, ne_eqb}
use Rattle.model.specs.Bytes.{Bytes, overlay, zeros}
use Rattle.model.specs.Sector.{card_of, clip}
use Rattle.model.specs.Record.{lay, committed}
use Rattle.model.proofs.Tests.{same?, less?}
use Rattle.model.proofs.Cards.{clip_at}
use Rattle.model.proofs.Overlays.{overlay_in, overlay_below, overlay_above}

-- ---- a sector that was loaded

module _ (xs : List ℕ) (t : ℕ) (b : Bytes) (e : clip b ≡ card_of xs t) where
  pub loaded_at : (j : ℕ) → j < 512 → b j ≡ card_of xs t j
  loaded_at j h = sym (clip_at b j h) ∙ ap (λ (f : Bytes). f j) e

-- ---- records laid into a sector

pub lay_none : lay [] ≡ zeros
unfolding lay
lay_none = refl

-- One record more, after the others.
pub lay_more : (rs : List Bytes) (r : Bytes) → lay (rs ++ r ∷ []) ≡ overlay 32 r (32 * length rs) (lay rs)
unfolding lay
lay_more rs r = fun_ext (λ j. ⊎_elim (low j) (λ l. ⊎_elim (mid j l) (high j) (less? j (32 * length rs + 32))) (less? j (32 * length rs)))
  where
    low : (j : ℕ) → j < 32 * length rs → get_or (rs ++ r ∷ []) (j / 32) zeros (j % 32) ≡ overlay 32 r (32 * length rs) (λ j. get_or rs (j / 32) zeros (j % 32)) j
    low j h =
        ap (λ (b : Bytes). b (j % 32)) (get_or-append rs (r ∷ []) zeros (j / 32) (omega arith))
        ∙ sym (overlay_below r (32 * length rs) (λ j. get_or rs (j / 32) zeros (j % 32)) 32 j h)

    mid : (j : ℕ) → 32 * length rs ≤ j → j < 32 * length rs + 32
        → get_or (rs ++ r ∷ []) (j / 32) zeros (j % 32) ≡ overlay 32 r (32 * length rs) (λ j. get_or rs (j / 32) zeros (j % 32)) j
    mid j l h =
        let e : j / 32 ≡ length rs + 0 = omega arith in
        let f : j % 32 ≡ j - 32 * length rs = omega arith in
        ap (λ (i : ℕ). get_or (rs ++ r ∷ []) i zeros (j % 32)) e ∙ ap (λ (b : Bytes). b (j % 32)) (get_or-append-add rs (r ∷ []) 0 zeros) ∙ ap r f
        ∙ sym (overlay_in r (32 * length rs) (λ j. get_or rs (j / 32) zeros (j % 32)) 32 j l h)

    high : (j : ℕ) → 32 * length rs + 32 ≤ j → get_or (rs ++ r ∷ []) (j / 32) zeros (j % 32) ≡ overlay 32 r (32 * length rs)
        (λ j. get_or rs (j / 32) zeros (j % 32)) j
    high j h =
        ap (λ (b : Bytes). b (j % 32)) (get_or-eq_default (rs ++ r ∷ []) zeros {n = j / 32} (omega (arith, length-append rs (r ∷ []))))
        ∙ sym (overlay_above r (32 * length rs) (λ j. get_or rs (j / 32) zeros (j % 32)) 32 j h
        ∙ ap (λ (b : Bytes). b (j % 32)) (get_or-eq_default rs zeros {n = j / 32} (omega arith)))

-- ---- records marked as committed

pub committed_agree : (n : ℕ) (b d : Bytes) → ((j : ℕ) → j < 512 → b j ≡ d j) → (j : ℕ) → j < 512 → committed n b j ≡ committed n d j
unfolding committed
committed_agree n b d h j l = rw (h j l)

pub committed_none : (b : Bytes) (j : ℕ) → committed 0 b j ≡ b j
unfolding committed
committed_none b j = rw (le-ltb j 0 (omega arith), and-false)

-- The first byte of the next record, and every other byte.
pub committed_here : (n : ℕ) (b : Bytes) → committed (n + 1) b (32 * n) ≡ 0xE5
unfolding committed
committed_here n b =
    let e : 32 * n % 32 ≡ 0 = omega arith in
    rw (eq-eqb (32 * n % 32) 0 e, lt-ltb (32 * n) (32 * (n + 1)) (omega arith))

pub committed_else : (n : ℕ) (b : Bytes) (j : ℕ) → (j ≡ 32 * n → ⊥) → committed (n + 1) b j ≡ committed n b j
unfolding committed
committed_else n b j ne =
    ⊎_elim
    (λ (e : j % 32 ≡ 0). ⊎_elim
    (λ l. rw (lt-ltb j (32 * n) l, lt-ltb j (32 * (n + 1)) (omega arith)))
    (λ l. rw (le-ltb j (32 * n) l, le-ltb j (32 * (n + 1)) (omega arith)))
    (less? j (32 * n)))
    (λ e. rw (ne_eqb (j % 32) 0 e))
    (same? (j % 32) 0)

pub committed_more : (n : ℕ) (b : Bytes) (out : List ℕ) → 32 * n < length out → ((j : ℕ) → get_or out j 0 ≡ committed n b j)
    → (j : ℕ) → get_or (set out (32 * n) 0xE5) j 0 ≡ committed (n + 1) b j
committed_more n b out l inv j =
    ⊎_elim
    (λ e. rw e (get_or-set_same out (32 * n) 0xE5 0 l ∙ sym (committed_here n b)))
    (λ ne. get_or-set_other out (32 * n) j 0xE5 0 ne ∙ inv j ∙ sym (committed_else n b j ne))
    (same? j (32 * n))
