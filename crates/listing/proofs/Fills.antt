-- Laws of a buffer that is filled piece by piece.
use Prim.Native.Nat.{ℕ, ◌+◌, ◌-◌, ◌≤◌, ◌<◌}
use native.Mathlib.Omega.{arith}
use mathlib.Core.Path.{◌≡◌, sym, ap, ◌∙◌}
use mathlib.Core.Bool.{Bool, true, false}
use mathlib.Core.List.{List, ◌++◌}
use mathlib.Core.Logic.{⊎_elim}
use lib.ListN.{length}
use lib.Dec.{ltb}
use borrow.Author.Tests.{lt-ltb, le-ltb}
use Rattle.model.specs.Bytes.{Span}
use Rattle.model.proofs.Tests.{less?}
use Rattle.model.proofs.Scan.{Sofar, sofar_more, sofar_none, first_is, first_none}
use Rattle.listing_text.specs.declared.Text.{Text}
use Rattle.listing_text.specs.Wrote.{Wrote, Put}
use Rattle.listing_text.proofs.Buffer.{put_none, put_then}
use Rattle.listing.specs.Pieces.{pieces, piece, text_from, next_piece, Filled}
use Rattle.listing.proofs.Whole.{text_none, text_more}

-- No room is left for piece j, where the pieces from `from` up to it stand in a buffer of b bytes.
abbrev pub crowded : Span → ℕ → ℕ → ℕ → Bool
crowded t b from j = ltb b (length (text_from t from (j - from)) + 119)

-- The pieces from `from` up to i have been put into the buffer.
pub record Upto (t : Span) (from : ℕ) (entry now : Text) (i : ℕ) : Type 0 where
  pub low : from ≤ i
  pub put : Put (text_from t from (i - from)) entry now
  pub room : Sofar (crowded t (length entry.out.now) from) false from i
  pub fits : now.end ≤ length now.out.now

pub upto_none : (t : Span) (from : ℕ) (a : Text) → a.end ≤ length a.out.now → Upto t from a a from
upto_none t from a h =
    let z : from - from ≡ 0 = omega arith in
    record {
      low = omega arith;
      put = rw (z, text_none t from) (put_none a);
      room = sofar_none (crowded t (length a.out.now) from) false from from (omega arith);
      fits = h;
    }

module _ {t : Span} {from i : ℕ} {a b : Text} (start : a.end ≡ 0) (so : Upto t from a b i) where
  pub upto_more : {c : Text} → 119 ≤ length b.out.now - b.end → Put (piece t i) b c → c.end ≤ b.end + 119 → Upto t from a c (i + 1)
  upto_more {c} h put l =
      let k : ℕ = i - from in
      let m : i + 1 - from ≡ k + 1 = omega (arith, so.low) in
      let at : from + k ≡ i = omega (arith, so.low) in
      let n : b.end ≡ a.end + length (text_from t from k) = so.put.wrote.ends in
      let z : text_from t from (i + 1 - from) ≡ text_from t from k ++ piece t i = ap (text_from t from) m ∙ text_more t from k
      ∙ ap (λ (q : ℕ). text_from t from k ++ piece t q) at in
      record {
        low = omega (arith, so.low);
        put = rw z (put_then so.put put);
        room = sofar_more (crowded t (length a.out.now) from) false from i so.room
            (le-ltb (length a.out.now) (length (text_from t from k) + 119) (omega (arith, so.fits, so.put.room)));
        fits = omega (arith, so.fits, put.room);
      }

  wrote : {x : List ℕ} → x ≡ b.out.now → Wrote (text_from t from (i - from)) a.out.now x 0 b.end
  wrote is = rw (is, ← start) so.put.wrote

  -- what a buffer that cannot take nothing has made
  moved : 119 ≤ length a.out.now → length b.out.now - b.end < 119 → from < i
  moved room less = ⊎_elim (λ l. l) (λ l. absurd (none (omega (arith, so.low)))) (less? from i)
    where
      none : i ≡ from → ⊥
      none q =
          let z : i - from ≡ 0 = omega arith in
          let y : b.end ≡ a.end + length (text_from t from 0) = rw z at so.put.wrote.ends in
          let v : b.end ≡ a.end + 0 = rw (text_none t from) at y in
          omega (arith, so.put.room)

  pub filled_full : {x : List ℕ} → x ≡ b.out.now → i < pieces t → 119 ≤ length a.out.now → length b.out.now - b.end < 119
      → Filled t from a.out.now x b.end i
  unfolding next_piece
  filled_full is l room less =
      let n : b.end ≡ a.end + length (text_from t from (i - from)) = so.put.wrote.ends in
      let full : crowded t (length a.out.now) from i ≡ true =
      lt-ltb (length a.out.now) (length (text_from t from (i - from)) + 119) (omega (arith, so.fits, so.put.room)) in
      record {
        stops = sym (first_is (crowded t (length a.out.now) from) from (pieces t - from) i so.low (omega (arith, so.low)) so.room full);
        wrote = wrote is;
        within = omega arith;
        moves = λ h. moved room less;
        fits = omega (arith, so.fits, so.put.room);
      }

  pub filled_done : {x : List ℕ} {n : ℕ} → x ≡ b.out.now → n ≡ i → n ≡ pieces t → Filled t from a.out.now x b.end n
  unfolding next_piece
  filled_done is end q =
      let z : i ≡ from + (pieces t - from) = omega (arith, so.low) in
      rw end record {
        stops = z ∙ sym (first_none (crowded t (length a.out.now) from) from (pieces t - from) (λ k lo hi. so.room k lo (omega arith)));
        wrote = wrote is;
        within = omega arith;
        moves = λ h. omega arith;
        fits = omega (arith, so.fits, so.put.room);
      }
