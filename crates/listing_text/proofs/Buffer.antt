-- Laws of text in a buffer.
use Prim.Native.Nat.{ℕ, ◌+◌, ◌-◌, ◌<◌, ◌≤◌}
use native.Mathlib.Omega.{arith}
use mathlib.Core.Path.{◌≡◌, refl, sym, ap, ◌∙◌}
use mathlib.Core.Logic.{⊎_elim}
use mathlib.Core.List.{List, [], ◌∷◌, ◌++◌}
use lib.ListN.{length, length-set, set, length-append, get_or, get_or-append, take, drop}
use lib.Seq.{get_or-append-add, get_or-append_right, length-take-le, get_or-take, get_or-drop}
use borrow.Rule.Slice.PartMut.{put_mid, same_len_mid, mid_len}
use borrow.Rule.Slice.Mut.{set_vals}
use Rattle.model.specs.Bytes.{Bytes, bytes_of, overlay}
use Rattle.model.proofs.Tests.{less?}
use Rattle.model.proofs.Overlays.{overlay_in, overlay_below, overlay_above, overlay_none, overlay_more}
use Rattle.listing_text.specs.Wrote.{Wrote, Put}
use Rattle.listing_text.specs.declared.Text.{Text}

-- No text.
pub wrote_none : (e : List ℕ) (at : ℕ) → Wrote [] e e at at
wrote_none e at = record { ends = omega arith; bytes = λ i. sym (overlay_none (bytes_of []) at (bytes_of e) i) }

-- One byte.
pub wrote_byte : (e : List ℕ) (at b : ℕ) → at < length e → Wrote (b ∷ []) e (set e at b) at (at + 1)
wrote_byte e at b h =
    let z : at + 0 ≡ at = omega arith in
    let p : Bytes = bytes_of (b ∷ []) in
    record {
      ends = refl;
      bytes = λ i. rw z at (overlay_more p e e at 0 b (omega arith) refl (λ j. sym (overlay_none p at (bytes_of e) j)) i);
    }

-- A text that was copied whole.
pub wrote_copied : (t e : List ℕ) (at : ℕ) → at + length t ≤ length e → Wrote t e (put_mid at (at + length t - at) e t) at (at + length t)
wrote_copied t e at h = record {
  ends = refl;
  bytes = λ i. ⊎_elim (below i) (λ low. ⊎_elim (within i low) (above i) (less? i (at + length t))) (less? i at);
}
  where
    rest : List ℕ
    rest = drop (at + length t - at) (drop at e)

    front : length (take at e) ≡ at
    front = length-take-le at e (omega arith)

    later : (i : ℕ) → at ≤ i → get_or (put_mid at (at + length t - at) e t) i 0 ≡ get_or (t ++ rest) (i - at) 0
    later i low = rw front at (get_or-append_right (take at e) (t ++ rest) i 0 (omega (arith, front)))

    below : (i : ℕ) → i < at → get_or (put_mid at (at + length t - at) e t) i 0 ≡ overlay (length t) (bytes_of t) at (bytes_of e) i
    below i l =
        get_or-append (take at e) (t ++ rest) 0 i (omega (arith, front)) ∙ get_or-take at e i 0 l
        ∙ sym (overlay_below (bytes_of t) at (bytes_of e) (length t) i l)

    within : (i : ℕ) → at ≤ i → i < at + length t
        → get_or (put_mid at (at + length t - at) e t) i 0 ≡ overlay (length t) (bytes_of t) at (bytes_of e) i
    within i low l = later i low ∙ get_or-append t rest 0 (i - at) (omega arith) ∙ sym (overlay_in (bytes_of t) at (bytes_of e) (length t) i low l)

    above : (i : ℕ) → at + length t ≤ i → get_or (put_mid at (at + length t - at) e t) i 0 ≡ overlay (length t) (bytes_of t) at (bytes_of e) i
    above i l =
        let n : at + (at + length t - at + (i - at - length t)) ≡ i = omega arith in
        later i (omega arith) ∙ get_or-append_right t rest (i - at) 0 (omega arith)
        ∙ get_or-drop (at + length t - at) (drop at e) (i - at - length t) 0 ∙ get_or-drop at e (at + length t - at + (i - at - length t)) 0
        ∙ ap (bytes_of e) n ∙ sym (overlay_above (bytes_of t) at (bytes_of e) (length t) i l)

-- One text after another.
pub wrote_then : (t u e x y : List ℕ) (at m r : ℕ) → Wrote t e x at m → Wrote u x y m r → Wrote (t ++ u) e y at r
wrote_then t u e x y at m r f g =
    let n : length (t ++ u) ≡ length t + length u = length-append t u in
    record { ends = omega (arith, f.ends, g.ends); bytes = λ i. g.bytes i ∙ rw (n) (byte i) }
  where
    after : Bytes
    after = overlay (length t + length u) (bytes_of (t ++ u)) at (bytes_of e)

    here : m ≡ at + length t
    here = f.ends

    byte : (i : ℕ) → overlay (length u) (bytes_of u) m (bytes_of x) i ≡ after i
    byte i =
        ⊎_elim
        (λ a. overlay_below (bytes_of u) m (bytes_of x) (length u) i (omega arith) ∙ f.bytes i
        ∙ overlay_below (bytes_of t) at (bytes_of e) (length t) i a
        ∙ sym (overlay_below (bytes_of (t ++ u)) at (bytes_of e) (length t + length u) i a))
        (λ a. ⊎_elim
        (λ b. overlay_below (bytes_of u) m (bytes_of x) (length u) i (omega arith) ∙ f.bytes i
        ∙ overlay_in (bytes_of t) at (bytes_of e) (length t) i a (omega arith)
        ∙ sym (get_or-append t u 0 (i - at) (omega arith))
        ∙ sym (overlay_in (bytes_of (t ++ u)) at (bytes_of e) (length t + length u) i a (omega arith)))
        (λ b. ⊎_elim
        (λ c.
        let z : length t + (i - m) ≡ i - at = omega arith in
        overlay_in (bytes_of u) m (bytes_of x) (length u) i b c
        ∙ sym (get_or-append-add t u (i - m) 0)
        ∙ ap (bytes_of (t ++ u)) z
        ∙ sym (overlay_in (bytes_of (t ++ u)) at (bytes_of e) (length t + length u) i a (omega arith)))
        (λ c. overlay_above (bytes_of u) m (bytes_of x) (length u) i c ∙ f.bytes i
        ∙ overlay_above (bytes_of t) at (bytes_of e) (length t) i (omega arith)
        ∙ sym (overlay_above (bytes_of (t ++ u)) at (bytes_of e) (length t + length u) i (omega arith)))
        (less? i (m + length u)))
        (less? i m))
        (less? i at)

-- What is put into a lent buffer: nothing, and one text after another.
pub put_none : (s : Text) → Put [] s s
put_none s = record { wrote = wrote_none s.out.now s.end; room = refl; lent = refl }

pub put_byte : (s : Text) (b : ℕ) → s.end < length s.out.now → Put (b ∷ []) s (record { out = set_vals (set s.out.now s.end b) s.out; end = s.end + 1 })
put_byte s b h = record { wrote = wrote_byte s.out.now s.end b h; room = length-set s.out.now s.end b; lent = refl }

pub put_copied : (s : Text) (t u : List ℕ) (k : ℕ) → u ≡ t → k ≡ length t → s.end + k ≤ length s.out.now
    → Put t s (record { out = set_vals (put_mid s.end (s.end + k - s.end) s.out.now u) s.out; end = s.end + k })
put_copied s t u k same long h =
    let fits : s.end + length t ≤ length s.out.now = rw long at h in
    rw (same, long) record {
      wrote = wrote_copied t s.out.now s.end fits;
      room = same_len_mid s.end _ s.out.now t (omega (arith, mid_len s.end (s.end + length t) s.out.now fits));
      lent = refl;
    }

pub put_then : {t u : List ℕ} {a b c : Text} → Put t a b → Put u b c → Put (t ++ u) a c
put_then {t} {u} {a} {b} {c} f g = record {
  wrote = wrote_then t u a.out.now b.out.now c.out.now a.end b.end c.end f.wrote g.wrote;
  room = g.room ∙ f.room;
  lent = g.lent ∙ f.lent;
}
