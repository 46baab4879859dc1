-- The bytes of one appended sector: old ones, new ones, zeros.
use Prim.Native.Nat.{ℕ, ◌+◌, ◌-◌, ◌*◌, ◌<◌, ◌≤◌, min}
use native.Mathlib.Omega.{arith}
use mathlib.Core.Path.{◌≡◌, sym, ap, ◌∙◌}
use mathlib.Core.Logic.{⊎_elim}
use mathlib.Core.List.{List, [], ◌++◌, append-nil}
use lib.ListN.{get_or, length, take, drop, replicate, length-append, length-take, length-drop, get_or-append}
use lib.Seq.{get_or-take, get_or-drop, get_or-append-add, length-take-le}
use borrow.Rule.Slice.PartMut.{put_mid, post_of}
use Rattle.std.proofs.lemmas.Slice.{take-put_mid}
use Rattle.std.proofs.lemmas.List.{take_at}
use Rattle.model.specs.Bytes.{Bytes, view, bytes_of}
use Rattle.model.specs.Sector.{clip}
use Rattle.model.proofs.Tests.{less?}
use Rattle.model.proofs.Lists.{zero_at, drop_all}
use Rattle.model.proofs.Cards.{clip_same}
use Rattle.sector.proofs.Stored.{clip_told}
use Rattle.operations.specs.Plan.{appended}
use Rattle.operations.proofs.Appends.{appended_old, appended_new, appended_zero}

-- A buffer that was written in three parts.
three_parts : (xs x y z : List ℕ) (a b : ℕ) → length xs ≡ 512 → a ≤ b → b ≤ 512 → length x ≡ a → length y ≡ b - a
    → put_mid b (512 - b) (put_mid a (b - a) (x ++ post_of 0 a xs) y) z ≡ (x ++ y) ++ z
three_parts xs x y z a b whole low high ex ey =
    let u : List ℕ = x ++ post_of 0 a xs in
    let m : List ℕ = put_mid a (b - a) u y in
    let k : length u ≡ 512 = simp (length-append, length-drop) (omega arith) in
    let n : length m ≡ 512 = simp (length-append, length-drop, length-take) (omega arith) in
    let f : take b m ≡ x ++ y = take-put_mid a (b - a) u y b (omega arith) (omega arith) ∙ ap (λ (v : List ℕ). v ++ y) (take_at x (post_of 0 a xs) a ex) in
    let g : post_of b (512 - b) m ≡ [] = drop_all (512 - b) (drop b m) (omega (arith, length-drop b m)) in
    ap (λ (v : List ℕ). v ++ (z ++ post_of b (512 - b) m)) f ∙ ap (λ (v : List ℕ). (x ++ y) ++ (z ++ v)) g ∙ ap (λ (v : List ℕ). (x ++ y) ++ v) (append-nil z)

-- Old bytes up to a, new ones up to e, then zeros: the appended sector.
module _ (b : Bytes) (old : ℕ) (d : List ℕ) (q a e : ℕ) (low : old < 512 * q + 512) (more : 512 * q < old + length d) (ia : a ≡ min 512 (old - 512 * q))
    (ie : e ≡ min 512 (old + length d - 512 * q)) where
  pub built : (w xs x y z : List ℕ) (n : ℕ) → clip (bytes_of w) ≡ b → length w ≡ 512 → length xs ≡ 512 → x ≡ take a w
      → y ≡ take (512 * q + e - old - (512 * q + a - old)) (drop (512 * q + a - old) d) → z ≡ replicate n 0
      → clip (bytes_of (put_mid e (512 - e) (put_mid a (e - a) (x ++ post_of 0 a xs) y) z)) ≡ clip (appended b old (view d) q)
  built w xs x y z n kept whole room ix iy iz =
      ap (λ (v : List ℕ). clip (bytes_of v)) (three_parts xs x y z a e room (omega arith) (omega arith) long_x long_y)
      ∙ clip_same (bytes_of ((x ++ y) ++ z)) (appended b old (view d) q) (λ j less. ⊎_elim
      (λ l. get_or-append (x ++ y) z 0 j (omega (arith, long)) ∙ get_or-append x y 0 j (omega (arith, long_x)) ∙ ap (λ (v : List ℕ). get_or v j 0) ix
      ∙ get_or-take a w j 0 l ∙ clip_told (bytes_of w) b kept j less ∙ sym (appended_old b old (view d) q j (omega arith)))
      (λ h. ⊎_elim
      (λ l.
      let p : j ≡ length x + (j - a) = omega (arith, long_x) in
      let i : 512 * q + a - old + (j - a) ≡ 512 * q + j - old = omega arith in
      get_or-append (x ++ y) z 0 j (omega (arith, long)) ∙ ap (λ (m : ℕ). get_or (x ++ y) m 0) p ∙ get_or-append-add x y (j - a) 0
      ∙ ap (λ (v : List ℕ). get_or v (j - a) 0) iy ∙ get_or-take _ (drop (512 * q + a - old) d) (j - a) 0 (omega arith)
      ∙ get_or-drop (512 * q + a - old) d (j - a) 0 ∙ ap (bytes_of d) i ∙ sym (appended_new b old (view d) q j (omega arith) (omega arith)))
      (λ g.
      let p : j ≡ length (x ++ y) + (j - e) = omega (arith, long) in
      ap (λ (m : ℕ). get_or ((x ++ y) ++ z) m 0) p ∙ get_or-append-add (x ++ y) z (j - e) 0 ∙ ap (λ (v : List ℕ). get_or v (j - e) 0) iz ∙ zero_at n (j - e)
      ∙ sym (appended_zero b old (view d) q j (omega arith)))
      (less? j e))
      (less? j a))
    where
      long_x : length x ≡ a
      long_x = ap length ix ∙ length-take-le a w (omega arith)

      long_y : length y ≡ e - a
      long_y =
          let m : 512 * q + e - old - (512 * q + a - old) ≡ e - a = omega arith in
          ap length iy ∙ length-take-le _ (drop (512 * q + a - old) d) (omega (arith, length-drop (512 * q + a - old) d)) ∙ m

      long : length (x ++ y) ≡ e
      long = length-append x y ∙ omega (arith, long_x, long_y)

-- A sector that is filled: 512 of the new bytes.
pub filled : (b : Bytes) (old : ℕ) (d : List ℕ) (q from : ℕ) → old ≤ 512 * q → 512 * q + 512 ≤ old + length d → from ≡ 512 * q - old
    → clip (bytes_of (take 512 (drop from d))) ≡ clip (appended b old (view d) q)
filled b old d q from low high at = clip_same (bytes_of (take 512 (drop from d))) (appended b old (view d) q) (λ j less.
    let z : from + j ≡ 512 * q + j - old = omega arith in
    get_or-take 512 (drop from d) j 0 less ∙ get_or-drop from d j 0 ∙ ap (bytes_of d) z ∙ sym (appended_new b old (view d) q j (omega arith) (omega arith)))
