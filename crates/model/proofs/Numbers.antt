-- Laws of little-endian numbers of n bytes: how they are made up, what they depend on, and that what is written is read back.
use Prim.Native.Nat.{ℕ, zero, suc, ◌+◌, ◌-◌, ◌*◌, ◌/◌, ◌%◌, ◌^◌, ◌<◌, ◌≤◌}
use native.Mathlib.Nat.{add-zero, zero-add, suc-add, mul_assoc, mul_comm, one-mul, pow-suc, pow-zero, mod-one, div-one, mod-eq_of_lt, div-div-eq-div-mul}
use native.Mathlib.Nat.{zero-lt-suc, one-le-pow, mod-lt}
use native.Mathlib.Numerals.{add-one}
use native.Mathlib.Omega.{arith}
use lib.Arith.{mod-mul}
use lib.Dec.{leb, ltb}
use mathlib.Core.Path.{◌≡◌, refl, sym, ap, ◌∙◌}
use mathlib.Core.Bool.{◌&&◌}
use Rattle.model.specs.Bytes.{Bytes, le, byte_of, overlay, patch}
use Rattle.model.proofs.Tests.{by_pick}
use Rattle.model.proofs.Overlays.{overlay_in, overlay_below, overlay_above}

pub le_suc : (n : ℕ) (c : Bytes) (at : ℕ) → le (suc n) c at ≡ c at + 256 * le n c (at + 1)
unfolding le
le_suc n c at = refl

pub le_zero : (c : Bytes) (at : ℕ) → le zero c at ≡ 0
unfolding le
le_zero c at = refl

-- The first n bytes are the low part, and the m after them the high part.
pub le_add : (n m : ℕ) (c : Bytes) (at : ℕ) → le (n + m) c at ≡ le n c at + 256 ^ n * le m c (at + n)
le_add zero m c at = simp (zero-add, add-zero, pow-zero, one-mul, le_zero)
le_add (suc n) m c at =
    let e : at + suc n ≡ at + 1 + n = omega arith in
    let p : 256 ^ suc n * le m c (at + suc n) ≡ 256 * (256 ^ n * le m c (at + 1 + n)) = rw (e, pow-suc, mul_comm (256 ^ n) 256, mul_assoc) in
    rw (suc-add, le_suc (n + m), le_suc n, le_add n m c (at + 1)) (omega arith)

-- Runs that agree on the bytes have the same number there.
pub le_local : (n : ℕ) (c d : Bytes) (at : ℕ) → ((i : ℕ) → at ≤ i → i < at + n → c i ≡ d i) → le n c at ≡ le n d at
le_local zero c d at h = rw (le_zero c, le_zero d)
le_local (suc n) c d at h =
    rw (le_suc n c, le_suc n d, h at (omega arith) (omega arith), le_local n c d (at + 1) (λ i lo hi. h i (omega arith) (omega arith)))

-- n bytes hold a number below 256 ^ n.
pub le_below : (n : ℕ) (b : Bytes) (at : ℕ) → ((i : ℕ) → at ≤ i → i < at + n → b i < 256) → le n b at < 256 ^ n
le_below zero b at h = rw (le_zero b, pow-zero) (omega arith)
le_below (suc n) b at h =
    rw (le_suc n b, pow-suc) (omega (arith, h at (omega arith) (omega arith), le_below n b (at + 1) (λ i lo hi. h i (omega arith) (omega arith))))

-- A number that begins elsewhere.
pub le_shift : (n : ℕ) (b d : Bytes) (i j : ℕ) → ((k : ℕ) → k < n → b (i + k) ≡ d (j + k)) → le n b i ≡ le n d j
le_shift zero b d i j h = rw (le_zero b, le_zero d)
le_shift (suc n) b d i j h =
    let e : i ≡ i + 0 = omega arith in
    let f : j ≡ j + 0 = omega arith in
    let here : b i ≡ d j = ap b e ∙ h 0 (omega arith) ∙ ap d (sym f) in
    let rest : le n b (i + 1) ≡ le n d (j + 1) = le_shift n b d (i + 1) (j + 1)
    (λ k l. let e : i + 1 + k ≡ i + suc k = omega arith in let f : j + 1 + k ≡ j + suc k = omega arith in rw (e, f) (h (suc k) (omega arith))) in
    rw (le_suc n b, le_suc n d, here, rest)

-- Bytes are told by the number that they make.
first_tells : (a b x y : ℕ) → a < 256 → b < 256 → a + 256 * x ≡ b + 256 * y → (a ≡ b) × (x ≡ y)
first_tells a b x y small little e = (omega arith, omega arith)

pub le_tells : (n : ℕ) (b d : Bytes) (i j : ℕ) → ((k : ℕ) → k < n → b (i + k) < 256) → ((k : ℕ) → k < n → d (j + k) < 256)
    → le n b i ≡ le n d j → (k : ℕ) → k < n → b (i + k) ≡ d (j + k)
le_tells zero b d i j small little e k less = absurd (omega arith)
le_tells (suc n) b d i j small little e k less =
    let both : (b i ≡ d j) × (le n b (i + 1) ≡ le n d (j + 1)) = first_tells (b i) (d j) _ _
    (rw (add-zero i) at (small 0 (omega arith))) (rw (add-zero j) at (little 0 (omega arith))) (sym (le_suc n b i) ∙ e ∙ le_suc n d j) in
    go both.0 (le_tells n b d (i + 1) (j + 1) (λ k less. rw (next i k) (small (suc k) (omega arith)))
    (λ k less. rw (next j k) (little (suc k) (omega arith))) both.1) k less
  where
    next : (i k : ℕ) → i + 1 + k ≡ i + suc k
    next i k = omega arith

    go : b i ≡ d j → ((k : ℕ) → k < n → b (i + 1 + k) ≡ d (j + 1 + k)) → (k : ℕ) → k < suc n → b (i + k) ≡ d (j + k)
    go here rest zero less = rw (add-zero i, add-zero j) here
    go here rest (suc k) less = rw (← next i k, ← next j k) (rest k (omega arith))

-- ---- bytes laid over others

pub le_over_below : (m n at i : ℕ) (p b : Bytes) → i + m ≤ at → le m (overlay n p at b) i ≡ le m b i
le_over_below m n at i p b h = le_local m (overlay n p at b) b i (λ k lo hi. overlay_below p at b n k (omega arith))

pub le_over_above : (m n at i : ℕ) (p b : Bytes) → at + n ≤ i → le m (overlay n p at b) i ≡ le m b i
le_over_above m n at i p b h = le_local m (overlay n p at b) b i (λ k lo hi. overlay_above p at b n k (omega arith))

-- Numbers are written in bytes: each below 256.
abbrev pub Small : Bytes → Type 0
Small b = (j : ℕ) → b j < 256

pub patched : (n v at : ℕ) (b : Bytes) → Small b → Small (patch n v at b)
unfolding overlay byte_of
patched n v at b h j = by_pick (λ x. x < 256) (leb at j && ltb j (at + n)) (v / 256 ^ (j - at) % 256) (b j)
    (λ _. mod-lt (v / 256 ^ (j - at)) (omega arith)) (λ _. h j)

-- ---- what is written is read back

shifted : (n v at k : ℕ) (b : Bytes) → k < n → patch n v at b (at + k) ≡ v / 256 ^ k % 256
unfolding byte_of
shifted n v at k b h =
    let e : at + k - at ≡ k = omega arith in
    overlay_in (byte_of v) at b n (at + k) (omega arith) (omega arith) ∙ ap (byte_of v) e

-- m of the n bytes that a number was written into, from byte k of it on.
pub le_patch : (m n k v at : ℕ) (b : Bytes) → k + m ≤ n → le m (patch n v at b) (at + k) ≡ v / 256 ^ k % 256 ^ m
unfolding le
le_patch zero n k v at b h = sym (mod-one (v / 256 ^ k))
le_patch (suc m) n k v at b h =
    let x : ℕ = v / 256 ^ k in
    let byte : patch n v at b (at + k) ≡ x % 256 = shifted n v at k b (omega arith) in
    let rest : le m (patch n v at b) (at + k + 1) ≡ x / 256 % 256 ^ m =
    ap (le m (patch n v at b)) (omega arith) ∙ le_patch m n (k + 1) v at b (omega arith)
    ∙ ap (λ y. y % 256 ^ m) (ap (λ y. v / y) (ap (λ y. 256 ^ y) (add-one k) ∙ pow-suc 256 k) ∙ sym (div-div-eq-div-mul v (256 ^ k) 256)) in
    let whole : x % 256 ^ suc m ≡ (x / 256 % 256 ^ m) * 256 + x % 256 =
    ap (λ y. x % y) (pow-suc 256 m) ∙ mod-mul x (one-le-pow m 256 (zero-lt-suc 255)) (omega arith) in
    rw (byte, rest) (omega (arith, whole))

pub read_back : (n v at : ℕ) (b : Bytes) → v < 256 ^ n → le n (patch n v at b) (at + 0) ≡ v
read_back n v at b h = le_patch n n 0 v at b (omega arith) ∙ ap (λ y. y % 256 ^ n) (div-one v) ∙ mod-eq_of_lt h
