-- Laws of numbers in decimal.
use Prim.Native.Nat.{ℕ, zero, suc, ◌+◌, ◌*◌, ◌/◌, ◌%◌, ◌^◌, ◌<◌, ◌≤◌}
use native.Mathlib.Omega.{arith}
use native.Mathlib.Nat.{pow-suc}
use mathlib.Core.Path.{◌≡◌, refl, sym, ap, ◌∙◌}
use mathlib.Core.Logic.{⊎_elim}
use mathlib.Core.List.{List, [], ◌∷◌, ◌++◌, append_assoc}
use lib.ListN.{length}
use borrow.Author.Tests.{lt-ltb, le-ltb}
use Rattle.model.specs.Text.{digits, decimal}
use Rattle.model.proofs.Tests.{less?}

digits_low : (k n : ℕ) (rest : List ℕ) → n < 10 → digits (suc k) n rest ≡ (48 + n) ∷ rest
unfolding digits
digits_low k n rest h = rw (lt-ltb n 10 h)

digits_high : (k n : ℕ) (rest : List ℕ) → 10 ≤ n → digits (suc k) n rest ≡ digits k (n / 10) ((48 + n % 10) ∷ rest)
unfolding digits
digits_high k n rest h = rw (le-ltb n 10 h)

digits_zero : (n : ℕ) (rest : List ℕ) → digits zero n rest ≡ rest
unfolding digits
digits_zero n rest = refl

-- What follows a number stands after its digits.
digits_rest : (k n : ℕ) (rest : List ℕ) → digits k n rest ≡ digits k n [] ++ rest
digits_rest zero n rest = rw (digits_zero n rest, digits_zero n [])
digits_rest (suc k) n rest =
    ⊎_elim
    (λ h. rw (digits_low k n rest h, digits_low k n [] h))
    (λ h.
    let d : ℕ = 48 + n % 10 in
    digits_high k n rest h ∙ digits_rest k (n / 10) (d ∷ rest) ∙ sym (append_assoc (digits k (n / 10) []) (d ∷ []) rest)
    ∙ ap (λ (x : List ℕ). x ++ rest) (sym (digits_high k n [] h ∙ digits_rest k (n / 10) (d ∷ []))))
    (less? n 10)

tenth : (j n : ℕ) → n < 10 ^ suc j → n / 10 < 10 ^ j
tenth j n h = let p : 10 ^ suc j ≡ 10 ^ j * 10 = pow-suc 10 j in omega arith

-- One place more than the digits need changes nothing.
digits_more : (k n : ℕ) (rest : List ℕ) → n < 10 ^ suc k → digits (suc k) n rest ≡ digits (suc (suc k)) n rest
digits_more zero n rest h = digits_low zero n rest (omega arith) ∙ sym (digits_low 1 n rest (omega arith))
digits_more (suc k) n rest h =
    ⊎_elim
    (λ l. digits_low (suc k) n rest l ∙ sym (digits_low (suc (suc k)) n rest l))
    (λ l. digits_high (suc k) n rest l ∙ digits_more k (n / 10) ((48 + n % 10) ∷ rest) (tenth (suc k) n h) ∙ sym (digits_high (suc (suc k)) n rest l))
    (less? n 10)

pub decimal_low : (n : ℕ) → n < 10 → decimal n ≡ (48 + n) ∷ []
unfolding decimal
decimal_low n h = digits_low 19 n [] h

-- The last digit after those before it.
pub decimal_high : (n : ℕ) → 10 ≤ n → n < 4294967296 → decimal n ≡ decimal (n / 10) ++ ((48 + n % 10) ∷ [])
unfolding decimal
decimal_high n l h =
    digits_high 19 n [] l ∙ digits_rest 19 (n / 10) ((48 + n % 10) ∷ [])
    ∙ ap (λ (x : List ℕ). x ++ ((48 + n % 10) ∷ [])) (digits_more 18 (n / 10) [] (omega arith))

digits_short : (k j n : ℕ) (rest : List ℕ) → n < 10 ^ suc j → length (digits k n rest) ≤ suc j + length rest
digits_short zero j n rest h = rw (digits_zero n rest) (omega arith)
digits_short (suc k) zero n rest h = rw (digits_low k n rest (omega arith)) (omega arith)
digits_short (suc k) (suc j) n rest h =
    ⊎_elim
    (λ l. rw (digits_low k n rest l) (omega arith))
    (λ l. rw (digits_high k n rest l) (let s = digits_short k j (n / 10) ((48 + n % 10) ∷ rest) (tenth (suc j) n h) in omega arith))
    (less? n 10)

-- A number of 32 bits has at most 10 digits.
pub decimal_short : (n : ℕ) → n < 4294967296 → length (decimal n) ≤ 10
unfolding decimal
decimal_short n h = digits_short 20 9 n [] (omega arith)
