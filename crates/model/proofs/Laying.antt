-- Laws of bytes laid over others: what they depend on, and one part after another.
use Prim.Native.Nat.{ℕ, ◌+◌, ◌-◌, ◌<◌}
use native.Mathlib.Omega.{arith}
use mathlib.Core.Path.{◌≡◌, sym, ap, ◌∙◌}
use mathlib.Core.Logic.{⊎_elim}
use mathlib.Core.List.{List}
use lib.ListN.{get_or}
use Rattle.model.specs.Bytes.{Bytes, bytes_of, overlay, part}
use Rattle.model.proofs.Tests.{less?}
use Rattle.model.proofs.Overlays.{overlay_in, overlay_below, overlay_above}

-- Only the bytes laid over matter.
pub overlay_same : (n : ℕ) (p q : Bytes) (at : ℕ) (b : Bytes) → ((m : ℕ) → m < n → p m ≡ q m) → (i : ℕ) → overlay n p at b i ≡ overlay n q at b i
overlay_same n p q at b h i =
    ⊎_elim
    (λ l. overlay_below p at b n i l ∙ sym (overlay_below q at b n i l))
    (λ l. ⊎_elim
    (λ u. overlay_in p at b n i l u ∙ h (i - at) (omega arith) ∙ sym (overlay_in q at b n i l u))
    (λ u. overlay_above p at b n i u ∙ sym (overlay_above q at b n i u))
    (less? i (at + n)))
    (less? i at)

-- Only the bytes that are kept matter.
pub overlay_under : (n : ℕ) (p : Bytes) (at : ℕ) (b d : Bytes) (i : ℕ) → b i ≡ d i → overlay n p at b i ≡ overlay n p at d i
overlay_under n p at b d i h =
    ⊎_elim
    (λ l. overlay_below p at b n i l ∙ h ∙ sym (overlay_below p at d n i l))
    (λ l. ⊎_elim
    (λ u. overlay_in p at b n i l u ∙ sym (overlay_in p at d n i l u))
    (λ u. overlay_above p at b n i u ∙ h ∙ sym (overlay_above p at d n i u))
    (less? i (at + n)))
    (less? i at)

-- What lies at its own place, and the part after it.
pub overlay_next : (p : Bytes) (e x y : List ℕ) (i m : ℕ) → ((j : ℕ) → get_or x j 0 ≡ overlay i p 0 (bytes_of e) j)
    → ((j : ℕ) → get_or y j 0 ≡ overlay m (part p i) i (bytes_of x) j) → (j : ℕ) → get_or y j 0 ≡ overlay (i + m) p 0 (bytes_of e) j
overlay_next p e x y i m so next j =
    ⊎_elim
    (λ l. next j ∙ overlay_below (part p i) i (bytes_of x) m j l ∙ so j ∙ overlay_in p 0 (bytes_of e) i j (omega arith) (omega arith)
    ∙ sym (overlay_in p 0 (bytes_of e) (i + m) j (omega arith) (omega arith)))
    (λ l. ⊎_elim
    (λ u. next j ∙ overlay_in (part p i) i (bytes_of x) m j l u ∙ ap p (omega arith) ∙ sym (overlay_in p 0 (bytes_of e) (i + m) j (omega arith) (omega arith)))
    (λ u. next j ∙ overlay_above (part p i) i (bytes_of x) m j u ∙ so j ∙ overlay_above p 0 (bytes_of e) i j (omega arith)
    ∙ sym (overlay_above p 0 (bytes_of e) (i + m) j (omega arith)))
    (less? j (i + m)))
    (less? j i)
