-- A card whose first sectors are looked up once: the same card, and quicker to compute with where it comes of many stores.
use Prim.Native.Nat.{ℕ, zero, suc, ◌+◌, ◌<◌}
use native.Mathlib.Nat.{not-suc-le-zero, le_of_suc-le-suc, add-zero}
use native.Mathlib.Omega.{arith}
use mathlib.Core.Path.{◌≡◌, refl, sym, ap, ◌∙◌, fun_ext}
use mathlib.Core.List.{List, map}
use mathlib.Core.Bool.{Bool, true, false}
use lib.Dec.{ltb}
use lib.ListN.{get_or}
use borrow.Author.Tests.{ltb-true}
use Rattle.model.specs.Bytes.{Bytes, pick, zeros}
use Rattle.model.specs.Scan.{range, indices_from, walk}
use Rattle.model.specs.Sector.{Card, Window, Store}
use Rattle.operations.specs.Calls.{Call}
use Rattle.worked.specs.CardK.{trace_on}

abbrev look : List Bytes → ℕ → Card → Card
look t n c s = pick (ltb s n) (get_or t s zeros) (c s)

abbrev pub flat : ℕ → Card → Card
flat n c = look (map c (range 0 n)) n c

listed_at : (c : Card) (n i s : ℕ) → s < n → get_or (map c (range i n)) s zeros ≡ c (i + s)
unfolding indices_from walk
listed_at c zero i s h = absurd (not-suc-le-zero h)
listed_at c (suc n) i zero h = ap c (sym (add-zero i))
listed_at c (suc n) i (suc s) h = listed_at c n (i + 1) s (le_of_suc-le-suc h) ∙ ap c (omega arith)

look_same : (c : Card) (n s : ℕ) (t : Bool) → ltb s n ≡ t → look (map c (range 0 n)) n c s ≡ c s
look_same c n s true e = rw e (listed_at c n 0 s (ltb-true s n e) ∙ ap c (omega arith))
look_same c n s false e = rw e

flat_same : (n : ℕ) → flat n ≡ (λ c. c)
flat_same n = fun_ext λ c. fun_ext λ s. look_same c n s (ltb s n) refl

pub trace_flat : {R : Type 0} (see : List Store → Card → R) (n : ℕ) (xs : List Call) (w : Window)
    → trace_on see (λ c. c) xs w ≡ trace_on see (flat n) xs w
trace_flat see n xs w = ap (λ on. trace_on see on xs w) (sym (flat_same n))

-- So with a window's card.
abbrev pub flattened : ℕ → Window → Window
flattened n w = record { size = w.size; card = flat n w.card }

pub flattened_same : (n : ℕ) (w : Window) → flattened n w ≡ w
flattened_same n w = ap (λ (on : Card → Card). record { size = w.size; card = on w.card }) (flat_same n)
