-- Laws of FAT entries by their place in the window, of a truth that a search keeps, and of what `all` gives over a range.
use Prim.Native.Nat.{ℕ, ◌+◌, ◌*◌, ◌/◌, ◌%◌, ◌<◌}
use native.Mathlib.Omega.{arith}
use mathlib.Core.Path.{◌≡◌, sym, ap, ◌∙◌}
use mathlib.Core.Bool.{Bool, true, false, ◌||◌}
use lib.ListN.{length, get_or}
use Rattle.std.specs.Bool.{MatchBool}
use Rattle.std.specs.List.{range_with_len, AllWithin, HoldsAt}
use Rattle.std.proofs.lemmas.List.FromFn.{length-range_with_len, get_or-range_with_len}
use mathlib.Core.List.{List}
use Rattle.model.specs.Bytes.{le, bytes_of}
use Rattle.model.specs.Scan.{count_from, all}
use Rattle.model.specs.Sector.{card_of}
use Rattle.model.specs.Fat.{fat_at, wide_entry, entry}
use Rattle.model.proofs.Sectors.{le_in}
use Rattle.model.proofs.Scan.{count_step, all_of, all_not}
use Rattle.model.proofs.Tests.{or_false}

-- Entry k of a FAT lies in the two bytes from 2 * k on.
pub flat : (xs : List ℕ) (fat k at r : ℕ) → at ≡ 512 * fat + 2 * k → r ≡ le 2 (bytes_of xs) at → r ≡ entry (fat_at (card_of xs) fat) k
unfolding wide_entry
flat xs fat k at r e is =
    is ∙ ap (le 2 (bytes_of xs)) (e ∙ omega arith) ∙ sym (le_in 2 xs (fat + k / 256) (2 * (k % 256)) (omega arith))

-- A search that has seen nothing has met nothing, one number further too: k.
pub unseen : (p : ℕ → Bool) (i n k : ℕ) (b : Bool) → k ≡ i + n → (b ≡ false → count_from p i n ≡ 0) → (b || p k) ≡ false → count_from p i (n + 1) ≡ 0
unseen p i n k b at so h =
    let t = or_false b (p k) h in
    let none : count_from p i n ≡ 0 = so t.0 in
    rw (count_step p i n, ← at, t.1) (omega arith)

-- What `all` over the numbers below n gives, where the closure says of each whether p holds of it.
pub all_told : (p : ℕ → Bool) (n : ℕ) (r : Bool)
    → MatchBool r (AllWithin (λ k. p k ≡ true) (range_with_len 0 n) 0 (length (range_with_len 0 n)))
    ((k : ℕ) × (k < length (range_with_len 0 n)) × HoldsAt (λ k. p k ≡ false) (range_with_len 0 n) k)
    → r ≡ all p n
all_told p n true h =
    sym (all_of p 0 n (λ k l m.
    let e : k ≡ get_or (range_with_len 0 n) k 0 = omega (arith, get_or-range_with_len 0 n k 0 (omega arith)) in
    ap p e ∙ h k 0 (omega arith) (omega (arith, length-range_with_len 0 n))))
all_told p n false h =
    let l = length-range_with_len 0 n in
    let e : h.0 ≡ get_or (range_with_len 0 n) h.0 0 = omega (arith, get_or-range_with_len 0 n h.0 0 (omega (arith, l, h.1))) in
    sym (all_not p 0 n h.0 (omega arith) (omega (arith, l, h.1)) (ap p e ∙ h.2 0))
