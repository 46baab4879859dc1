-- A sum turned right by one bit, as `rotate_right` does it.
use Rattle.std.proofs.Common.{◌≡◌, ℕ, ◌<◌, true, eqb, refl, w8}
use borrow.Author.Tests.{eqb-true}
use Rattle.std.specs.Int.{rotate_right}
use Rattle.model.specs.Scan.{all, all_from, walk}
use Rattle.model.specs.Long.{turned}
use Rattle.model.proofs.Scan.{all_at0}

tested : all (λ n. eqb (rotate_right w8 n 1) (turned n)) 256 ≡ true
unfolding all_from walk turned
tested = refl

pub rotate_turned : (n : ℕ) → n < 256 → rotate_right w8 n 1 ≡ turned n
rotate_turned n h = eqb-true (rotate_right w8 n 1) (turned n) (all_at0 (λ n. eqb (rotate_right w8 n 1) (turned n)) 256 tested n h)
