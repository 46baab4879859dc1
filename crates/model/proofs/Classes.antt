-- The tests by which free clusters, links, log marks and chain ends are told are the classes of FAT values.
use Prim.Native.Nat.{ℕ, ◌+◌, ◌≤◌, ◌<◌}
use native.Mathlib.Omega.{arith}
use mathlib.Core.Path.{◌≡◌}
use mathlib.Core.Bool.{true, false}
use borrow.Author.Tests.{eqb-true, ne_eqb, lt-leb, le-leb}
use Rattle.model.specs.Scan.{between}
use Rattle.model.specs.Fat.{is_free, in_range, is_reserved, is_end, class}
use Rattle.model.specs.declared.Layout.{Layout}
use Rattle.model.specs.declared.Class.TheVariants as Class
use Rattle.model.proofs.Tests.{between_true}

module _ (l : Layout) (v : ℕ) where
  pub class_free : is_free v ≡ true → class l v ≡ Class.Free
  unfolding class
  class_free h = rw h

  pub class_next : in_range l v ≡ true → class l v ≡ Class.Next
  unfolding class in_range
  class_next h =
      let r = between_true 2 (l.clusters + 1) v h in
      rw (ne_eqb v 0 (λ e. omega arith), h)

  -- A number past the clusters is no link.
  past_range : l.clusters + 1 < v → in_range l v ≡ false
  unfolding in_range between
  past_range h = rw (le-leb 2 v (omega arith), lt-leb v (l.clusters + 1) h)

  pub class_reserved : l.clusters ≤ 65524 → is_reserved v ≡ true → class l v ≡ Class.Reserved
  unfolding class
  class_reserved few h =
      let e : v ≡ 0xFFF6 = eqb-true v 0xFFF6 h in
      rw (ne_eqb v 0 (λ z. omega arith), past_range (omega arith), h)

  pub class_end : l.clusters ≤ 65524 → is_end v ≡ true → class l v ≡ Class.End
  unfolding class is_end
  class_end few h =
      let r = between_true 0xFFF8 0xFFFF v h in
      rw (ne_eqb v 0 (λ z. omega arith), past_range (omega arith), ne_eqb v 0xFFF6 (λ z. omega arith), ne_eqb v 0xFFF7 (λ z. omega arith), h)
