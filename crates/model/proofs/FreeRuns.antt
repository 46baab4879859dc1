-- Laws of the lowest run of free slots.
use Prim.Native.Nat.{ℕ, ◌+◌, ◌-◌, ◌≤◌, ◌<◌}
use native.Mathlib.Omega.{arith}
use mathlib.Core.Path.{◌≡◌, ap, ◌∙◌}
use mathlib.Core.Logic.{⊎_elim}
use mathlib.Core.Bool.{Bool, true, not}
use lib.Dec.{eqb}
use borrow.Author.Tests.{eq-eqb}
use Rattle.model.specs.Bytes.{Bytes}
use Rattle.model.specs.Scan.{all_from}
use Rattle.model.specs.Sector.{Card}
use Rattle.model.specs.Root.{slot_at, vacant, free_run, first_bytes, root_ok}
use Rattle.model.specs.declared.Layout.{Layout}
use Rattle.model.proofs.Tests.{clash, or_left, same?}
use Rattle.model.proofs.Scan.{all_at, all_of, first_has0, first_before0}
use Rattle.model.proofs.Order.{in_order}
use Rattle.model.proofs.Names.{Live, vacant_starts}

zero_vacant : (b : Bytes) → b 0 ≡ 0 → vacant b ≡ true
unfolding vacant
zero_vacant b e = or_left (eqb (b 0) 0) (eqb (b 0) 0xE5) (eq-eqb (b 0) 0 e)

module _ (l : Layout) (c : Card) (m : ℕ) (room : free_run l c m < l.entries + 1 - m) where
  abbrev test : ℕ → Bool
  test k = all_from (λ i. vacant (slot_at l c i)) k m

  -- Its slots are vacant.
  pub run_vacant : (k : ℕ) → free_run l c m ≤ k → k < free_run l c m + m → vacant (slot_at l c k) ≡ true
  unfolding free_run
  run_vacant k low high = all_at (λ i. vacant (slot_at l c i)) (free_run l c m) m (first_has0 test (l.entries + 1 - m) room) k low high

  -- So no live slot is one of them.
  pub run_not_live : (k : ℕ) → Live l c k → free_run l c m ≤ k → k < free_run l c m + m → ⊥
  run_not_live k live low high = clash (vacant_starts (slot_at l c k) ∙ live.begins) (ap not (run_vacant k low high))

  -- No slot before it begins 0: with those after it there would be a lower run.
  pub run_lowest : root_ok l.entries (first_bytes l c) ≡ true → (k : ℕ) → k < free_run l c m → first_bytes l c k ≡ 0 → ⊥
  unfolding free_run
  run_lowest ok k less e =
      clash (all_of (λ i. vacant (slot_at l c i)) k m (λ i low high. ⊎_elim
      (λ q. zero_vacant (slot_at l c i) (ap (first_bytes l c) q ∙ e))
      (λ ne. zero_vacant (slot_at l c i) (in_order l.entries (first_bytes l c) ok k i (omega arith) (omega arith) e)) (same? i k)))
      (first_before0 test (l.entries + 1 - m) k less)
