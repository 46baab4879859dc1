-- Laws of the stores that clear the log.
use Prim.Native.Nat.{ℕ, ◌+◌, ◌-◌, ◌≤◌, ◌<◌}
use native.Mathlib.Omega.{arith}
use mathlib.Core.Path.{◌≡◌}
use mathlib.Core.List.{[], reverse}
use mathlib.Core.Bool.{true}
use lib.Dec.{ltb}
use lib.ListN.{length, length-map, length-reverse}
use Rattle.model.specs.Bytes.{zeros}
use Rattle.model.specs.Scan.{range}
use Rattle.model.specs.Sector.{Store, store}
use Rattle.model.specs.Log.{Log, unused}
use Rattle.model.specs.declared.Area.{Area}
use Rattle.model.proofs.Tests.{by_pick}
use Rattle.model.proofs.All.{All, all_image, all_reverse}
use Rattle.model.proofs.Indices.{indices_all, indices_length}
use Rattle.operations.specs.Plan.{clearing, clear_all}

-- What holds of a store of zeros to each log sector holds of all that are made to clear the log; there are as many, or none.
pub clearing_all : (a : Area) (g : Log) (P : Store → Type 0) → ((i : ℕ) → i < a.sectors → P (store (a.sector + i) zeros)) → All P (clearing a g)
unfolding clearing clear_all
clearing_all a g P h =
    let each : (j : ℕ) → a.sector ≤ j → j < a.sector + a.sectors → P (store j zeros) =
    λ j lo hi. let e : a.sector + (j - a.sector) ≡ j = omega arith in rw e at (h (j - a.sector) (omega arith)) in
    let sectors : All (λ s. P (store s zeros)) (range a.sector a.sectors) =
    indices_all (λ s. P (store s zeros)) (λ k. true) a.sector a.sectors (λ j lo hi e. each j lo hi) in
    by_pick (All P) (ltb (unused a.sectors g) a.sectors) [] _ (λ _. tt)
    (λ _. all_image P (λ s. store s zeros) (reverse (range a.sector a.sectors))
    (all_reverse (λ s. P (store s zeros)) (range a.sector a.sectors) sectors))

pub clearing_length : (a : Area) (g : Log) → length (clearing a g) ≤ a.sectors
unfolding clearing clear_all
clearing_length a g =
    by_pick (λ ss. length {A = Store} ss ≤ a.sectors) (ltb (unused a.sectors g) a.sectors) [] _ (λ _. omega arith)
    (λ _. simp (length-map, length-reverse) (indices_length (λ k. true) a.sector a.sectors))
