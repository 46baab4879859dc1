-- Laws of the data sectors that an append stores: they lie in the data region, and a loop makes them one by one.
use Prim.Native.Nat.{ℕ, zero, suc, ◌+◌, ◌-◌, ◌*◌, ◌/◌, ◌%◌, ◌<◌, ◌≤◌}
use native.Mathlib.Nat.{mul-le-mul_right, mod-lt}
use native.Mathlib.Numerals.{add-one}
use native.Mathlib.Omega.{arith}
use mathlib.Core.Path.{◌≡◌, sym, ap, ◌∙◌}
use mathlib.Core.List.{List, [], ◌∷◌, ◌++◌, map, map-append}
use mathlib.Core.Bool.{true}
use lib.ListN.{get_or}
use Rattle.model.specs.Bytes.{Span}
use Rattle.model.specs.Scan.{range}
use Rattle.model.specs.Sector.{Card, Store}
use Rattle.model.specs.Chain.{cluster_sector, file_sector}
use Rattle.model.specs.Promises.{Shape, up_to}
use Rattle.model.specs.declared.Layout.{Layout}
use Rattle.model.proofs.Scan.{indices_step, indices_none}
use Rattle.model.proofs.All.{All, all_image}
use Rattle.model.proofs.Indices.{indices_all, get_or_below}
use Rattle.model.proofs.Cards.{Away}
use Rattle.operations.specs.Plan.{append_sector, data_stores}

-- ---- where they lie

-- A sector of a cluster below the last one lies in the data.
pub in_data : (l : Layout) → Shape l → (k q : ℕ) → k < 2 + l.clusters
    → (l.start ≤ cluster_sector l k + q % l.factor) × (cluster_sector l k + q % l.factor < l.total)
unfolding cluster_sector
in_data l sh k q less =
    let e : suc (k - 2) * l.factor ≤ l.clusters * l.factor = mul-le-mul_right l.factor (omega arith) in
    let s : suc (k - 2) * l.factor ≡ (k - 2) * l.factor + l.factor = omega arith in
    (omega arith, omega (arith, sh.data_end, mod-lt q {m = l.factor} sh.factor_low))

module _ (l : Layout) (c : Card) (ks : List ℕ) (old : ℕ) (d : Span) where
  -- What holds of each sector's store holds of all: of those from that of byte `old` on, or of any that has bytes.
  pub data_each : (P : Store → Type 0) → ((q : ℕ) → old / 512 ≤ q → 512 * q < old + d.size → P (append_sector c (file_sector l ks q) old d q))
      → All P (data_stores l c ks old d)
  unfolding data_stores
  data_each P h =
      let n : ℕ = (old + d.size + 511) / 512 - old / 512 in
      all_image P (λ q. append_sector c (file_sector l ks q) old d q) (range (old / 512) n)
      (indices_all (λ q. P (append_sector c (file_sector l ks q) old d q)) (λ k. true) (old / 512) n (λ q lo hi e. h q lo (omega arith)))

  pub data_all : (P : Store → Type 0) → ((q : ℕ) → 512 * q < old + d.size → P (append_sector c (file_sector l ks q) old d q))
      → All P (data_stores l c ks old d)
  data_all P h = data_each P (λ q lo less. h q less)

  -- They lie in the data region,
  pub data_inside : Shape l → All (λ k. k < 2 + l.clusters) ks → All (λ s. (l.start ≤ s.sector) × (s.sector < l.total)) (data_stores l c ks old d)
  unfolding append_sector file_sector
  data_inside sh h = data_all (λ s. (l.start ≤ s.sector) × (s.sector < l.total))
      (λ q less. in_data l sh (get_or ks (q / l.factor) 0) q (get_or_below (2 + l.clusters) ks (q / l.factor) (omega arith) h))

  -- so they leave what comes before it alone.
  pub data_away : (s : ℕ) → s < l.start → Away (data_stores l c ks old d) s
  unfolding append_sector file_sector cluster_sector
  data_away s less = data_all (λ t. s ≡ t.sector → ⊥) (λ q h e. omega arith)

-- ---- one by one

-- A list over n numbers from a on, as a loop makes it.
pub turns_of : (g : ℕ → Store) (a n : ℕ) → map g (range a n) ≡ up_to (λ i. g (a + i) ∷ []) n
unfolding up_to
turns_of g a zero = ap (map g) (indices_none (λ k. true) a)
turns_of g a (suc n) =
    ap (λ m. map g (range a m)) (sym (add-one n)) ∙ ap (map g) (indices_step (λ k. true) a n)
    ∙ map-append g (range a n) ((a + n) ∷ []) ∙ ap (λ (x : List Store). x ++ (g (a + n) ∷ [])) (turns_of g a n)
