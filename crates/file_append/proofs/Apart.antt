-- What an append's data sectors leave alone: all before the data region and after the card, and the log.
use Prim.Native.Nat.{ℕ, ◌+◌, ◌-◌, ◌*◌, ◌/◌, ◌%◌, ◌<◌, ◌≤◌}
use native.Mathlib.Nat.{div-add-mod', div-eq_of_lt, div-lt_iff_lt-mul, mod-lt, mod-eq_of_lt, add-mul}
use native.Mathlib.Omega.{arith}
use mathlib.Core.Path.{◌≡◌, sym, ap, ◌∙◌}
use mathlib.Core.List.{List, [], ◌∷◌}
use mathlib.Core.Bool.{true, false}
use lib.ListN.{length, get_or}
use Rattle.model.specs.Bytes.{Span}
use Rattle.model.specs.Scan.{first_from, count_from}
use Rattle.model.specs.Sector.{Card}
use Rattle.model.specs.Fat.{Fat, fat1_of, free_clusters}
use Rattle.model.specs.Chain.{cluster_sector, file_sector}
use Rattle.model.specs.Log.{marked, run, run_ok, area}
use Rattle.model.specs.Promises.{Shape}
use Rattle.model.specs.declared.Layout.{Layout}
use Rattle.model.specs.declared.File.{File}
use Rattle.model.proofs.Tests.{clash, every_at}
use Rattle.model.proofs.Scan.{all_at, first_ge}
use Rattle.model.proofs.All.{All, all_map}
use Rattle.model.proofs.Indices.{all_get_or}
use Rattle.model.proofs.Cards.{Away}
use Rattle.model.proofs.Chains.{meet, in_cluster}
use Rattle.operations.specs.Plan.{added, append_sector}
use Rattle.operations.proofs.DataStores.{data_all, data_inside}
use Rattle.file_read.specs.Files.{Proper}
use Rattle.file_append.specs.Extents.{extended, append_data}
use Rattle.file_append.proofs.Clusters.{extended_length, extended_in, extended_unmarked}

-- Sector j of a cluster, as a sector along that cluster alone.
only : (l : Layout) (k j : ℕ) → j < l.factor → file_sector l (k ∷ []) j ≡ cluster_sector l k + j
unfolding file_sector
only l k j less = rw (div-eq_of_lt less, mod-eq_of_lt less)

-- A sector of the log is in a cluster that is marked.
pub log_cluster : (l : Layout) (t : Fat) → Shape l → run_ok l t (run l t) ≡ true → (s : ℕ) → s < (area l (run l t)).sectors
    → (k : ℕ) × (2 ≤ k) × (marked t k ≡ true) × ((area l (run l t)).sector + s ≡ cluster_sector l k + s % l.factor)
unfolding run run_ok area cluster_sector
log_cluster l t sh ok s less =
    let a : ℕ = first_from (marked t) 2 l.clusters in
    let n : ℕ = count_from (marked t) 2 l.clusters in
    let i : ℕ = s / l.factor in
    let two : 2 ≤ a = first_ge (marked t) 2 l.clusters in
    let in-run : i < n = (div-lt_iff_lt-mul {k = l.factor} {x = s} {y = n} sh.factor_low).1 less in
    let d : i * l.factor + s % l.factor ≡ s = div-add-mod' s l.factor in
    let z : a + i - 2 ≡ a - 2 + i = omega arith in
    let m : (a - 2 + i) * l.factor ≡ (a - 2) * l.factor + i * l.factor = add-mul (a - 2) i l.factor in
    (a + i, omega arith, all_at (marked t) a n (every_at _ ok 2) (a + i) (omega arith) (omega arith), rw z (omega arith))

module _ (l : Layout) (c : Card) (f : File) (d : Span) (sh : Shape l) (h : Proper l c f) where
  -- The stores lie in the data region,
  pub append_inside : All (λ s. (l.start ≤ s.sector) × (s.sector < l.total)) (append_data l c f d)
  append_inside = data_inside l c (extended l (fat1_of l c) f d.size) f.size d sh
      (all_map (λ k. (2 ≤ k) × (k < 2 + l.clusters)) (λ k. k < 2 + l.clusters) (λ k q. q.1) (extended l (fat1_of l c) f d.size)
      (extended_in l (fat1_of l c) f d.size sh h))

  -- and not in the log.
  pub append_off_log : added l f d.size ≤ length (free_clusters l (fat1_of l c)) → run_ok l (fat1_of l c) (run l (fat1_of l c)) ≡ true
      → (s : ℕ) → s < (area l (run l (fat1_of l c))).sectors → Away (append_data l c f d) ((area l (run l (fat1_of l c))).sector + s)
  unfolding append_sector
  append_off_log room ok s less =
      let t : Fat = fat1_of l c in
      let ks : List ℕ = extended l (fat1_of l c) f d.size in
      let k = log_cluster l (fat1_of l c) sh ok s less in
      let j : s % l.factor < l.factor = mod-lt s sh.factor_low in
      let low = all_map (λ k. (2 ≤ k) × (k < 2 + l.clusters)) (λ k. 2 ≤ k) (λ k q. q.0) (extended l (fat1_of l c) f d.size)
      (extended_in l (fat1_of l c) f d.size sh h) in
      data_all l c ks f.size d (λ x. (area l (run l (fat1_of l c))).sector + s ≡ x.sector → ⊥) (λ q below e.
      let among : q / l.factor < length (extended l (fat1_of l c) f d.size) =
      rw (extended_length l (fat1_of l c) f d.size sh.factor_low room) (in_cluster l sh.factor_low q (f.size + d.size) below) in
      let z : s % l.factor / l.factor < 1 = rw (div-eq_of_lt j) (omega arith) in
      let m = meet l sh.factor_low ks (k.0 ∷ []) q (s % l.factor) low (k.1, tt) among z (sym e ∙ k.3 ∙ sym (only l k.0 (s % l.factor) j)) in
      let same : get_or ks (q / l.factor) 0 ≡ k.0 = m.0 ∙ ap (λ i. get_or (k.0 ∷ []) i 0) (div-eq_of_lt j) in
      clash k.2 (rw same at (all_get_or (λ k. marked t k ≡ false) ks (extended_unmarked l t f d.size sh h) (q / l.factor) among)))
