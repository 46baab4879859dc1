-- Data that was written along clusters, read again: of a file that has these clusters.
use Prim.Native.Nat.{ℕ, ◌+◌, ◌-◌, ◌*◌, ◌/◌, ◌%◌, ◌≤◌, ◌<◌}
use native.Mathlib.Omega.{arith}
use mathlib.Core.Path.{◌≡◌, refl, sym, ap, ◌∙◌}
use mathlib.Core.Logic.{inl, ⊎_elim}
use mathlib.Core.List.{List, ◌++◌}
use mathlib.Core.Bool.{true}
use Rattle.model.specs.Bytes.{Span}
use Rattle.model.specs.Scan.{range}
use Rattle.model.specs.Sector.{Card, clip, after}
use Rattle.model.specs.Fat.{Fat}
use Rattle.model.specs.Chain.{file_sector}
use Rattle.model.specs.Root.{file_at}
use Rattle.model.specs.Promises.{Shape}
use Rattle.model.specs.declared.Layout.{Layout}
use Rattle.model.specs.Record.{Change}
use Rattle.operations.specs.Plan.{appended, append_sector, data_stores}
use Rattle.operations.specs.Reading.{file_byte}
use Rattle.operations.proofs.Appends.{appended_old, appended_new}
use Rattle.operations.proofs.DataStores.{data_each}
use Rattle.model.proofs.Tests.{less?}
use Rattle.model.proofs.All.{All, all_map}
use Rattle.model.proofs.Indices.{indices_has}
use Rattle.model.proofs.Cards.{clip_clip, clip_at, after_away}
use Rattle.model.proofs.Changes.{covers_image, after_is}
use Rattle.model.proofs.Chains.{longer}
use Rattle.model.proofs.Volumes.{layout_of, first_fat}
use Rattle.safety.proofs.Start.{Start, shape_of}
use Rattle.safety.proofs.Clusters.{Plain, sector_clear}
use Rattle.safety.proofs.Theorem.{along}
use Rattle.safety.proofs.Linked.{Ranged}
use Rattle.safety.proofs.Ended.{Ended}
use Rattle.safety.proofs.Chained.{HasChain, ranged}
use Rattle.safety.proofs.Extents.{Extent, all_plain, place, ds, within, place_tells, in_base}

module _ {size : ℕ} {c : Card} (st : Start size c) {ks new : List ℕ} {old : ℕ} {d : Span} (x : Extent c ks new old d) where
  abbrev l : Layout
  l = layout_of c

  abbrev fat : Fat
  fat = first_fat c

  abbrev both : List ℕ
  both = ks ++ new

  abbrev total : ℕ
  total = old + d.size

  abbrev start : ℕ
  start = old / 512

  abbrev many : ℕ
  many = (total + 511) / 512 - old / 512

  abbrev at : ℕ → ℕ
  at q = place st x q

  sh : Shape l
  sh = shape_of st

  pub all_high : All (λ k. k < 2 + l.clusters) both
  all_high = all_map (Plain l fat) (λ k. k < 2 + l.clusters) (λ k u. u.high) both (all_plain st x)

  pub all_ranged : All (Ranged l) both
  all_ranged = all_map (Plain l fat) (Ranged l) (λ k u. ranged l sh.few k u.low u.high) both (all_plain st x)

  -- A sector that gets new bytes, and one before them.
  sector_new : (q : ℕ) → start ≤ q → 512 * q < total → after (ds st x) c (at q) ≡ clip (appended (c (at q)) old d q)
  unfolding append_sector data_stores
  sector_new q lo less = after_is (at q) (clip (appended (c (at q)) old d q)) (ds st x) c
      (data_each l c both old d (λ s. at q ≡ s.sector → clip s.bytes ≡ clip (appended (c (at q)) old d q))
      (λ r low high e. clip_clip (appended (c (at r)) old d r) ∙ ap (λ r. clip (appended (c (at r)) old d r)) (sym (place_tells st x q r less high e))))
      (inl (covers_image (λ q. append_sector c (at q) old d q) (at q) q (range start many) refl
      (indices_has (λ k. true) start many q lo (omega arith) refl)))

  sector_old : (q : ℕ) → q < start → 512 * q < total → after (ds st x) c (at q) ≡ c (at q)
  unfolding append_sector
  sector_old q low less = after_away (ds st x) c (at q)
      (data_each l c both old d (λ s. at q ≡ s.sector → ⊥) (λ r lo hi e. let same : q ≡ r = place_tells st x q r less hi e in omega arith))

  -- ---- the file in slot s of the card at the end

  module _ {f : Fat} {o : Change} {t : Card} (end : Ended size c (ds st x) f o t) {s : ℕ} (has : HasChain l t s both) where
    abbrev byte : ℕ → ℕ
    byte i = file_byte l t (file_at l t s) i

    at_place : (i : ℕ) → i < total → byte i ≡ after (ds st x) c (at (i / 512)) (i % 512)
    at_place i less = along l t s both i has.chain
        ∙ (λ j. end.sectors (at (i / 512)) (sector_clear st both (all_plain st x) (i / 512) (within st x (i / 512) (omega arith))) j (i % 512))

    laid : (i : ℕ) → start ≤ i / 512 → i < total → byte i ≡ appended (c (at (i / 512))) old d (i / 512) (i % 512)
    laid i lo less =
        let q : ℕ = i / 512 in
        at_place i less ∙ (λ j. sector_new q lo (omega arith) j (i % 512)) ∙ clip_at (appended (c (at q)) old d q) (i % 512) (omega arith)

    pub old_bytes : (i : ℕ) → i < old → byte i ≡ c (file_sector l ks (i / 512)) (i % 512)
    old_bytes i less =
        let q : ℕ = i / 512 in
        ⊎_elim
        (λ low. at_place i (omega arith) ∙ (λ j. sector_old q low (omega arith) j (i % 512)))
        (λ high. laid i high (omega arith) ∙ appended_old (c (at q)) old d q (i % 512) (omega arith)) (less? q start)
        ∙ (λ j. c (longer l ks new q (in_base st x i less) j) (i % 512))

    pub new_bytes : (i : ℕ) → old ≤ i → i < total → byte i ≡ d.byte (i - old)
    new_bytes i lo less =
        let q : ℕ = i / 512 in
        let e : 512 * q + i % 512 - old ≡ i - old = omega arith in
        laid i (omega arith) less ∙ appended_new (c (at q)) old d q (i % 512) (omega arith) (omega arith) ∙ ap d.byte e
