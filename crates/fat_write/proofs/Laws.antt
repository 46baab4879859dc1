-- Laws of the renewed FAT: sector by sector, and as it is where nothing is new or nothing freed.
use Prim.Native.Nat.{ℕ, zero, suc, ◌+◌, ◌*◌, ◌/◌, ◌%◌, ◌<◌, ◌≤◌}
use native.Mathlib.Omega.{arith}
use mathlib.Core.Path.{◌≡◌, refl, sym, ap, ◌∙◌}
use mathlib.Core.Bool.{false}
use mathlib.Core.List.{List, [], ◌∷◌, ◌++◌, append-nil}
use lib.ListN.{length, take}
use lib.Dec.{eqb}
use borrow.Author.Tests.{ne_eqb}
use Rattle.model.specs.Bytes.{Bytes, pick}
use Rattle.model.specs.Scan.{first_from}
use Rattle.model.specs.Sector.{Card, card_of}
use Rattle.model.specs.Fat.{Fat, entry, end_value, fat1_of, fat2_of, free_clusters, link, release}
use Rattle.model.specs.Chain.{chain}
use Rattle.std.proofs.Common.{Result}
use Rattle.model.specs.Promises.{Spent, up_to, Shape}
use Rattle.model.specs.declared.Stopped.{Stopped}
use Rattle.model.specs.declared.Layout.{Layout}
use Rattle.model.proofs.Entries.{release_local}
use Rattle.operations.specs.Plan.{exchange}
use Rattle.fat_copy.specs.Change.{lead, renewal, sectors_of, own_fat}
use Rattle.fat_copy.proofs.Laws.{renewal_same, renewals, next_kept, fat_kept}
use Rattle.fat_read.specs.Located.{holds}
use Rattle.fat_release.specs.Release.{cut, cleared, mark_of, Inside, Marked}
use Rattle.fat_release.proofs.Laws.{cleared_is, own_chain, cut_none, cut_some}
use Rattle.fat_write.specs.Allocate.{grown, news, Above, Moved}
use Rattle.fat_write.specs.Renew.{renewed, passed}
use Rattle.fat_write.proofs.Grown.{grown_some}
use Rattle.fat_write.proofs.Passes.{linked}
use Rattle.fat_write.proofs.Passes.{unchanged as stays}

-- ---- a sector

-- One with neither `last`, nor a new cluster, nor a mark stays as it is.
pub unchanged : (marks : List ℕ) (l : Layout) (t : Fat) (s last value at left : ℕ) → (s ≡ last / 256 → ⊥) → Above (s + 1) at left
    → ((i : ℕ) → i < 256 → mark_of marks (256 * (s % 32) + i) ≡ 0) → (j : ℕ) → j < 512 → cleared marks (linked l t last value at left) s j ≡ t s j
unfolding cleared
unchanged marks l t s last value at left ne up none j less = rw (none (j / 2) (omega arith)) (ap (λ (b : Bytes). b j) (stays l t s last value at left ne up))

-- ---- a pass over the sectors

module _ (l : Layout) (sh : Shape l) (last value first n m old : ℕ) (s : ℕ) {b limit : ℕ} {e x : List ℕ} {r : Result Unit Stopped}
    (so : Spent b limit (up_to (renewals l (passed l (own_fat l e) last value first n m old) (fat2_of l (card_of e))) s) e x r) where
  -- FAT1 is as at the start.
  pub fat_same : own_fat l x ≡ own_fat l e
  fat_same = fat_kept l sh (passed l (own_fat l e) last value first n m old) s so

  -- A sector's store, as the turn finds the card, is that of the whole.
  pub turn_same : (marks : List ℕ) → Marked (chain (entry (own_fat l x)) m old) (8192 * (s / 32)) marks
      → {at left : ℕ} → Moved l (own_fat l e) s first n at left
      → renewal (l.fat2 + s) (cleared marks (linked l (own_fat l x) last value at left) s) (card_of x (l.fat2 + s)) ≡ renewals l
      (passed l (own_fat l e) last value first n m old) (fat2_of l (card_of e)) s
  turn_same marks h {at} {left} mv =
      renewal_same (l.fat2 + s) (cleared marks (linked l (own_fat l x) last value at left) s) (passed l (own_fat l x) last value at left m old s)
      (card_of x (l.fat2 + s))
      (cleared_is (chain (entry (own_fat l x)) m old) marks (linked l (own_fat l x) last value at left) s h)
      ∙ ap (λ (t : Fat). renewal (l.fat2 + s) (passed l t last value at left m old s) (card_of x (l.fat2 + s))) fat_same
      ∙ renewal_same (l.fat2 + s) (passed l (own_fat l e) last value at left m old s) (passed l (own_fat l e) last value first n m old s)
      (card_of x (l.fat2 + s))
      (λ j b. release_local (chain (entry (own_fat l e)) m old) (linked l (own_fat l e) last value at left) (linked l (own_fat l e) last value first n) s j
      (ap (λ (b : Bytes). b j) (mv.later (lead last value (own_fat l e)) s (omega arith))))
      ∙ ap (λ (b : Bytes). renewal (l.fat2 + s) (passed l (own_fat l e) last value first n m old s) b)
      (next_kept l sh (passed l (own_fat l e) last value first n m old) s so s (omega arith))

-- ---- FAT1 as it is on the card

-- Nothing is new, and something is.
pub renewed_cut : (ks : List ℕ) (t : Fat) (last old m : ℕ) → renewed last (take 0 ks) (chain (entry t) m old) t ≡ cut t last old m
unfolding renewed cut chain
renewed_cut ks t last old zero = refl
renewed_cut ks t last old (suc m) =
    let e : eqb (0 + suc (length (chain (entry t) m (entry t old)))) 0 ≡ false = ne_eqb (0 + suc (length (chain (entry t) m (entry t old)))) 0
    (λ q. omega arith) in
    rw (e, ne_eqb (suc m) 0 (λ q. omega arith), append-nil)

taken : (t : Fat) (last n : ℕ) (free freed : List ℕ) → 0 < n → n ≤ length free
    → renewed last (take n free) freed t ≡ release freed (link (pick (eqb last 0) [] (last ∷ []) ++ take n free) t)
unfolding renewed
taken t last zero free freed pos h = absurd (omega arith)
taken t last (suc n) [] freed pos h = absurd (omega arith)
taken t last (suc n) (k ∷ ks) freed pos h = rw (ne_eqb (suc (length (take n ks)) + length freed) 0 (λ e. omega arith))

pub renewed_grown : (l : Layout) (t : Fat) (last n : ℕ) (freed : List ℕ) → 0 < n → n ≤ length (free_clusters l t)
    → renewed last (take n (free_clusters l t)) freed t ≡ release freed (grown l t last n)
unfolding grown
renewed_grown l t last n freed pos h = rw (ne_eqb n 0 (λ e. omega arith)) (taken t last n (free_clusters l t) freed pos h)

-- Nothing is freed.
pub renewed_append : (l : Layout) (t : Fat) (last n old : ℕ) → n ≤ length (free_clusters l t)
    → renewed last (take n (free_clusters l t)) (chain (entry t) 0 old) t ≡ grown l t last n
unfolding renewed grown chain release
renewed_append l t last zero old h = refl
renewed_append l t last (suc n) old h = renewed_grown l t last (suc n) [] (omega arith) h

-- None is kept.
pub renewed_exchange : (new freed : List ℕ) (t : Fat) → renewed 0 new freed t ≡ exchange freed new t
unfolding renewed exchange link release
renewed_exchange [] [] t = refl
renewed_exchange [] (k ∷ ks) t = rw (ne_eqb (0 + suc (length ks)) 0 (λ e. omega arith))
renewed_exchange (k ∷ ks) freed t = rw (ne_eqb (suc (length ks) + length freed) 0 (λ e. omega arith))

module _ (l : Layout) (c : Card) where
  pub passed_none : (last old s j : ℕ) → s < l.fatsize → cut (fat1_of l c) last old 0 s j ≡ passed l (sectors_of l c) 0 0 0 0 0 0 s j
  unfolding news link lead
  passed_none last old s j h = cut_none l c last old s j h

  module _ (sh : Shape l) (last old m : ℕ) (h : Inside l (chain (entry (fat1_of l c)) m old)) where
    pub passed_cut : (s j : ℕ) → 0 < m → s < l.fatsize → cut (fat1_of l c) last old m s j ≡ passed l (sectors_of l c) last end_value 0 0 m old s j
    unfolding news link
    passed_cut s j pos less = cut_some l c sh last old m s j pos h less

    pub passed_some : (n first : ℕ) → n ≤ length (free_clusters l (fat1_of l c)) → first ≡ first_from (holds 0 (sectors_of l c)) 2 l.clusters
        → 0 < n → (s j : ℕ) → s < l.fatsize
        → renewed last (take n (free_clusters l (fat1_of l c))) (chain (entry (fat1_of l c)) m old) (fat1_of l c) s j ≡ passed l (sectors_of l c) last
        first first n m old s j
    passed_some n first enough is pos s j less =
        ap (λ (f : Fat). f s j) (renewed_grown l (fat1_of l c) last n (chain (entry (fat1_of l c)) m old) pos enough)
        ∙ ap (λ (ks : List ℕ). release ks (grown l (fat1_of l c) last n) s j) (sym (own_chain l c sh m old h))
        ∙ release_local (chain (entry (sectors_of l c)) m old) (grown l (fat1_of l c) last n) (linked l (sectors_of l c) last first first n) s j
        (grown_some l c sh n first enough is pos last s j less)
