-- The FAT that a pass makes is the one in which the lowest free clusters are linked after the last.
use Prim.Native.Nat.{ℕ, ◌+◌, ◌-◌, ◌*◌, ◌<◌, ◌≤◌}
use native.Mathlib.Omega.{arith}
use mathlib.Core.Path.{◌≡◌, refl, sym, ap, ◌∙◌}
use mathlib.Core.Logic.{⊎_elim}
use mathlib.Core.Bool.{Bool, true, false}
use mathlib.Core.List.{List, [], ◌∷◌, ◌++◌}
use lib.ListN.{length, take}
use lib.Dec.{eqb}
use borrow.Author.Tests.{ne_eqb}
use Rattle.model.specs.Bytes.{Bytes, pick}
use Rattle.model.specs.Scan.{indices_from, first_from}
use Rattle.model.specs.Sector.{Card}
use Rattle.model.specs.Fat.{Fat, fat1_of, set_entry, free_clusters, link}
use Rattle.model.specs.Promises.{Shape}
use Rattle.model.specs.declared.Layout.{Layout}
use Rattle.model.proofs.Tests.{less?}
use Rattle.model.proofs.Scan.{first_same, first_has, indices_same}
use Rattle.model.proofs.Entries.{link_local}
use Rattle.model.proofs.Searches.{indices_first}
use Rattle.fat_read.specs.Located.{holds}
use Rattle.fat_copy.specs.Change.{lead, sectors_of}
use Rattle.fat_copy.proofs.Laws.{own_sector, own_entry, lead_local}
use Rattle.fat_write.specs.Allocate.{grown, free_from, news, NextNew}
use Rattle.fat_write.proofs.News.{free_end, news_head}
use Rattle.fat_write.proofs.Passes.{linked}

-- A first cluster linked after `last`.
grown_lead : (last k : ℕ) (ks : List ℕ) (f : Fat) → link (pick (eqb last 0) [] (last ∷ []) ++ (k ∷ ks)) f ≡ link (k ∷ ks) (lead last k f)
unfolding lead link
grown_lead last k ks f = go (eqb last 0)
  where
    go : (b : Bool) → link (pick b [] (last ∷ []) ++ (k ∷ ks)) f ≡ link (k ∷ ks) (pick b f (set_entry last k f))
    go true = refl
    go false = refl

module _ (l : Layout) (c : Card) where
  pub own_first : (k n : ℕ) → k + n ≤ 256 * l.fatsize → first_from (holds 0 (fat1_of l c)) k n ≡ first_from (holds 0 (sectors_of l c)) k n
  own_first k n h = first_same (holds 0 (fat1_of l c)) (holds 0 (sectors_of l c)) k n (λ i lo hi. ap (λ (v : ℕ). eqb v 0) (sym (own_entry l c i (omega arith))))

  module _ (sh : Shape l) (n first : ℕ) (enough : n ≤ length (free_clusters l (fat1_of l c)))
      (is : first ≡ first_from (holds 0 (sectors_of l c)) 2 l.clusters) where
    own_free : free_clusters l (fat1_of l c) ≡ free_from l (sectors_of l c) first
    unfolding free_clusters free_from
    own_free =
        let f : 2 + l.clusters - first ≡ l.clusters + 2 - first = omega arith in
        indices_same (holds 0 (fat1_of l c)) (holds 0 (sectors_of l c)) 2 l.clusters
        (λ i lo hi. ap (λ (v : ℕ). eqb v 0) (sym (own_entry l c i (omega (arith, sh.enough)))))
        ∙ (rw (← is) at (indices_first (holds 0 (sectors_of l c)) 2 l.clusters)) ∙ ap (indices_from (holds 0 (sectors_of l c)) first) f

    first_inside : 0 < n → first < l.clusters + 2
    first_inside pos = ⊎_elim (λ h. h)
        (λ h. absurd (let e : length (free_clusters l (fat1_of l c)) ≡ 0 = ap length (own_free ∙ free_end l (sectors_of l c) first h) in omega arith))
        (less? first (l.clusters + 2))

    first_free : 0 < n → holds 0 (sectors_of l c) first ≡ true
    first_free pos = rw is (first_has (holds 0 (sectors_of l c)) 2 l.clusters (let h : first < l.clusters + 2 = first_inside pos in omega arith))

    pub new_first : NextNew l (sectors_of l c) first n
    new_first = record { enough = rw own_free at enough; inside = first_inside; free = first_free }

    pub grown_some : 0 < n → (last s j : ℕ) → s < l.fatsize → grown l (fat1_of l c) last n s j ≡ linked l (sectors_of l c) last first first n s j
    unfolding grown news
    grown_some pos last s j h =
        let t = sectors_of l c in
        let ks : List ℕ = take (n - 1) (free_from l t (first + 1)) in
        let e : news l t first n ≡ first ∷ ks = news_head l t first n pos (first_inside pos) (first_free pos) in
        rw (ne_eqb n 0 (λ q. omega arith))
        (ap (λ (x : List ℕ). link (pick (eqb last 0) [] (last ∷ []) ++ x) (fat1_of l c) s j) (ap (take n) own_free ∙ e)
        ∙ ap (λ (f : Fat). f s j) (grown_lead last first ks (fat1_of l c))
        ∙ link_local (first ∷ ks) (lead last first (fat1_of l c)) (lead last first t) s j
        (lead_local last first (fat1_of l c) t s j (ap (λ (b : Bytes). b j) (sym (own_sector l c s h))))
        ∙ ap (λ (x : List ℕ). link x (lead last first t) s j) (sym e))
