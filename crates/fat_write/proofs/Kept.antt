-- Cards with the same sectors before the data: FAT2 is written by the same stores.
use Prim.Native.Nat.{ℕ, ◌+◌, ◌/◌, ◌<◌}
use native.Mathlib.Omega.{arith}
use mathlib.Core.Path.{◌≡◌, ap, ◌∙◌}
use mathlib.Core.Bool.{Bool, true, false, not}
use mathlib.Core.List.{List, [], ◌∷◌, ◌++◌, map}
use lib.Dec.{eqb}
use lib.ListN.{take}
use Rattle.model.specs.Bytes.{Bytes, pick}
use Rattle.model.specs.Sector.{Card, store}
use Rattle.model.specs.Fat.{Fat, is_free, entry, fat1_of, fat2_of, free_clusters, link, same, differing, write_fat}
use Rattle.model.specs.Chain.{chain}
use Rattle.model.specs.Promises.{Shape}
use Rattle.model.specs.declared.Layout.{Layout}
use Rattle.model.proofs.Scan.{indices_same}
use Rattle.model.proofs.Fats.{free, entry_same}
use Rattle.model.proofs.All.{All}
use Rattle.model.proofs.Chains.{chain_same}
use Rattle.model.proofs.Entries.{link_local, release_local}
use Rattle.operations.specs.Plan.{exchange}
use Rattle.fat_copy.proofs.Laws.{write_same}
use Rattle.fat_release.specs.Release.{Inside}
use Rattle.fat_write.specs.Allocate.{grown}
use Rattle.fat_write.specs.Renew.{exchanged}

-- A FAT that had the same sectors needs the same stores,
pub write_old : (l : Layout) (at : ℕ) (new f g : Fat) → ((s : ℕ) → s < l.fatsize → f s ≡ g s) → write_fat l at new f ≡ write_fat l at new g
unfolding write_fat differing
write_old l at new f g h =
    ap (map (λ s. store (at + s) (new s)))
    (indices_same (λ s. not (same (new s) (f s))) (λ s. not (same (new s) (g s))) 0 l.fatsize
    (λ s lo hi. ap (λ (b : Bytes). not (same (new s) b)) (h s (omega arith))))

-- and so where the new one has the same bytes.
pub write_both : (l : Layout) (f g x y : Fat) → ((s j : ℕ) → s < l.fatsize → j < 512 → f s j ≡ g s j) → ((s : ℕ) → s < l.fatsize → x s ≡ y s)
    → write_fat l l.fat2 f x ≡ write_fat l l.fat2 g y
write_both l f g x y h k = write_same l f g x h ∙ write_old l l.fat2 g x y k

-- The FAT with new clusters depends on the free ones and, byte by byte, on the FAT before.
grown_local : (l : Layout) (t u : Fat) (last n s j : ℕ) → free_clusters l t ≡ free_clusters l u → t s j ≡ u s j → grown l t last n s j ≡ grown l u last n s j
unfolding grown
grown_local l t u last n s j e h = go (eqb n 0)
  where
    ks : Fat → List ℕ
    ks f = pick (eqb last 0) [] (last ∷ []) ++ take n (free_clusters l f)

    go : (b : Bool) → pick b t (link (ks t) t) s j ≡ pick b u (link (ks u) u) s j
    go true = h
    go false = ap (λ (zs : List ℕ). link (pick (eqb last 0) [] (last ∷ []) ++ take n zs) t s j) e ∙ link_local (ks u) t u s j h

module _ (l : Layout) (sh : Shape l) (c x : Card) (front : (s : ℕ) → s < l.start → x s ≡ c s) where
  fat1_kept : (s : ℕ) → s < l.fatsize → fat1_of l x s ≡ fat1_of l c s
  fat1_kept s less = front (l.fat1 + s) (omega (arith, sh.fat2_at, sh.root_at, sh.start_at))

  fat2_kept : (s : ℕ) → s < l.fatsize → fat2_of l x s ≡ fat2_of l c s
  fat2_kept s less = front (l.fat2 + s) (omega (arith, sh.root_at, sh.start_at))

  pub free_kept : free_clusters l (fat1_of l x) ≡ free_clusters l (fat1_of l c)
  unfolding free_clusters
  free_kept = indices_same (free (fat1_of l x)) (free (fat1_of l c)) 2 l.clusters
      (λ k lo hi. ap (λ v. is_free v) (entry_same (fat1_of l c) (fat1_of l x) k (fat1_kept (k / 256) (omega (arith, sh.enough)))))

  pub grown_kept : (last n : ℕ)
      → write_fat l l.fat2 (grown l (fat1_of l x) last n) (fat2_of l x) ≡ write_fat l l.fat2 (grown l (fat1_of l c) last n) (fat2_of l c)
  grown_kept last n = write_both l (grown l (fat1_of l x) last n) (grown l (fat1_of l c) last n) (fat2_of l x) (fat2_of l c)
      (λ s j less b. grown_local l (fat1_of l x) (fat1_of l c) last n s j free_kept (ap (λ (b : Bytes). b j) (fat1_kept s less))) fat2_kept

  entries_kept : (ks : List ℕ) → Inside l ks → All (λ k. entry (fat1_of l x) k ≡ entry (fat1_of l c) k) ks
  entries_kept [] h = tt
  entries_kept (k ∷ ks) h =
      let less : k < l.clusters + 2 = h.0 in
      (entry_same (fat1_of l c) (fat1_of l x) k (fat1_kept (k / 256) (omega (arith, sh.enough))), entries_kept ks h.1)

  -- Clusters that are freed, and the FAT in which new ones take their place.
  module _ (old m : ℕ) (h : Inside l (chain (entry (fat1_of l c)) m old)) where
    pub chain_kept : chain (entry (fat1_of l x)) m old ≡ chain (entry (fat1_of l c)) m old
    chain_kept = chain_same (entry (fat1_of l c)) (entry (fat1_of l x)) m old (entries_kept (chain (entry (fat1_of l c)) m old) h)

    pub exchange_kept : (n : ℕ)
        → write_fat l l.fat2 (exchanged l (fat1_of l x) n old m) (fat2_of l x) ≡ write_fat l l.fat2 (exchanged l (fat1_of l c) n old m) (fat2_of l c)
    unfolding exchange
    exchange_kept n = write_both l (exchanged l (fat1_of l x) n old m) (exchanged l (fat1_of l c) n old m) (fat2_of l x) (fat2_of l c)
        (λ s j less b.
        rw (chain_kept, free_kept) (release_local (chain (entry (fat1_of l c)) m old) (link (take n (free_clusters l (fat1_of l c))) (fat1_of l x))
        (link (take n (free_clusters l (fat1_of l c))) (fat1_of l c)) s j
        (link_local (take n (free_clusters l (fat1_of l c))) (fat1_of l x) (fat1_of l c) s j (ap (λ (b : Bytes). b j) (fat1_kept s less)))))
        fat2_kept
