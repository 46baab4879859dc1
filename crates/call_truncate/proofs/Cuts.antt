-- Where the chain of a file is cut, and the FATs that truncate and delete make.
use Prim.Native.Nat.{ℕ, ◌+◌, ◌-◌, ◌<◌, ◌≤◌}
use native.Mathlib.Omega.{arith}
use mathlib.Core.Path.{◌≡◌, refl, sym, ap, ◌∙◌, subst}
use mathlib.Core.Bool.{true}
use mathlib.Core.List.{List, []}
use lib.ListN.{length, get_or, take, drop}
use lib.Seq.{get_or-take, length-take-le}
use Rattle.model.specs.Sector.{Card}
use Rattle.model.specs.Fat.{Fat, entry}
use Rattle.model.specs.Chain.{chain, needed, keeps_chain}
use Rattle.model.specs.Promises.{Fits}
use Rattle.model.specs.declared.File.{File}
use Rattle.model.specs.declared.Layout.{Layout}
use Rattle.model.specs.Record.{plain}
use Rattle.model.specs.declared.Operation.TheVariants.{Delete, Truncate}
use Rattle.model.specs.declared.Volume.{Volume}
use Rattle.model.proofs.All.{All, all_map, all_take}
use Rattle.model.proofs.Chains.{Used, chain_used}
use Rattle.model.proofs.Needed.{needed_mono}
use Rattle.model.proofs.Walks.{chain_length, chain_here, chain_drop}
use Rattle.operations.specs.Plan.{clusters_of, old_fat, last_cluster, operate, shorten, truncate_along, truncate_stores, long_entries, delete_stores}
use Rattle.fat_chain.specs.Links.{links}
use Rattle.fat_chain.proofs.Links.{links_none, links_more}
use Rattle.file_read.proofs.Laws.{chain_at, link_inside}
use Rattle.fat_release.specs.Release.{cut, Inside}
use Rattle.fat_release.proofs.Shortens.{release_cut, truncate_cut, whole_inside, inside_drop}
use Rattle.call_truncate.specs.declared.Tail.{Tail}
use Rattle.call_truncate.specs.Parts.{Parts}

module _ (l : Layout) (fits : Fits l) (t : Fat) (f : File) (h : keeps_chain l (entry t) f.first f.size ≡ true) where
  abbrev ks : List ℕ
  ks = chain (entry t) (needed l f.size) f.first

  used : All (Used l (entry t)) ks
  used = chain_used l fits.shape.few (entry t) fits.shape.factor_low f.first f.size h

  -- All clusters of a file lie on the card.
  pub all_inside : Inside l ks
  all_inside = whole_inside l fits.shape (entry t) f.first f.size h

  pub first_low : 0 < needed l f.size → f.first < 65536
  first_low pos =
      let i = link_inside l fits (entry t) f.first f.size h 0 pos in
      omega (arith, i, links_none (entry t) f.first, fits.shape.few)

  -- The clusters that a smaller size needs are kept, and the others, if there are any, freed.
  module _ (size m n : ℕ) (le : size ≤ f.size) (all : m ≡ needed l f.size) (few : n ≡ needed l size) where
    fewer : n ≤ m
    fewer = omega (arith, needed_mono l fits.shape.factor_low size f.size le)

    abbrev ms : List ℕ
    ms = chain (entry t) m f.first

    kept_used : All (λ k. k ≡ 0 → ⊥) (take n ms)
    kept_used = all_take (λ k. k ≡ 0 → ⊥) n ms (all_map (Used l (entry t)) (λ k. k ≡ 0 → ⊥) (λ k u e. let low : 2 ≤ k = u.low in omega arith) ms (rw all used))

    cut_is : shorten (take n ms) (drop n ms) t ≡ cut t (last_cluster (take n ms)) (get_or ms n 0) (m - n)
    cut_is = truncate_cut t m n f.first fewer kept_used

    rest_is : drop n ms ≡ chain (entry t) (m - n) (get_or ms n 0)
    rest_is = chain_drop (entry t) m f.first n fewer

    rest_inside : Inside l (chain (entry t) (m - n) (get_or ms n 0))
    rest_inside = subst (Inside l) rest_is (inside_drop l n ms (rw all all_inside))

    -- None is freed.
    pub parts_none : n ≡ m → Parts l t f size (record { kept = 0; from = 0; freed = 0 })
    unfolding clusters_of chain cut
    parts_none e =
        let z : m - n ≡ 0 = omega arith in
        record {
          fat = rw (← all, ← few) (rw z at cut_is);
          from = rw (← all, ← few) (sym (ap (λ (xs : List ℕ). get_or xs 0 0) (rw z at rest_is)));
          inside = tt;
        }

    parts_of : (kept from : ℕ) → kept ≡ last_cluster (take n ms) → from ≡ get_or ms n 0 → n < m
        → Parts l t f size (record { kept = kept; from = from; freed = m - n })
    unfolding clusters_of
    parts_of kept from a b less = record {
      fat = rw (← all, ← few, a, b) cut_is;
      from = rw (← all, ← few) (b ∙ sym (ap (λ (xs : List ℕ). get_or xs 0 0) rest_is ∙ chain_here (entry t) (m - n) (get_or ms n 0) (omega arith)));
      inside = rw b rest_inside;
    }

    -- All are.
    pub parts_all : n ≡ 0 → (n ≡ m → ⊥) → Parts l t f size (record { kept = 0; from = f.first; freed = m })
    parts_all e ne =
        let z : m - n ≡ m = omega arith in
        rw z at (parts_of 0 f.first (rw e refl) (rw e (sym (chain_here (entry t) m f.first (omega (arith, fewer))))) (omega (arith, fewer)))

    -- Some are, the first of which is the one that the last kept holds.
    pub parts_some : (n ≡ 0 → ⊥) → (n ≡ m → ⊥) → (kept from : ℕ) → kept ≡ links (entry t) (n - 1) f.first → from ≡ entry t kept
        → Parts l t f size (record { kept = kept; from = from; freed = m - n })
    parts_some pos ne kept from a b =
        let z : n - 1 + 1 ≡ n = omega arith in
        let less : n < m = omega (arith, fewer) in
        let long : length (take n ms) ≡ n = length-take-le n ms (omega (arith, chain_length (entry t) m f.first)) in
        parts_of kept from
        (a ∙ sym (chain_at (entry t) m f.first (n - 1) (omega arith)) ∙ sym (get_or-take n ms (n - 1) 0 (omega arith))
        ∙ ap (λ (j : ℕ). get_or (take n ms) (j - 1) 0) (sym long))
        (b ∙ ap (entry t) a ∙ sym (links_more (entry t) (n - 1) f.first) ∙ ap (λ (j : ℕ). links (entry t) j f.first) z
        ∙ sym (chain_at (entry t) m f.first n less))
        less

-- A delete frees them all.
pub delete_is : (v : Volume) (c : Card) (f : File)
    → delete_stores v c f
    ≡ operate v c [] (cut (old_fat v c) 0 f.first (needed v.layout f.size)) (plain (Delete f.entry (long_entries v c f) f.first f.size))
unfolding delete_stores clusters_of
delete_is v c f = rw (release_cut (old_fat v c) f.first (needed v.layout f.size))

pub truncate_is : (v : Volume) (c : Card) (f : File) (size st : ℕ) (r : Tail) → Parts v.layout (old_fat v c) f size r
    → truncate_stores v c f size st
    ≡ operate v c [] (cut (old_fat v c) r.kept r.from r.freed) (plain (Truncate f.entry f.first r.from size st))
unfolding truncate_stores truncate_along
truncate_is v c f size st r h = rw (h.fat, ← h.from)
