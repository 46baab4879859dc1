-- The FATs of a truncate and of a delete are those that `shorten_fat` writes.
use Prim.Native.Nat.{ℕ, zero, suc, ◌+◌, ◌-◌, ◌<◌, ◌≤◌}
use native.Mathlib.Omega.{arith}
use mathlib.Core.Path.{◌≡◌, refl, ap, ◌∙◌}
use mathlib.Core.Bool.{true}
use mathlib.Core.List.{List, [], ◌∷◌}
use lib.ListN.{get_or, take, drop}
use borrow.Author.Tests.{ne_eqb}
use Rattle.model.specs.Fat.{Fat, entry, link, release}
use Rattle.model.specs.Chain.{chain, needed, keeps_chain}
use Rattle.model.specs.Promises.{Shape}
use Rattle.model.specs.declared.Layout.{Layout}
use Rattle.model.proofs.All.{All}
use Rattle.model.proofs.Chains.{Used, chain_used}
use Rattle.model.proofs.Walks.{chain_drop}
use Rattle.operations.specs.Plan.{shorten, last_cluster}
use Rattle.operations.proofs.Lasts.{last_list}
use Rattle.fat_release.specs.Release.{cut, Inside}

pub shorten_cut : (kept : List ℕ) → All (λ k. k ≡ 0 → ⊥) kept → (t : Fat) (first m : ℕ)
    → shorten kept (chain (entry t) m first) t ≡ cut t (last_cluster kept) first m
unfolding shorten cut chain
shorten_cut kept used t first zero = refl
shorten_cut kept used t first (suc m) = rw (ne_eqb (suc m) 0 (λ e. omega arith), last_list kept used)

pub release_cut : (t : Fat) (first m : ℕ) → release (chain (entry t) m first) t ≡ cut t 0 first m
unfolding release cut chain link
release_cut t first zero = refl
release_cut t first (suc m) = rw (ne_eqb (suc m) 0 (λ e. omega arith))

-- Of m clusters the first n are kept.
pub truncate_cut : (t : Fat) (m n k : ℕ) → n ≤ m → let ks = chain (entry t) m k in
    All (λ j. j ≡ 0 → ⊥) (take n ks) → shorten (take n ks) (drop n ks) t ≡ cut t (last_cluster (take n ks)) (get_or ks n 0) (m - n)
truncate_cut t m n k h used =
    let ks = chain (entry t) m k in
    ap (λ (x : List ℕ). shorten (take n ks) x t) (chain_drop (entry t) m k n h) ∙ shorten_cut (take n ks) used t (get_or ks n 0) (m - n)

-- Clusters in use lie within range, and so do some of them.
pub used_inside : (l : Layout) (e : ℕ → ℕ) (ks : List ℕ) → All (Used l e) ks → Inside l ks
used_inside l e [] h = tt
used_inside l e (k ∷ ks) h = (let less : k < 2 + l.clusters = h.0.high in omega arith, used_inside l e ks h.1)

-- All clusters of a file that keeps the chain rule do.
pub whole_inside : (l : Layout) → Shape l → (e : ℕ → ℕ) (first size : ℕ) → keeps_chain l e first size ≡ true → Inside l (chain e (needed l size) first)
whole_inside l sh e first size h = used_inside l e (chain e (needed l size) first) (chain_used l sh.few e sh.factor_low first size h)

pub inside_drop : (l : Layout) (n : ℕ) (ks : List ℕ) → Inside l ks → Inside l (drop n ks)
inside_drop l zero ks h = h
inside_drop l (suc n) [] h = tt
inside_drop l (suc n) (k ∷ ks) h = inside_drop l n ks h.1
