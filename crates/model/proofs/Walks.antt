-- Laws of chains: how they go on, that their clusters are in range and distinct, and so no more than the card has.
use Prim.Native.Nat.{ℕ, zero, suc, ◌+◌, ◌-◌, ◌≤◌, ◌<◌}
use native.Mathlib.Omega.{arith}
use mathlib.Core.Path.{◌≡◌, refl, ap}
use mathlib.Core.Bool.{Bool, true, false}
use lib.ListN.{length, get_or, drop}
use Rattle.model.specs.Bytes.{pick}
use Rattle.model.specs.Fat.{in_range, is_end}
use Rattle.model.specs.Chain.{chain, ends_after}
use Rattle.model.specs.declared.Layout.{Layout}
use Rattle.model.proofs.Tests.{clash, both, between_true}
use Rattle.model.proofs.All.{All, all_map}
use Rattle.model.proofs.Indices.{Distinct, pigeon}

-- ---- how a chain goes on

module _ (e : ℕ → ℕ) where
  pub chain_length : (n k : ℕ) → length (chain e n k) ≡ n
  unfolding chain
  chain_length zero k = refl
  chain_length (suc n) k = ap suc (chain_length n (e k))

  pub chain_here : (n k : ℕ) → 0 < n → get_or (chain e n k) 0 0 ≡ k
  unfolding chain
  chain_here zero k h = absurd (omega arith)
  chain_here (suc n) k h = refl

  -- From any of its clusters on, it is the chain of that cluster.
  pub chain_drop : (n k q : ℕ) → q ≤ n → drop q (chain e n k) ≡ chain e (n - q) (get_or (chain e n k) q 0)
  unfolding chain
  chain_drop zero k zero h = refl
  chain_drop zero k (suc q) h = absurd (omega arith)
  chain_drop (suc n) k zero h = let z : suc n - 0 ≡ suc n = omega arith in rw z refl
  chain_drop (suc n) k (suc q) h =
      let z : suc n - suc q ≡ n - q = omega arith in
      rw z (chain_drop n (e k) q (omega arith))

-- ---- chains that end

pub inside : (l : Layout) (k : ℕ) → in_range l k ≡ true → (2 ≤ k) × (k ≤ l.clusters + 1)
unfolding in_range
inside l k h = between_true 2 (l.clusters + 1) k h

module _ (l : Layout) (e : ℕ → ℕ) where
  pub ends_zero : (k : ℕ) → ends_after l e 0 k ≡ false
  unfolding ends_after
  ends_zero k = refl

  pub ends_one : (k : ℕ) → ends_after l e 1 k ≡ pick (in_range l k) (is_end (e k)) false
  unfolding ends_after
  ends_one k = refl

  pub ends_step : (n k : ℕ) → 1 < n → ends_after l e n k ≡ pick (in_range l k) (ends_after l e (n - 1) (e k)) false
  unfolding ends_after
  ends_step zero k h = absurd (omega arith)
  ends_step (suc zero) k h = absurd (omega arith)
  ends_step (suc (suc n)) k h = let z : suc (suc n) - 1 ≡ suc n = omega arith in rw z refl

  -- The first cluster of a chain that ends is in range, and the chain after it ends.
  pub ends_inside : (n k : ℕ) → ends_after l e n k ≡ true → in_range l k ≡ true
  unfolding ends_after
  ends_inside zero k h = clash h refl
  ends_inside (suc zero) k h = (both (in_range l k) (is_end (e k)) h).0
  ends_inside (suc (suc n)) k h = (both (in_range l k) (ends_after l e (suc n) (e k)) h).0

  pub ends_rest : (n k : ℕ) → ends_after l e (suc (suc n)) k ≡ true → ends_after l e (suc n) (e k) ≡ true
  unfolding ends_after
  ends_rest n k h = (both (in_range l k) (ends_after l e (suc n) (e k)) h).1

  pub ends_last : (k : ℕ) → ends_after l e 1 k ≡ true → is_end (e k) ≡ true
  unfolding ends_after
  ends_last k h = (both (in_range l k) (is_end (e k)) h).1

-- ---- the clusters of a chain that ends are distinct

module _ (l : Layout) (few : l.clusters ≤ 65524) (e : ℕ → ℕ) where
  -- A cluster in range is no end value.
  not_both : {A : Type 0} (n k : ℕ) → is_end k ≡ true → ends_after l e n k ≡ true → A
  unfolding is_end
  not_both n k h t =
      let a = between_true 0xFFF8 0xFFFF k h in
      let b = inside l k (ends_inside l e n k t) in
      absurd (omega arith)

  -- How far a cluster is from its chain's end is told by the cluster.
  pub ends_unique : (n m k : ℕ) → ends_after l e n k ≡ true → ends_after l e m k ≡ true → n ≡ m
  unfolding ends_after
  ends_unique zero m k h g = clash h refl
  ends_unique (suc n) zero k h g = clash g refl
  ends_unique (suc zero) (suc zero) k h g = refl
  ends_unique (suc zero) (suc (suc m)) k h g =
      not_both (suc m) (e k) (both (in_range l k) (is_end (e k)) h).1 (both (in_range l k) (ends_after l e (suc m) (e k)) g).1
  ends_unique (suc (suc n)) (suc zero) k h g =
      not_both (suc n) (e k) (both (in_range l k) (is_end (e k)) g).1 (both (in_range l k) (ends_after l e (suc n) (e k)) h).1
  ends_unique (suc (suc n)) (suc (suc m)) k h g =
      ap suc (ends_unique (suc n) (suc m) (e k) (both (in_range l k) (ends_after l e (suc n) (e k)) h).1
      (both (in_range l k) (ends_after l e (suc m) (e k)) g).1)

  nearer : (n k : ℕ) → ends_after l e n k ≡ true → (m : ℕ) → n ≤ m → All (λ j. (r : ℕ) × (r ≤ m) × (ends_after l e r j ≡ true)) (chain e n k)
  unfolding ends_after chain
  nearer zero k h m le = tt
  nearer (suc zero) k h m le = ((1, le, h), tt)
  nearer (suc (suc n)) k h m le = ((suc (suc n), le, h), nearer (suc n) (e k) (both (in_range l k) (ends_after l e (suc n) (e k)) h).1 m (omega arith))

  pub ends_range : (n k : ℕ) → ends_after l e n k ≡ true → All (λ j. (2 ≤ j) × (j < 2 + l.clusters)) (chain e n k)
  ends_range n k h =
      all_map (λ j. (r : ℕ) × (r ≤ n) × (ends_after l e r j ≡ true)) (λ j. (2 ≤ j) × (j < 2 + l.clusters))
      (λ j q. let s = inside l j (ends_inside l e q.0 j q.2) in (s.0, omega arith)) (chain e n k) (nearer n k h n (omega arith))

  pub distinct_chain : (n k : ℕ) → ends_after l e n k ≡ true → Distinct (chain e n k)
  unfolding ends_after chain
  distinct_chain zero k h = tt
  distinct_chain (suc zero) k h = (tt, tt)
  distinct_chain (suc (suc n)) k h =
      let rest : ends_after l e (suc n) (e k) ≡ true = (both (in_range l k) (ends_after l e (suc n) (e k)) h).1 in (
        all_map (λ j. (r : ℕ) × (r ≤ suc n) × (ends_after l e r j ≡ true)) (λ j. k ≡ j → ⊥)
            (λ j q same. let z : suc (suc n) ≡ q.0 = ends_unique (suc (suc n)) q.0 k h (rw (← same) at q.2) in let le : q.0 ≤ suc n = q.1 in
            omega arith)
            (chain e (suc n) (e k)) (nearer (suc n) (e k) rest (suc n) (omega arith)),
        distinct_chain (suc n) (e k) rest,
      )

  -- So they are no more than the card has.
  pub ends_few : (n k : ℕ) → ends_after l e n k ≡ true → n ≤ l.clusters
  ends_few n k h =
      let p = pigeon 2 l.clusters (chain e n k) (distinct_chain n k h) (ends_range n k h) in
      omega (arith, chain_length e n k)

  pub ends_many : (n k : ℕ) → l.clusters < n → ends_after l e n k ≡ false
  ends_many n k h = go (ends_after l e n k) refl
    where
      go : (b : Bool) → ends_after l e n k ≡ b → b ≡ false
      go true t = absurd (let f = ends_few n k t in omega arith)
      go false t = refl
