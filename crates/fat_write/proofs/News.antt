-- Laws of new clusters: the rest of them after the first, and what linking them makes of a FAT.
use Prim.Native.Nat.{ℕ, zero, suc, ◌+◌, ◌-◌, ◌*◌, ◌/◌, ◌<◌, ◌≤◌}
use native.Mathlib.Omega.{arith}
use mathlib.Core.Path.{◌≡◌, refl, ap, ◌∙◌, fun_ext}
use mathlib.Core.Logic.{⊎_elim}
use mathlib.Core.Bool.{Bool, true}
use mathlib.Core.List.{List, [], ◌∷◌}
use lib.ListN.{length, take}
use borrow.Author.Tests.{ne_eqb, eq-eqb}
use Rattle.model.specs.Bytes.{Bytes}
use Rattle.model.specs.Scan.{indices_from, first_from}
use Rattle.model.specs.Fat.{Fat, set_entry, end_value, link}
use Rattle.model.specs.declared.Layout.{Layout}
use Rattle.model.proofs.Tests.{less?}
use Rattle.model.proofs.All.{All, all_take, all_map}
use Rattle.model.proofs.Scan.{first_has, first_ge, indices_none}
use Rattle.model.proofs.Indices.{indices_all}
use Rattle.model.proofs.Entries.{link_local}
use Rattle.model.proofs.Searches.{indices_here, indices_first}
use Rattle.fat_read.specs.Located.{holds}
use Rattle.fat_write.specs.Allocate.{free_from, news, following, NextNew, Above}

module _ (l : Layout) (t : Fat) where
  -- ---- the free clusters from k on

  abbrev free : ℕ → Bool
  free k = holds 0 t k

  abbrev after_it : ℕ → ℕ
  after_it k = first_from free (k + 1) (l.clusters + 1 - k)

  free_here : (k : ℕ) → k < l.clusters + 2 → free k ≡ true → free_from l t k ≡ k ∷ free_from l t (k + 1)
  unfolding free_from
  free_here k h e =
      let f : l.clusters + 2 - k - 1 ≡ l.clusters + 2 - (k + 1) = omega arith in
      indices_here free k (l.clusters + 2 - k) (omega arith) e ∙ ap (λ (z : ℕ). k ∷ indices_from free (k + 1) z) f

  free_next : (k : ℕ) → k < l.clusters + 2 → free_from l t (k + 1) ≡ free_from l t (after_it k)
  unfolding free_from
  free_next k h =
      let e : l.clusters + 2 - (k + 1) ≡ l.clusters + 1 - k = omega arith in
      let f : k + 1 + (l.clusters + 1 - k) - after_it k ≡ l.clusters + 2 - after_it k = omega arith in
      ap (indices_from free (k + 1)) e ∙ indices_first free (k + 1) (l.clusters + 1 - k) ∙ ap (indices_from free (after_it k)) f

  pub free_end : (k : ℕ) → l.clusters + 2 ≤ k → free_from l t k ≡ []
  unfolding free_from
  free_end k h = let f : l.clusters + 2 - k ≡ 0 = omega arith in rw (f, indices_none free k)

  news_above : (k n : ℕ) → All (λ j. k ≤ j) (news l t k n)
  unfolding news free_from
  news_above k n = all_take (λ j. k ≤ j) n (free_from l t k) (indices_all (λ j. k ≤ j) free k (l.clusters + 2 - k) (λ j lo hi e. lo))

  news_none : (k : ℕ) → news l t k 0 ≡ []
  unfolding news
  news_none k = refl

  pub news_head : (k n : ℕ) → 0 < n → k < l.clusters + 2 → free k ≡ true → news l t k n ≡ k ∷ take (n - 1) (free_from l t (k + 1))
  unfolding news
  news_head k zero pos h e = absurd (omega arith)
  news_head k (suc n) pos h e = let f : suc n - 1 ≡ n = omega arith in rw (f, free_here k h e)

  pub no_new : NextNew l t 0 0
  no_new = record { enough = omega arith; inside = λ h. absurd (omega arith); free = λ h. absurd (omega arith) }

  -- None of them lies in sector s, if the first lies after it.
  pub news_away : (s k n : ℕ) → Above (s + 1) k n → All (λ i. s ≡ i / 256 → ⊥) (news l t k n)
  news_away s k zero up = rw (news_none k) tt
  news_away s k (suc n) up =
      let low : 256 * (s + 1) ≤ k = up (omega arith) in
      all_map (λ i. k ≤ i) (λ i. s ≡ i / 256 → ⊥) (λ i h q. omega arith) (news l t k (suc n)) (news_above k (suc n))

  -- ---- the new cluster after the first

  pub following_end : (k n : ℕ) → n ≡ 1 → following l t k n ≡ end_value
  unfolding following
  following_end k n e = rw (eq-eqb n 1 e)

  pub following_next : (k n : ℕ) → (n ≡ 1 → ⊥) → following l t k n ≡ after_it k
  unfolding following
  following_next k n e = rw (ne_eqb n 1 e)

  module _ (k n : ℕ) (cur : NextNew l t k (suc n)) where
    rest : free_from l t k ≡ k ∷ free_from l t (after_it k)
    rest =
        let h : k < l.clusters + 2 = cur.inside (omega arith) in
        free_here k h (cur.free (omega arith)) ∙ ap (λ (x : List ℕ). k ∷ x) (free_next k h)

    many : n ≤ length (free_from l t (after_it k))
    many = let e : suc n ≤ length (free_from l t k) = cur.enough in let f : length (free_from l t k) ≡ suc (length (free_from l t (after_it k))) = ap
        length rest in omega arith

    next_inside : 0 < n → after_it k < l.clusters + 2
    next_inside pos = ⊎_elim (λ h. h) (λ h. absurd (let e : length (free_from l t (after_it k)) ≡ 0 = ap length (free_end (after_it k) h) in omega
        (arith, many))) (less? (after_it k) (l.clusters + 2))

    next_free : 0 < n → free (after_it k) ≡ true
    next_free pos = let h : k < l.clusters + 2 = cur.inside (omega arith) in first_has free (k + 1) (l.clusters + 1 - k) (omega (arith, next_inside pos))

    next_above : k < after_it k
    next_above = let h : k + 1 ≤ after_it k = first_ge free (k + 1) (l.clusters + 1 - k) in omega arith

  -- What is left after the first of n new clusters; linking n is setting the first's entry and linking the rest.
  pub new_after : (k n : ℕ) → 0 < n → NextNew l t k n → NextNew l t (following l t k n) (n - 1)
  new_after k zero pos cur = absurd (omega arith)
  new_after k (suc zero) pos cur = record { enough = omega arith; inside = λ h. absurd (omega arith); free = λ h. absurd (omega arith) }
  new_after k (suc (suc n)) pos cur =
      let f : suc (suc n) - 1 ≡ suc n = omega arith in
      rw (f, following_next k (suc (suc n)) (λ e. omega arith))
      (record { enough = many k (suc n) cur; inside = next_inside k (suc n) cur; free = next_free k (suc n) cur })

  pub next_later : (k n : ℕ) → 0 < n - 1 → NextNew l t k n → k < following l t k n
  next_later k zero pos cur = absurd (omega arith)
  next_later k (suc n) pos cur = rw (following_next k (suc n) (λ e. omega arith)) (next_above k n cur)

  pub link_news : (k n : ℕ) → 0 < n → NextNew l t k n → (f : Fat)
      → link (news l t k n) f ≡ link (news l t (following l t k n) (n - 1)) (set_entry k (following l t k n) f)
  unfolding news link
  link_news k zero pos cur f = absurd (omega arith)
  link_news k (suc zero) pos cur f = rw (following_end k 1 refl, rest k 0 cur)
  link_news k (suc (suc n)) pos cur f =
      let r = after_it k in
      let e : free_from l t r ≡ r ∷ free_from l t (r + 1) = free_here r (next_inside k (suc n) cur (omega arith)) (next_free k (suc n) cur (omega arith)) in
      let z : suc (suc n) - 1 ≡ suc n = omega arith in
      rw (following_next k (suc (suc n)) (λ e. omega arith), rest k (suc n) cur, z, e)

-- Sector s of a FAT depends on the same sector before.
pub link_sector : (ks : List ℕ) (f g : Fat) (s : ℕ) → f s ≡ g s → link ks f s ≡ link ks g s
link_sector ks f g s e = fun_ext (λ j. link_local ks f g s j (ap (λ (b : Bytes). b j) e))
