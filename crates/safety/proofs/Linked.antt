-- Laws of chains as lists of clusters: each leads to the next and the last ends. What linking and releasing make of them.
use Prim.Native.Nat.{ℕ, zero, suc, ◌-◌, ◌<◌}
use native.Mathlib.Omega.{arith}
use mathlib.Core.Path.{◌≡◌, refl, sym, ap, ◌∙◌, subst}
use mathlib.Core.Logic.{◌⊎◌, inl, inr}
use mathlib.Core.List.{List, [], ◌∷◌, ◌++◌, append-nil}
use mathlib.Core.Bool.{true}
use lib.ListN.{length, get_or, take, drop, length-append, length-take, take-append-drop}
use lib.Seq.{drop-append-le}
use borrow.Author.Tests.{ne_eqb, eq-eqb}
use Rattle.model.specs.Scan.{between}
use Rattle.model.specs.Fat.{Fat, entry, set_entry, link, release, in_range, is_end}
use Rattle.model.specs.Chain.{chain, ends_after, keeps_chain, needed}
use Rattle.model.specs.declared.Layout.{Layout}
use Rattle.model.proofs.Walks.{chain_length}
use Rattle.operations.specs.Plan.{last_of, extend, shorten, exchange}
use Rattle.model.proofs.Tests.{clash, both, same?}
use Rattle.model.proofs.All.{All, all_append, all_drop, all_take, all_map}
use Rattle.model.proofs.Indices.{Distinct, distinct_take}
use Rattle.model.proofs.Fats.{set_entry_same, set_entry_other}

-- What follows of each of a list from two things that hold of all.
pub all_zip : (P Q R : ℕ → Type 0) → ((k : ℕ) → P k → Q k → R k) → (ks : List ℕ) → All P ks → All Q ks → All R ks
all_zip P Q R f [] a b = tt
all_zip P Q R f (k ∷ ks) a b = (f k a.0 b.0, all_zip P Q R f ks a.1 b.1)

-- Along the values e of a FAT's entries each cluster of the list, all in range, leads to the next; the last holds an end value.
abbrev pub Linked : Layout → (ℕ → ℕ) → List ℕ → Type 0
Linked l e [] = ⊥
Linked l e (k ∷ []) = (in_range l k ≡ true) × (is_end (e k) ≡ true)
Linked l e (k ∷ (j ∷ r)) = (in_range l k ≡ true) × ((e k ≡ j) × Linked l e (j ∷ r))

-- Each of the first m clusters leads to the next.
abbrev pub Leads : (ℕ → ℕ) → ℕ → List ℕ → Type 0
Leads e zero ks = Unit {0}
Leads e (suc m) [] = ⊥
Leads e (suc m) (k ∷ ks) = (e k ≡ get_or ks 0 0) × Leads e m ks

-- j is none of the list.
abbrev pub Off : List ℕ → ℕ → Type 0
Off ks j = All (λ k. j ≡ k → ⊥) ks

-- A cluster that an entry can lead to.
abbrev pub Ranged : Layout → ℕ → Type 0
Ranged l k = (in_range l k ≡ true) × (k < 65536)

module _ (l : Layout) (e : ℕ → ℕ) where
  -- The chain rule in these words.
  ends_linked : (n k : ℕ) → ends_after l e n k ≡ true → Linked l e (chain e n k)
  unfolding ends_after chain
  ends_linked zero k h = clash h refl
  ends_linked (suc zero) k h = both (in_range l k) (is_end (e k)) h
  ends_linked (suc (suc n)) k h = let b = both (in_range l k) (ends_after l e (suc n) (e k)) h in (b.0, (refl, ends_linked (suc n) (e k) b.1))

  linked_ends : (k : ℕ) (ks : List ℕ) → Linked l e (k ∷ ks) → (ends_after l e (suc (length ks)) k ≡ true) × (chain e (suc (length ks)) k ≡ k ∷ ks)
  unfolding ends_after chain
  linked_ends k [] h = (rw (h.0, h.1), refl)
  linked_ends k (j ∷ r) h = let i = linked_ends j r h.1.1 in (rw (h.0, h.1.0) i.0, ap (λ (t : List ℕ). k ∷ t) (rw h.1.0 i.1))

  pub keeps_linked : (k size : ℕ) → keeps_chain l e k size ≡ true → (size ≡ 0 → ⊥) → Linked l e (chain e (needed l size) k)
  unfolding keeps_chain
  keeps_linked k size h ne = ends_linked (needed l size) k (rw (ne_eqb size 0 ne) at h)

  pub linked_keeps : (k size : ℕ) (ks : List ℕ) → Linked l e ks → get_or ks 0 0 ≡ k → length ks ≡ needed l size → (size ≡ 0 → ⊥)
      → (keeps_chain l e k size ≡ true) × (chain e (needed l size) k ≡ ks)
  unfolding keeps_chain
  linked_keeps k size [] h a n ne = absurd h
  linked_keeps k size (j ∷ ks) h a n ne = let i = linked_ends j ks h in rw (← a, ne_eqb size 0 ne, ← n) i

-- Entries that agree along the list.
pub linked_same : (l : Layout) (e f : ℕ → ℕ) (ks : List ℕ) → All (λ j. f j ≡ e j) ks → Linked l e ks → Linked l f ks
linked_same l e f [] a h = h
linked_same l e f (k ∷ []) a h = (h.0, ap (λ v. is_end v) a.0 ∙ h.1)
linked_same l e f (k ∷ (j ∷ r)) a h = (h.0, (a.0 ∙ h.1.0, linked_same l e f (j ∷ r) a.1 h.1.1))

empty_same : (l : Layout) (e f : ℕ → ℕ) (k size : ℕ) → size ≡ 0 → keeps_chain l e k size ≡ true → keeps_chain l f k size ≡ true
unfolding keeps_chain
empty_same l e f k size z h = rw (eq-eqb size 0 z) (rw (eq-eqb size 0 z) at h)

pub chain_head : (l : Layout) (e : ℕ → ℕ) (n k : ℕ) → Linked l e (chain e n k) → get_or (chain e n k) 0 0 ≡ k
unfolding chain
chain_head l e zero k h = absurd h
chain_head l e (suc n) k h = refl

-- A file that keeps the chain rule keeps it along entries that agree on its chain.
pub keeps_same : (l : Layout) (e f : ℕ → ℕ) (k size : ℕ) → All (λ j. f j ≡ e j) (chain e (needed l size) k) → keeps_chain l e k size ≡ true
    → keeps_chain l f k size ≡ true
keeps_same l e f k size a h = go (same? size 0)
  where
    go : (size ≡ 0) ⊎ (size ≡ 0 → ⊥) → keeps_chain l f k size ≡ true
    go (inl z) = empty_same l e f k size z h
    go (inr ne) =
        let there : Linked l e (chain e (needed l size) k) = keeps_linked l e k size h ne in
        (linked_keeps l f k size (chain e (needed l size) k) (linked_same l e f (chain e (needed l size) k) a there)
        (chain_head l e (needed l size) k there) (chain_length e (needed l size) k) ne).0

-- ---- changed FATs

pub link_other : (ks : List ℕ) (f : Fat) (j : ℕ) → Off ks j → entry (link ks f) j ≡ entry f j
unfolding link
link_other [] f j a = refl
link_other (k ∷ []) f j a = set_entry_other k 0xFFFF j f a.0
link_other (k ∷ (m ∷ ks)) f j a = link_other (m ∷ ks) (set_entry k m f) j a.1 ∙ set_entry_other k m j f a.0

pub release_other : (ks : List ℕ) (f : Fat) (j : ℕ) → Off ks j → entry (release ks f) j ≡ entry f j
unfolding release
release_other [] f j a = refl
release_other (k ∷ ks) f j a = release_other ks (set_entry k 0 f) j a.1 ∙ set_entry_other k 0 j f a.0

pub extend_other : (old new : List ℕ) (f : Fat) (j : ℕ) → Off old j → Off new j → entry (extend old new f) j ≡ entry f j
unfolding extend
extend_other old [] f j a b = refl
extend_other old (k ∷ ks) f j a b = link_other (last_of old ++ (k ∷ ks)) f j
    (all_append (λ k. j ≡ k → ⊥) (last_of old) (k ∷ ks) (all_drop (λ k. j ≡ k → ⊥) (length old - 1) old a) b)

pub exchange_other : (old new : List ℕ) (f : Fat) (j : ℕ) → Off old j → Off new j → entry (exchange old new f) j ≡ entry f j
unfolding exchange
exchange_other old new f j a b = release_other old (link new f) j a ∙ link_other new f j b

pub shorten_other : (kept freed : List ℕ) (f : Fat) (j : ℕ) → Off kept j → Off freed j → entry (shorten kept freed f) j ≡ entry f j
unfolding shorten exchange
shorten_other kept [] f j a b = refl
shorten_other kept (k ∷ ks) f j a b = exchange_other (k ∷ ks) (last_of kept) f j b (all_drop (λ k. j ≡ k → ⊥) (length kept - 1) kept a)

-- ---- the chains that they hold

-- The first part of distinct numbers has none of the rest.
pub distinct_parts : (xs ys : List ℕ) → Distinct (xs ++ ys) → All (Off ys) xs
distinct_parts [] ys d = tt
distinct_parts (x ∷ xs) ys d = (all_right xs ys d.0, distinct_parts xs ys d.1)
  where
    all_right : (xs ys : List ℕ) → Off (xs ++ ys) x → Off ys x
    all_right [] ys a = a
    all_right (z ∷ xs) ys a = all_right xs ys a.1

module _ (l : Layout) where
  link_linked : (k : ℕ) (ks : List ℕ) (f : Fat) → Distinct (k ∷ ks) → All (Ranged l) (k ∷ ks) → Linked l (entry (link (k ∷ ks) f)) (k ∷ ks)
  unfolding link is_end between
  link_linked k [] f d a = (a.0.0, ap (λ v. is_end v) (set_entry_same k 0xFFFF f (omega arith)))
  link_linked k (j ∷ r) f d a =
      (a.0.0, (link_other (j ∷ r) (set_entry k j f) k d.0 ∙ set_entry_same k j f a.1.0.1, link_linked j r (set_entry k j f) d.1 a.1))

  -- A chain stays when clusters are released that it has none of.
  release_linked : (old ks : List ℕ) (f : Fat) → All (Off old) ks → Linked l (entry f) ks → Linked l (entry (release old f)) ks
  release_linked old ks f off h = linked_same l (entry f) (entry (release old f)) ks
      (all_map (Off old) (λ j. entry (release old f) j ≡ entry f j) (release_other old f) ks off) h

  -- From cluster m on linked anew.
  relinked : (m : ℕ) (ks : List ℕ) (f : Fat) → m < length ks → Distinct ks → All (Ranged l) ks → Leads (entry f) m ks
      → Linked l (entry (link (drop m ks) f)) ks
  relinked zero [] f less d a h = absurd (omega arith)
  relinked zero (k ∷ ks) f less d a h = link_linked k ks f d a
  relinked (suc m) [] f less d a h = absurd h
  relinked (suc m) (k ∷ []) f less d a h = absurd (omega arith)
  relinked (suc m) (k ∷ (j ∷ r)) f less d a h =
      (a.0.0, (link_other (drop m (j ∷ r)) f k (all_drop (λ i. k ≡ i → ⊥) m (j ∷ r) d.0) ∙ h.0, relinked m (j ∷ r) f (omega arith) d.1 a.1 h.1))

  leads_more : (e : ℕ → ℕ) (ks js : List ℕ) (m : ℕ) → Linked l e ks → m < length ks → Leads e m (ks ++ js)
  leads_more e ks js zero h less = tt
  leads_more e [] js (suc m) h less = elim h [ ]
  leads_more e (k ∷ []) js (suc m) h less = absurd (omega arith)
  leads_more e (k ∷ (j ∷ r)) js (suc m) h less = (h.1.0, leads_more e (j ∷ r) js m h.1.1 (omega arith))

  leads_take : (e : ℕ → ℕ) (ks : List ℕ) (n m : ℕ) → Linked l e ks → m < length (take n ks) → Leads e m (take n ks)
  leads_take e ks n zero h less = tt
  leads_take e ks zero (suc m) h less = absurd (omega arith)
  leads_take e [] (suc _) (suc m) h less = elim h [ ]
  leads_take e (k ∷ []) (suc zero) (suc m) h less = absurd (omega arith)
  leads_take e (k ∷ []) (suc (suc n)) (suc m) h less = absurd (omega arith)
  leads_take e (k ∷ (j ∷ r)) (suc zero) (suc m) h less = absurd (omega arith)
  leads_take e (k ∷ (j ∷ r)) (suc (suc n)) (suc m) h less = (h.1.0, leads_take e (j ∷ r) (suc n) m h.1.1 (omega arith))

  -- New clusters linked after the old last.
  pub extend_linked : (old new : List ℕ) (f : Fat) → Distinct (old ++ new) → All (Ranged l) (old ++ new) → (0 < length old → Linked l (entry f) old)
      → 0 < length (old ++ new)
      → Linked l (entry (extend old new f)) (old ++ new)
  unfolding extend
  extend_linked [] [] f d a h some = absurd (omega arith)
  extend_linked [] (k ∷ ks) f d a h some = link_linked k ks f d a
  extend_linked (j ∷ r) [] f d a h some = subst (Linked l (entry f)) (sym (append-nil (j ∷ r))) (h (omega arith))
  extend_linked (j ∷ r) (k ∷ ks) f d a h some =
      let m : ℕ = length (j ∷ r) - 1 in
      subst (λ (xs : List ℕ). Linked l (entry (link xs f)) ((j ∷ r) ++ (k ∷ ks))) (drop-append-le m (j ∷ r) (k ∷ ks) (omega arith))
      (relinked m ((j ∷ r) ++ (k ∷ ks)) f (longer m (j ∷ r) (k ∷ ks) (omega arith)) d a
      (leads_more (entry f) (j ∷ r) (k ∷ ks) m (h (omega arith)) (omega arith)))
    where
      longer : (m : ℕ) (xs ys : List ℕ) → m < length xs → m < length (xs ++ ys)
      longer m xs ys less = rw (length-append xs ys) (omega arith)

  -- Clusters released after the last one kept.
  pub shorten_linked : (ks : List ℕ) (n : ℕ) (f : Fat) → Distinct ks → All (Ranged l) ks → Linked l (entry f) ks → 0 < n
      → Linked l (entry (shorten (take n ks) (drop n ks) f)) (take n ks)
  unfolding shorten
  shorten_linked ks n f d a h pos = go (drop n ks) refl
    where
      kept : List ℕ
      kept = take n ks

      some : (ks : List ℕ) → Linked l (entry f) ks → 0 < length ks
      some [] g = elim g [ ]
      some (k ∷ []) g = omega arith
      some (k ∷ (j ∷ r)) g = omega arith

      go : (freed : List ℕ) → drop n ks ≡ freed → Linked l (entry (shorten kept freed f)) kept
      go [] e = rw (let whole : take n ks ≡ ks = sym (append-nil (take n ks)) ∙ ap (λ (xs : List ℕ). take n ks ++ xs) (sym e)
          ∙ take-append-drop n ks in whole) h
      go (k ∷ r) e =
          let one : 0 < length kept = rw (length-take n ks) (omega (arith, some ks h)) in
          let m : ℕ = length kept - 1 in
          let cut : Linked l (entry (link (last_of kept) f)) kept =
          relinked m kept f (omega arith) (distinct_take n ks d) (all_take (Ranged l) n ks a) (leads_take (entry f) ks n m h (omega arith)) in
          release_linked (k ∷ r) kept (link (last_of kept) f)
          (subst (λ (xs : List ℕ). All (Off xs) kept) e (distinct_parts kept (drop n ks) (rw (take-append-drop n ks) d))) cut

  -- New clusters linked among themselves, old ones released.
  pub exchange_linked : (old new : List ℕ) (f : Fat) → Distinct new → All (Ranged l) new → All (Off old) new → 0 < length new
      → Linked l (entry (exchange old new f)) new
  unfolding exchange
  exchange_linked old [] f d a off some = absurd (omega arith)
  exchange_linked old (k ∷ ks) f d a off some = release_linked old (k ∷ ks) (link (k ∷ ks) f) off (link_linked k ks f d a)
