-- Laws of freed clusters: the marks that a walk along a chain makes, and what they make of a FAT.
use Prim.Native.Nat.{ℕ, zero, suc, ◌+◌, ◌-◌, ◌*◌, ◌/◌, ◌%◌, ◌^◌, ◌<◌, ◌≤◌}
use native.Mathlib.Omega.{arith}
use mathlib.Core.Path.{◌≡◌, refl, sym, ap, ◌∙◌}
use mathlib.Core.Logic.{⊎_elim}
use mathlib.Core.Bool.{Bool, true, false, ◌||◌}
use mathlib.Core.List.{List, [], ◌∷◌}
use lib.ListN.{length, get_or, set, replicate}
use lib.Seq.{get_or-set_same, get_or-set_other}
use lib.Dec.{eqb}
use native.Mathlib.Nat.{zero-div}
use borrow.Author.Tests.{ne_eqb, eq-eqb}
use Rattle.model.specs.Bytes.{Bytes, pick}
use Rattle.model.specs.Scan.{any, among}
use Rattle.model.specs.Sector.{Card}
use Rattle.model.specs.Fat.{Fat, entry, fat1_of, set_entry, end_value, link, release}
use Rattle.model.specs.Chain.{chain}
use Rattle.model.specs.Promises.{Shape}
use Rattle.model.specs.declared.Layout.{Layout}
use Rattle.std.specs.Int.RustNames.{bit_or}
use Rattle.std.specs.Int.{w8}
use Rattle.std.proofs.lemmas.List.{get_or_past}
use Rattle.std.proofs.lemmas.Nat.Bits.{bit_at_set_same, bit_at_set_other}
use Rattle.model.proofs.Lists.{zero_at}
use Rattle.model.proofs.Tests.{same?}
use Rattle.model.proofs.All.{All}
use Rattle.model.proofs.Chains.{chain_same}
use Rattle.model.proofs.Entries.{release_byte, release_local}
use Rattle.fat_copy.specs.Change.{lead, sectors_of}
use Rattle.fat_copy.proofs.Laws.{own_sector, own_entry, lead_local}
use Rattle.fat_release.specs.Release.{cut, cleared, bit_of, mark_of, Inside, Marked}

-- ---- marks

among_none : (l : Layout) (ks : List ℕ) (x : ℕ) → Inside l ks → l.clusters + 2 ≤ x → among ks x ≡ false
unfolding any
among_none l [] x h le = refl
among_none l (k ∷ ks) x h le = rw (ne_eqb x k (λ e. let less : k < l.clusters + 2 = h.0 in omega arith)) (among_none l ks x h.1 le)

-- No cluster lies so high.
pub marked_none : (l : Layout) (ks : List ℕ) (from : ℕ) (marks : List ℕ) → Inside l ks → l.clusters + 2 ≤ from
    → ((i : ℕ) → mark_of marks i ≡ 0) → Marked ks from marks
marked_none l ks from marks h le none i less = rw (among_none l ks (from + i) h (omega arith)) (none i)

-- A byte of marks that is 0 has none.
pub bit_zero : (b i : ℕ) → b ≡ 0 → bit_of b i ≡ 0
unfolding bit_of
bit_zero b i e = rw (e, zero-div (2 ^ i))

-- No mark where no byte is lent for them, and where all are 0.
pub mark_past : (marks : List ℕ) → length marks ≡ 0 → (i : ℕ) → mark_of marks i ≡ 0
mark_past marks e i = bit_zero (get_or marks (i / 8) 0) (i % 8) (get_or_past marks (i / 8) 0 (omega arith))

pub mark_clear : (marks : List ℕ) (n : ℕ) → marks ≡ replicate n 0 → (i : ℕ) → mark_of marks i ≡ 0
mark_clear marks n e i = rw e (bit_zero (get_or (replicate n 0) (i / 8) 0) (i % 8) (zero_at n (i / 8)))

-- Mark `at + m / 2`, of the entry that byte m of a sector is of, is a bit of the byte of marks for eight entries.
pub mark_in : (marks : List ℕ) (at k m : ℕ) → at % 8 ≡ 0 → m / 16 ≡ k
    → bit_of (get_or marks (at / 8 + k) 0) (m / 2 % 8) ≡ mark_of marks (at + m / 2)
mark_in marks at k m z e =
    let p : at / 8 + k ≡ (at + m / 2) / 8 = omega (arith, z, e) in
    let q : m / 2 % 8 ≡ (at + m / 2) % 8 = omega (arith, z) in
    ap (λ (y : ℕ). bit_of (get_or marks y 0) (m / 2 % 8)) p ∙ ap (λ (y : ℕ). bit_of (get_or marks ((at + m / 2) / 8) 0) y) q

-- Mark x is set.
module _ (marks : List ℕ) (x : ℕ) (h : x / 8 < length marks) where
  abbrev byte : ℕ
  byte = get_or marks (x / 8) 0

  abbrev byte_set : ℕ
  byte_set = bit_or byte (1 * 2 ^ (x % 8) % 256)

  pub mark_set : (i : ℕ) → mark_of (set marks (x / 8) byte_set) i ≡ pick (eqb i x) 1 (mark_of marks i)
  unfolding bit_of
  mark_set i = ⊎_elim
      (λ e. rw (eq-eqb i x e, e, get_or-set_same marks (x / 8) byte_set 0 h) (bit_at_set_same w8 byte (x % 8) (omega arith)))
      (λ ne. rw (ne_eqb i x ne) (⊎_elim
      (λ e. ap (λ (y : ℕ). bit_of (get_or (set marks (x / 8) byte_set) y 0) (i % 8)) e
      ∙ ap (λ (y : ℕ). bit_of y (i % 8)) (get_or-set_same marks (x / 8) byte_set 0 h)
      ∙ bit_at_set_other w8 byte (x % 8) (omega arith) (i % 8) (λ q. ne (omega (arith, e, q)))
      ∙ ap (λ (y : ℕ). bit_of (get_or marks y 0) (i % 8)) (sym e))
      (λ f. ap (λ (y : ℕ). bit_of y (i % 8)) (get_or-set_other marks (x / 8) (i / 8) byte_set 0 f))
      (same? (i / 8) (x / 8))))
      (same? i x)

-- Cluster k has mark k - from.
pub mark_at : (from k i : ℕ) → from ≤ k → eqb i (k - from) ≡ eqb (from + i) k
mark_at from k i le = ⊎_elim
    (λ e. rw (eq-eqb i (k - from) e, eq-eqb (from + i) k (omega arith)))
    (λ ne. rw (ne_eqb i (k - from) ne, ne_eqb (from + i) k (λ q. ne (omega arith))))
    (same? i (k - from))

-- The buffer xs once the first n bytes of the eight entries from byte 16 * k on are cleared by the bits of m.
pub record Eight (xs : List ℕ) (k m n : ℕ) (out : List ℕ) : Type 0 where
  pub done : (j : ℕ) → j / 16 ≡ k → j % 16 < n → get_or out j 0 ≡ pick (eqb (bit_of m (j / 2 % 8)) 0) (get_or xs j 0) 0
  pub rest : (j : ℕ) → (j / 16 ≡ k → n ≤ j % 16) → get_or out j 0 ≡ get_or xs j 0

pub eight_more : (xs buf out : List ℕ) (k m i : ℕ) → i < 16 → Eight xs k m i buf
    → get_or out (16 * k + i) 0 ≡ pick (eqb (bit_of m (i / 2)) 0) (get_or buf (16 * k + i) 0) 0
    → ((j : ℕ) → (j ≡ 16 * k + i → ⊥) → get_or out j 0 ≡ get_or buf j 0) → Eight xs k m (i + 1) out
eight_more xs buf out k m i less so here else = record {
  done = λ j q l. ⊎_elim
      (λ e. let f : j / 2 % 8 ≡ i / 2 = omega arith in
      rw (f, ← so.rest j (λ z. omega arith)) (rw (← e) at here))
      (λ ne. else j ne ∙ so.done j q (omega arith))
      (same? j (16 * k + i));
  rest = λ j h. else j (λ e. absurd (let z : i + 1 ≤ j % 16 = h (omega arith) in omega arith)) ∙ so.rest j (λ q. let z : i + 1 ≤ j % 16 = h q in omega arith);
}

-- The marks of a walk so far, with the n clusters from k on yet to come, are those of all.
abbrev pub Marking : (ℕ → ℕ) → ℕ → ℕ → ℕ → List ℕ → ℕ → ℕ → Type 0
Marking e from first m marks k n =
    (i : ℕ) → i < 8192 → pick (among (chain e n k) (from + i)) 1 (mark_of marks i) ≡ pick (among (chain e m first) (from + i)) 1 0

module _ (e : ℕ → ℕ) (from first m : ℕ) where
  pub marking_none : (marks : List ℕ) → ((i : ℕ) → mark_of marks i ≡ 0) → Marking e from first m marks first m
  marking_none marks none i less = rw (none i)

  pub marking_done : (marks : List ℕ) (k n : ℕ) → n ≡ 0 → Marking e from first m marks k n → Marked (chain e m first) from marks
  unfolding chain any
  marking_done marks k n z so i less = rw z at (so i less)

  pub marking_more : (marks : List ℕ) (k n : ℕ) → 0 < n → Marking e from first m marks k n → (out : List ℕ)
      → ((i : ℕ) → i < 8192 → mark_of out i ≡ pick (eqb (from + i) k) 1 (mark_of marks i)) → Marking e from first m out (e k) (n - 1)
  unfolding chain any
  marking_more marks k zero pos so out put i less = absurd (omega arith)
  marking_more marks k (suc n) pos so out put i less =
      let f : suc n - 1 ≡ n = omega arith in
      rw (f, put i less) (go (eqb (from + i) k) (among (chain e n (e k)) (from + i)) ∙ so i less)
    where
      go : (a b : Bool) → pick b 1 (pick a 1 (mark_of marks i)) ≡ pick (a || b) 1 (mark_of marks i)
      go true true = refl
      go true false = refl
      go false b = refl

module _ (l : Layout) (e : ℕ → ℕ) where
  pub inside_first : (k n : ℕ) → 0 < n → Inside l (chain e n k) → k < l.clusters + 2
  unfolding chain
  inside_first k zero pos h = absurd (omega arith)
  inside_first k (suc n) pos h = h.0

  pub inside_rest : (k n : ℕ) → 0 < n → Inside l (chain e n k) → Inside l (chain e (n - 1) (e k))
  unfolding chain
  inside_rest k zero pos h = absurd (omega arith)
  inside_rest k (suc n) pos h = let f : suc n - 1 ≡ n = omega arith in rw f h.1

-- ---- sectors by their marks

-- By the marks of freed clusters, the FAT in which these are freed.
pub cleared_is : (ks marks : List ℕ) (f : Fat) (s : ℕ) → Marked ks (8192 * (s / 32)) marks → (j : ℕ) → j < 512 → cleared marks f s j ≡ release ks f s j
unfolding cleared
cleared_is ks marks f s h j less =
    let e : 8192 * (s / 32) + (256 * (s % 32) + j / 2) ≡ 256 * s + j / 2 = omega arith in
    rw (h (256 * (s % 32) + j / 2) (omega arith), e) (go (among ks (256 * s + j / 2)) ∙ sym (release_byte ks f s j less))
  where
    go : (b : Bool) → pick (eqb (pick b 1 0) 0) (f s j) 0 ≡ pick b 0 (f s j)
    go true = refl
    go false = refl

-- A buffer that holds sector s of f, cleared by the marks.
pub cleared_of : (marks buf out : List ℕ) (f : Fat) (s at : ℕ) → at ≡ 256 * (s % 32) → ((j : ℕ) → j < 512 → get_or buf j 0 ≡ f s j)
    → ((j : ℕ) → j < 512 → get_or out j 0 ≡ pick (eqb (mark_of marks (at + j / 2)) 0) (get_or buf j 0) 0)
    → (j : ℕ) → j < 512 → get_or out j 0 ≡ cleared marks f s j
unfolding cleared
cleared_of marks buf out f s at e held put j less =
    put j less ∙ ap (λ (z : ℕ). pick (eqb (mark_of marks (z + j / 2)) 0) (get_or buf j 0) 0) e
    ∙ ap (λ (z : ℕ). pick (eqb (mark_of marks (256 * (s % 32) + j / 2)) 0) z 0) (held j less)

-- ---- a pass over the sectors

-- The FAT in which a chain's clusters are freed, and `kept` ends.
abbrev pub freed : Fat → ℕ → ℕ → ℕ → Fat
freed t kept first m = release (chain (entry t) m first) (lead kept end_value t)

-- Marks serve all of their 32 sectors.
pub next_marks : (ks marks : List ℕ) (s : ℕ) → Marked ks (8192 * (s / 32)) marks → ((s + 1) % 32 ≡ 0 → ⊥) → Marked ks (8192 * ((s + 1) / 32)) marks
next_marks ks marks s h ne = let e : 8192 * ((s + 1) / 32) ≡ 8192 * (s / 32) = omega arith in rw e h

-- ---- FAT1 as it is on the card

module _ (l : Layout) (c : Card) (sh : Shape l) where
  own_all : (ks : List ℕ) → Inside l ks → All (λ k. entry (sectors_of l c) k ≡ entry (fat1_of l c) k) ks
  own_all [] h = tt
  own_all (k ∷ ks) h = (own_entry l c k (let less : k < l.clusters + 2 = h.0 in omega (arith, sh.enough)), own_all ks h.1)

  pub own_chain : (m first : ℕ) → Inside l (chain (entry (fat1_of l c)) m first) → chain (entry (sectors_of l c)) m first ≡ chain (entry (fat1_of l c)) m first
  own_chain m first h = chain_same (entry (fat1_of l c)) (entry (sectors_of l c)) m first (own_all (chain (entry (fat1_of l c)) m first) h)

ended : (kept : ℕ) (f : Fat) → link (pick (eqb kept 0) [] (kept ∷ [])) f ≡ lead kept end_value f
unfolding lead link
ended kept f = go (eqb kept 0)
  where
    go : (b : Bool) → link (pick b [] (kept ∷ [])) f ≡ pick b f (set_entry kept end_value f)
    go true = refl
    go false = refl

module _ (l : Layout) (c : Card) where
  pub cut_none : (kept first s j : ℕ) → s < l.fatsize → cut (fat1_of l c) kept first 0 s j ≡ freed (sectors_of l c) 0 0 0 s j
  unfolding cut release lead chain
  cut_none kept first s j h = ap (λ (b : Bytes). b j) (sym (own_sector l c s h))

  pub cut_some : Shape l → (kept first m s j : ℕ) → 0 < m → Inside l (chain (entry (fat1_of l c)) m first) → s < l.fatsize
      → cut (fat1_of l c) kept first m s j ≡ freed (sectors_of l c) kept first m s j
  unfolding cut
  cut_some sh kept first m s j pos h less =
      let t = fat1_of l c in
      rw (ne_eqb m 0 (λ q. omega arith), own_chain l c sh m first h)
      (ap (λ (f : Fat). release (chain (entry t) m first) f s j) (ended kept t)
      ∙ release_local (chain (entry t) m first) (lead kept end_value t) (lead kept end_value (sectors_of l c)) s j
      (lead_local kept end_value t (sectors_of l c) s j (ap (λ (b : Bytes). b j) (sym (own_sector l c s less)))))
