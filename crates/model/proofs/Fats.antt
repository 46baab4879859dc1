-- Laws of FATs: the stores that make one like another, and the entries of a changed one.
use Prim.Native.Nat.{ℕ, ◌+◌, ◌*◌, ◌/◌, ◌%◌, ◌^◌, ◌≤◌, ◌<◌}
use native.Mathlib.Nat.{mul-suc, mul-le-mul_left, mod-lt, div-mul-le_self, mul_comm, div-add-mod'}
use native.Mathlib.Omega.{arith}
use mathlib.Core.Path.{◌≡◌, refl, sym, ap, ◌∙◌}
use mathlib.Core.Logic.{◌⊎◌, inl, inr, ⊎_elim}
use mathlib.Core.List.{List, [], ◌∷◌, map}
use mathlib.Core.Bool.{Bool, true, false, ◌&&◌, ◌||◌, not, and-true}
use lib.Dec.{eqb}
use lib.ListN.{length, length-map}
use borrow.Author.Tests.{eqb-true, eq-eqb, not-false, ne_eqb}
use Rattle.model.specs.Bytes.{Bytes, le, patch, byte_of, pick}
use Rattle.model.specs.Scan.{any}
use Rattle.model.specs.Sector.{clip, Card, Store, store, after}
use Rattle.model.specs.Fat.{same, fats_agree, fat1_of, fat2_of, Fat, write_fat, differing, wide_entry, set_wide_entry, entry, set_entry, is_reserved}
use Rattle.model.specs.Fat.{release, link, is_free}
use Rattle.model.specs.Log.{marked}
use Rattle.model.specs.declared.Layout.{Layout}
use Rattle.model.proofs.Tests.{told, by_pick, less?, same?}
use Rattle.model.proofs.Scan.{all_at0, all_of0}
use Rattle.model.proofs.All.{All, all_image, all_map}
use Rattle.model.proofs.Indices.{indices_all0, indices_has0, indices_empty0, indices_length, has}
use Rattle.model.proofs.Numbers.{le_local, read_back, le_over_below, le_over_above}
use Rattle.model.proofs.Cards.{clip_same, clip_clip, clip_at}
use Rattle.model.proofs.Changes.{Covers, covers_image, after_is}

-- ---- sectors that hold the same bytes

same_clip : (a b : Bytes) → same a b ≡ true → clip a ≡ clip b
unfolding same
same_clip a b h = clip_same a b (λ j less. eqb-true (a j) (b j) (all_at0 (λ j. eqb (a j) (b j)) 512 h j less))

same_refl : (a b : Bytes) → a ≡ b → same a b ≡ true
unfolding same
same_refl a b h = all_of0 (λ j. eqb (a j) (b j)) 512 (λ j less. eq-eqb (a j) (b j) (λ t. h t j))

pub agree_at : (l : Layout) (c : Card) → fats_agree l c ≡ true → (s : ℕ) → s < l.fatsize → clip (fat1_of l c s) ≡ clip (fat2_of l c s)
unfolding fats_agree
agree_at l c h s less = same_clip (fat1_of l c s) (fat2_of l c s) (all_at0 (λ s. same (fat1_of l c s) (fat2_of l c s)) l.fatsize h s less)

pub agree_of : (l : Layout) (c : Card) → ((s : ℕ) → s < l.fatsize → fat1_of l c s ≡ fat2_of l c s) → fats_agree l c ≡ true
unfolding fats_agree
agree_of l c h = all_of0 (λ s. same (fat1_of l c s) (fat2_of l c s)) l.fatsize (λ s less. same_refl (fat1_of l c s) (fat2_of l c s) (h s less))

-- ---- the stores that write a FAT

module _ (l : Layout) (at : ℕ) (new old : Fat) where
  -- What holds of each sector's store holds of all that are made.
  pub write_all : (P : Store → Type 0) → ((s : ℕ) → s < l.fatsize → P (store (at + s) (new s))) → All P (write_fat l at new old)
  unfolding write_fat differing
  write_all P h = all_image P (λ s. store (at + s) (new s)) (differing l new old)
      (indices_all0 (λ s. not (same (new s) (old s))) l.fatsize (λ s. P (store (at + s) (new s))) (λ s less e. h s less))

  -- A sector is stored, or has the bytes already.
  pub write_covers : (s : ℕ) → s < l.fatsize → Covers (at + s) (write_fat l at new old) ⊎ (clip (new s) ≡ clip (old s))
  unfolding write_fat differing
  write_covers s less = go (told (not (same (new s) (old s))))
    where
      go : (not (same (new s) (old s)) ≡ true) ⊎ (not (same (new s) (old s)) ≡ false)
          → Covers (at + s) (map (λ s. store (at + s) (new s)) (differing l new old)) ⊎ (clip (new s) ≡ clip (old s))
      go (inl e) = inl (covers_image (λ k. store (at + k) (new k)) (at + s) s (differing l new old) refl
          (indices_has0 (λ s. not (same (new s) (old s))) l.fatsize s less e))
      go (inr e) = inr (same_clip (new s) (old s) (not-false (same (new s) (old s)) e))

  -- After the stores a sector is as in the new FAT, on a card that has the old one.
  pub write_done : (x : Card) (s : ℕ) → s < l.fatsize → clip (old s) ≡ x (at + s) → after (write_fat l at new old) x (at + s) ≡ clip (new s)
  write_done x s less o = after_is (at + s) (clip (new s)) (write_fat l at new old) x
      (write_all (λ st. at + s ≡ st.sector → clip st.bytes ≡ clip (new s))
      (λ k less e. let i : k ≡ s = omega arith in clip_clip (new k) ∙ ap (λ k. clip (new k)) i))
      (⊎_elim (λ k. inl k) (λ e. inr (sym o ∙ sym e)) (write_covers s less))

  -- No store where nothing differs.
  pub write_none : ((s : ℕ) → s < l.fatsize → new s ≡ old s) → write_fat l at new old ≡ []
  unfolding write_fat differing
  write_none h = ap (map (λ s. store (at + s) (new s)))
      (indices_empty0 (λ s. not (same (new s) (old s))) l.fatsize (λ s less. ap not (same_refl (new s) (old s) (h s less))))

  pub write_length : length (write_fat l at new old) ≤ l.fatsize
  unfolding write_fat differing
  write_length = rw (length-map (differing l new old) (λ s. store (at + s) (new s))) (indices_length _ 0 l.fatsize)

-- ---- entries, whatever their width

module _ (w : ℕ) where
  -- How many entries a sector has, and where entry k begins.
  abbrev per : ℕ
  per = 512 / w

  abbrev begin : ℕ → ℕ
  begin k = w * (k % per)

  pub wide_same : (f g : Fat) (k : ℕ) → g (k / per) ≡ f (k / per) → wide_entry w g k ≡ wide_entry w f k
  unfolding wide_entry
  wide_same f g k e = ap (λ (b : Bytes). le w b (begin k)) e

  -- Entry i + 1 begins where entry i ends.
  next_begins : (i k : ℕ) → i < k → w * i + w ≤ w * k
  next_begins i k less = rw (sym (mul-suc w i)) (mul-le-mul_left w less)

  -- An entry lies within the 512 bytes of its sector.
  pub wide_clip : 0 < per → (f g : Fat) (k : ℕ) → g (k / per) ≡ clip (f (k / per)) → wide_entry w g k ≡ wide_entry w f k
  unfolding wide_entry
  wide_clip pos f g k e =
      let inside : w * (k % per) + w ≤ w * per = next_begins (k % per) per (mod-lt k pos) in
      let top : per * w ≤ 512 = div-mul-le_self 512 w in
      let turned : w * per ≡ per * w = mul_comm w per in
      ap (λ (b : Bytes). le w b (begin k)) e
      ∙ le_local w (clip (f (k / per))) (f (k / per)) (begin k) (λ i lo hi. clip_at (f (k / per)) i (omega arith))

  -- The entries of a FAT with one entry changed.
  pub set_wide_same : (k v : ℕ) (f : Fat) → v < 256 ^ w → wide_entry w (set_wide_entry w k v f) k ≡ v
  unfolding wide_entry set_wide_entry
  set_wide_same k v f h =
      rw (eq-eqb (k / per) (k / per) refl) (ap (le w (patch w v (begin k) (f (k / per)))) (omega arith) ∙ read_back w v (begin k) (f (k / per)) h)

  pub set_wide_other : (k v j : ℕ) (f : Fat) → (j ≡ k → ⊥) → wide_entry w (set_wide_entry w k v f) j ≡ wide_entry w f j
  unfolding wide_entry set_wide_entry
  set_wide_other k v j f ne =
      by_pick (λ (b : Bytes). le w b (begin j) ≡ le w (f (j / per)) (begin j)) (eqb (j / per) (k / per)) (patch w v (begin k) (f (j / per))) (f (j / per))
      (λ e. in_sector (eqb-true (j / per) (k / per) e) (less? (j % per) (k % per)) (less? (k % per) (j % per))) (λ _. refl)
    where
      one : j / per ≡ k / per → j % per ≡ k % per → j ≡ k
      one e r = sym (div-add-mod' j per) ∙ (λ t. e t * per + r t) ∙ div-add-mod' k per

      in_sector : j / per ≡ k / per → (j % per < k % per) ⊎ (k % per ≤ j % per) → (k % per < j % per) ⊎ (j % per ≤ k % per)
          → le w (patch w v (begin k) (f (j / per))) (begin j) ≡ le w (f (j / per)) (begin j)
      in_sector e (inl lt) g = le_over_below w w (begin k) (begin j) (byte_of v) (f (j / per)) (next_begins (j % per) (k % per) lt)
      in_sector e (inr ge) (inl gt) = le_over_above w w (begin k) (begin j) (byte_of v) (f (j / per)) (next_begins (k % per) (j % per) gt)
      in_sector e (inr ge) (inr low) = absurd (ne (one e (omega arith)))

-- Those of FAT16.
pub entry_same : (f g : Fat) (k : ℕ) → g (k / 256) ≡ f (k / 256) → entry g k ≡ entry f k
entry_same f g k e = wide_same 2 f g k e

pub entry_clip : (f g : Fat) (k : ℕ) → g (k / 256) ≡ clip (f (k / 256)) → entry g k ≡ entry f k
entry_clip f g k e = wide_clip 2 (omega arith) f g k e

pub set_entry_same : (k v : ℕ) (f : Fat) → v < 65536 → entry (set_entry k v f) k ≡ v
set_entry_same k v f h = set_wide_same 2 k v f h

pub set_entry_other : (k v j : ℕ) (f : Fat) → (j ≡ k → ⊥) → entry (set_entry k v f) j ≡ entry f j
set_entry_other k v j f ne = set_wide_other 2 k v j f ne

-- ---- the clusters marked as log

mark_kept : (k v : ℕ) (f : Fat) → v < 65536 → is_reserved v ≡ false → marked f k ≡ false → (j : ℕ) → marked (set_entry k v f) j ≡ marked f j
mark_kept k v f small ne h j = ⊎_elim
    (λ e. rw e (ap (λ y. is_reserved y) (set_entry_same k v f small) ∙ ne ∙ sym h))
    (λ e. ap (λ y. is_reserved y) (set_entry_other k v j f e)) (same? j k)

pub release_marks : (ks : List ℕ) (f : Fat) → All (λ k. marked f k ≡ false) ks → (j : ℕ) → marked (release ks f) j ≡ marked f j
unfolding release
release_marks [] f a j = refl
release_marks (k ∷ ks) f a j =
    let kept : (i : ℕ) → marked (set_entry k 0 f) i ≡ marked f i = mark_kept k 0 f (omega arith) refl a.0 in
    release_marks ks (set_entry k 0 f) (all_map (λ k. marked f k ≡ false) (λ i. marked (set_entry k 0 f) i ≡ false) (λ i q. kept i ∙ q) ks a.1) j ∙ kept j

pub link_marks : (ks : List ℕ) (f : Fat) → All (λ k. (k < 0xFFF6) × (marked f k ≡ false)) ks → (j : ℕ) → marked (link ks f) j ≡ marked f j
unfolding link
link_marks [] f a j = refl
link_marks (k ∷ []) f a j = mark_kept k 0xFFFF f (omega arith) refl a.0.1 j
link_marks (k ∷ (m ∷ ks)) f a j =
    let less : m < 0xFFF6 = a.1.0.0 in
    let kept : (i : ℕ) → marked (set_entry k m f) i ≡ marked f i = mark_kept k m f (omega arith) (ne_eqb m 0xFFF6 (λ q. omega arith)) a.0.1 in
    link_marks (m ∷ ks) (set_entry k m f)
    (all_map (λ i. (i < 0xFFF6) × (marked f i ≡ false)) (λ i. (i < 0xFFF6) × (marked (set_entry k m f) i ≡ false)) (λ i q. (q.0, kept i ∙ q.1))
    (m ∷ ks) a.1) j
    ∙ kept j

-- ---- free clusters

-- Whether cluster j is free.
abbrev pub free : Fat → ℕ → Bool
free f j = is_free (entry f j)

set_free : (k v : ℕ) (f : Fat) → v < 65536 → (j : ℕ) → free (set_entry k v f) j ≡ pick (eqb j k) (is_free v) (free f j)
set_free k v f small j = ⊎_elim
    (λ e. rw (eq-eqb j k e) (ap (λ i. is_free i) (ap (entry (set_entry k v f)) e ∙ set_entry_same k v f small)))
    (λ e. rw (ne_eqb j k e) (ap (λ i. is_free i) (set_entry_other k v j f e))) (same? j k)

pub release_free : (ks : List ℕ) (f : Fat) (j : ℕ) → free (release ks f) j ≡ (has ks j || free f j)
unfolding release any
release_free [] f j = refl
release_free (k ∷ ks) f j = release_free ks (set_entry k 0 f) j ∙ ap (λ b. has ks j || b) (set_free k 0 f (omega arith) j) ∙ go (eqb j k) (has ks j)
  where
    go : (a b : Bool) → (b || pick a true (free f j)) ≡ (a || b || free f j)
    go true true = refl
    go true false = refl
    go false b = refl

pub link_free : (ks : List ℕ) (f : Fat) → All (λ k. (2 ≤ k) × (k < 65536)) ks → (j : ℕ) → free (link ks f) j ≡ (free f j && not (has ks j))
unfolding link any
link_free [] f a j = sym (and-true (free f j))
link_free (k ∷ []) f a j = set_free k 0xFFFF f (omega arith) j ∙ go (eqb j k) (free f j)
  where
    go : (a x : Bool) → pick a false x ≡ (x && not (a || false))
    go true true = refl
    go true false = refl
    go false x = sym (and-true x)
link_free (k ∷ (m ∷ ks)) f a j =
    let two : 2 ≤ m = a.1.0.0 in
    let fits : m < 65536 = a.1.0.1 in
    let here : free (set_entry k m f) j ≡ pick (eqb j k) false (free f j) = set_free k m f fits j
    ∙ ap (λ b. pick (eqb j k) b (free f j)) (ne_eqb m 0 (λ q. omega arith)) in
    link_free (m ∷ ks) (set_entry k m f) a.1 j ∙ ap (λ b. b && not (has (m ∷ ks) j)) here ∙ go (eqb j k) (has (m ∷ ks) j) (free f j)
  where
    go : (a b x : Bool) → (pick a false x && not b) ≡ (x && not (a || b))
    go true b true = refl
    go true b false = refl
    go false b x = refl
