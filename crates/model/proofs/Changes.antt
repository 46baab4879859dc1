-- Laws of cards under many stores: what every store keeps, and what a list of stores makes of a sector.
use Prim.Native.Nat.{ℕ}
use mathlib.Core.Path.{◌≡◌, sym, ap, ◌∙◌, subst, fun_ext}
use mathlib.Core.Logic.{◌⊎◌, inl, inr, ⊎_elim}
use mathlib.Core.List.{List, [], ◌∷◌, ◌++◌, map, Sublistᴰ}
use lib.Dec.{eqb}
use lib.ListN.{take}
use Rattle.model.specs.Bytes.{Bytes, pick}
use Rattle.model.specs.Sector.{Card, clip, Store, put, after}
use Rattle.model.proofs.Tests.{same?}
use Rattle.model.proofs.All.{All, all_take}
use Rattle.model.proofs.Indices.{Has}
use Rattle.model.proofs.Cards.{Away, after_away, put_case, clip_clip, put_in}

-- ---- sectors of 512 bytes

-- Each sector is a function of its 512 bytes.
abbrev pub Clipped : Card → Type 0
Clipped c = (n : ℕ) → clip (c n) ≡ c n

pub put_clipped : (c : Card) (s : Store) → Clipped c → Clipped (put c s)
put_clipped c s h n = put_case (λ b. clip b ≡ b) c s n (λ _. clip_clip s.bytes) (λ _. h n)

-- ---- what every store of a list keeps, the list keeps

abbrev pub Keeps : (Card → Type 0) → Store → Type 0
Keeps I s = (x : Card) → I x → I (put x s)

pub after_keeps : (I : Card → Type 0) (ss : List Store) → All (Keeps I) ss → (x : Card) → I x → I (after ss x)
unfolding after
after_keeps I [] a x h = h
after_keeps I (s ∷ ss) a x h = after_keeps I ss a.1 (put x s) (a.0 x h)

-- Some of the stores of a list.
pub all_sub : (P : Store → Type 0) {zs ys : List Store} → Sublistᴰ zs ys → All P ys → All P zs
all_sub P Sublistᴰ.slnil h = tt
all_sub P (Sublistᴰ.cons k) h = all_sub P k h.1
all_sub P (Sublistᴰ.cons-cons e k) h = (subst P (sym e) h.0, all_sub P k h.1)

-- ---- a sector after a list of stores

-- A store of the list is at sector n.
abbrev pub Covers : ℕ → List Store → Type 0
Covers n [] = ⊥
Covers n (s ∷ ss) = (n ≡ s.sector) ⊎ Covers n ss

pub covers_left : (n : ℕ) (a b : List Store) → Covers n a → Covers n (a ++ b)
covers_left n [] b x' = elim x' [ ]
covers_left n (s ∷ a) b (inl e) = inl e
covers_left n (s ∷ a) b (inr h) = inr (covers_left n a b h)

pub covers_right : (n : ℕ) (a b : List Store) → Covers n b → Covers n (a ++ b)
covers_right n [] b h = h
covers_right n (s ∷ a) b h = inr (covers_right n a b h)

pub covers_image : (f : ℕ → Store) (n k : ℕ) (ks : List ℕ) → n ≡ (f k).sector → Has k ks → Covers n (map f ks)
covers_image f n k [] e x'' = elim x'' [ ]
covers_image f n k (j ∷ ks) e (inl h) = inl (e ∙ ap (λ i. (f i).sector) h)
covers_image f n k (j ∷ ks) e (inr h) = inr (covers_image f n k ks e h)

-- If every store at sector n gives it the bytes b, and one is made or it has them already, then it has them at the end.
pub after_is : (n : ℕ) (b : Bytes) (ss : List Store) (x : Card) → All (λ s. n ≡ s.sector → clip s.bytes ≡ b) ss → Covers n ss ⊎ (x n ≡ b) → after ss x n ≡ b
unfolding after
after_is n b [] x a (inl z) = absurd z
after_is n b [] x a (inr h) = h
after_is n b (s ∷ ss) x a (inl (inl e)) = after_is n b ss (put x s) a.1 (inr (put_in x s n e ∙ a.0 e))
after_is n b (s ∷ ss) x a (inl (inr k)) = after_is n b ss (put x s) a.1 (inl k)
after_is n b (s ∷ ss) x a (inr h) = after_is n b ss (put x s) a.1 (inr (put_case (λ y. y ≡ b) x s n a.0 (λ _. h)))

-- A sector that a list stores does not remember what it held.
pub covered : (ss : List Store) (c d : Card) (t : ℕ) → Covers t ss ⊎ (c t ≡ d t) → after ss c t ≡ after ss d t
unfolding after put
covered [] c d t (inl z) = absurd z
covered [] c d t (inr e) = e
covered (s ∷ ss) c d t (inl (inl e)) = covered ss (put c s) (put d s) t (inr (put_in c s t e ∙ sym (put_in d s t e)))
covered (s ∷ ss) c d t (inl (inr k)) = covered ss (put c s) (put d s) t (inl k)
covered (s ∷ ss) c d t (inr e) = covered ss (put c s) (put d s) t (inr (ap (pick (eqb t s.sector) (clip s.bytes)) e))

pub covers? : (ss : List Store) (t : ℕ) → Covers t ss ⊎ Away ss t
covers? [] t = inr tt
covers? (s ∷ ss) t = ⊎_elim (λ e. inl (inl e)) (λ ne. ⊎_elim (λ k. inl (inr k)) (λ a. inr (ne, a)) (covers? ss t)) (same? t s.sector)

-- So stores that are made again after some of them make the same card.
pub after_again : (ss : List Store) (limit : ℕ) (c : Card) → after ss (after (take limit ss) c) ≡ after ss c
after_again ss limit c = fun_ext (λ t. covered ss (after (take limit ss) c) c t
    (⊎_elim (λ k. inl k) (λ a. inr (after_away (take limit ss) c t (all_take (λ s. t ≡ s.sector → ⊥) limit ss a))) (covers? ss t)))
