-- The files that an operation does not name, and soundness afterwards: for every operation that supplies a few facts.
use Prim.Native.Nat.{ℕ, ◌/◌, ◌%◌, ◌<◌}
use mathlib.Core.Path.{◌≡◌, refl, sym, ap, ◌∙◌, subst}
use mathlib.Core.Logic.{⊎_elim}
use mathlib.Core.List.{List, Memᴰ}
use mathlib.Core.Bool.{true, not}
use Rattle.model.specs.Bytes.{Bytes}
use Rattle.model.specs.Sector.{Card, Store, clip, after}
use Rattle.model.specs.Fat.{Fat, entry}
use Rattle.model.specs.Chain.{file_sector}
use Rattle.model.specs.Root.{Directory, slot_at, free_slot, is_file, is_directory, is_label, listed, vacant}
use Rattle.model.specs.declared.Layout.{Layout}
use Rattle.model.specs.Record.{Change}
use Rattle.operations.specs.Finish.{effect}
use Rattle.safety.specs.Sound.{Sound, chain_of, proper}
use Rattle.safety.specs.Saved.{SameFile}
use Rattle.model.proofs.Tests.{same?, and_left}
use Rattle.model.proofs.All.{All, all_map}
use Rattle.model.proofs.Indices.{all_mem, mem_all}
use Rattle.model.proofs.Cards.{put_case}
use Rattle.model.proofs.Changes.{Keeps, after_keeps}
use Rattle.model.proofs.Chains.{Used}
use Rattle.model.proofs.Names.{Live, vacant_starts, live_not_free}
use Rattle.model.proofs.Volumes.{layout_of, first_fat}
use Rattle.safety.proofs.Start.{Start}
use Rattle.safety.proofs.Before.{Spared}
use Rattle.safety.proofs.Files.{SparesFiles, file_used}
use Rattle.safety.proofs.Theorem.{along}
use Rattle.safety.proofs.Ended.{Ended, same_is_file}
use Rattle.safety.proofs.Slots.{Unlisted, unlisted_back}
use Rattle.safety.proofs.Chained.{HasChain, slot_is, head_is, kept_then}

-- A spared byte is as it was.
spared_after : (c : Card) (ds : List Store) (n j : ℕ) → Spared c ds n j → after ds c n j ≡ c n j
spared_after c ds n j h = after_keeps (λ x. x n j ≡ c n j) ds
    (all_map (λ s. n ≡ s.sector → clip s.bytes j ≡ c n j) (Keeps (λ x. x n j ≡ c n j))
    (λ s k x e. put_case (λ (y : Bytes). y j ≡ c n j) x s n k (λ _. e)) ds h.kept) c refl

-- A root file's slot is live, and so not the free one.
pub file_live : (l : Layout) (c : Card) (s : ℕ) → s < l.entries → is_file (slot_at l c s) ≡ true → Live l c s
unfolding is_file listed
file_live l c s less h = record {
  in_root = less;
  begins = sym (vacant_starts (slot_at l c s)) ∙ and_left (not (vacant (slot_at l c s))) (not (is_label (slot_at l c s)))
      (and_left (listed (slot_at l c s)) (not (is_directory (slot_at l c s))) h);
}

pub file_not_free : (l : Layout) (c : Card) (s : ℕ) → s < l.entries → is_file (slot_at l c s) ≡ true → free_slot l c < l.entries → s ≡ free_slot l c → ⊥
file_not_free l c s less h room e = live_not_free l c s (file_live l c s less h) room e

-- What an operation supplies of each root file but the one in slot x: the slot, the entries along the chain and the bytes stay.
pub record Spares (c : Card) (ds : List Store) (f : Fat) (o : Change) (x : ℕ) : Type 0 where
  pub slot : (s : ℕ) → s < (layout_of c).entries → is_file (slot_at (layout_of c) c s) ≡ true → (s ≡ x → ⊥)
      → effect o (slot_at (layout_of c) c) s ≡ slot_at (layout_of c) c s
  pub fat : (s : ℕ) → s < (layout_of c).entries → is_file (slot_at (layout_of c) c s) ≡ true → (s ≡ x → ⊥)
      → All (λ k. entry f k ≡ entry (first_fat c) k) (chain_of (layout_of c) c s)
  pub bytes : SparesFiles c ds

-- Where cluster k of the file in slot s of the new card comes from: a file of the old one, in the slot r that became s, or the free
-- clusters, for the file in slot x alone.
pub data Owner (c : Card) (becomes : ℕ → ℕ) (x s k : ℕ) : Type 0 where
  old : (r : ℕ) → r < (layout_of c).entries → is_file (slot_at (layout_of c) c r) ≡ true → Memᴰ k (chain_of (layout_of c) c r) → becomes r ≡ s
      → Owner c becomes x s k
  new : entry (first_fat c) k ≡ 0 → s ≡ x → Owner c becomes x s k

module _ {size : ℕ} {c : Card} (st : Start size c) (sound : Sound (layout_of c) c) where
  abbrev l : Layout
  l = layout_of c

  abbrev d : Directory
  d = slot_at l c

  abbrev g : ℕ → ℕ
  g = entry (first_fat c)

  pub owned_old : (becomes : ℕ → ℕ) (x s r : ℕ) → r < l.entries → is_file (d r) ≡ true → becomes r ≡ s → All (Owner c becomes x s) (chain_of l c r)
  owned_old becomes x s r less file e = all_mem (Owner c becomes x s) (chain_of l c r) (λ k m. Owner.old r less file m e)

  module _ {ds : List Store} {f : Fat} {o : Change} {x : ℕ} (spares : Spares c ds f o x) {t : Card} (end : Ended size c ds f o t) where
    module _ (s : ℕ) (less : s < l.entries) (file : is_file (d s) ≡ true) (ne : s ≡ x → ⊥) where
      other_chain : HasChain l t s (chain_of l c s)
      other_chain = kept_then st end s less (d s) (spares.slot s less file ne) s refl refl (sound.chains s less file) (spares.fat s less file ne)

      pub other_same : SameFile l c t s
      other_same = record {
        slot = slot_is st end s less (d s) (spares.slot s less file ne);
        bytes = λ i small.
            let n : ℕ = file_sector l (chain_of l c s) (i / 512) in
            let k : Spared c ds n (i % 512) = spares.bytes s i less file small in
            along l t s (chain_of l c s) i other_chain.chain ∙ (λ j. end.sectors n k.clear j (i % 512)) ∙ spared_after c ds n (i % 512) k
            ∙ sym (along l c s (chain_of l c s) i refl);
      }

    -- ---- soundness

    module _ (becomes : ℕ → ℕ) (y : ℕ) where
      -- A file of the new card keeps the chain rule, and each of its clusters has an owner.
      pub record Owned (s : ℕ) : Type 0 where
        pub keeps : proper l t s ≡ true
        pub owners : All (Owner c becomes y s) (chain_of l t s)

      pub owned_by : (s : ℕ) (js : List ℕ) → HasChain l t s js → All (Owner c becomes y s) js → Owned s
      owned_by s js h a = record { keeps = h.keeps; owners = subst (All (Owner c becomes y s)) (sym h.chain) a }

      -- What a slot of the new card is a file by.
      pub file_by : (s : ℕ) → s < l.entries → (b : Bytes) → effect o d s ≡ b → is_file (slot_at l t s) ≡ true → is_file b ≡ true
      file_by s less b e h = sym (same_is_file (slot_at l t s) b (head_is st end s less b e)) ∙ h

      -- A slot that is as it was or no file's is a file by what it was.
      pub file_back : (s : ℕ) → s < l.entries → Unlisted (d s) (effect o d s) → is_file (slot_at l t s) ≡ true → is_file (d s) ≡ true
      file_back s less k h = file_by s less (d s) (unlisted_back (d s) (effect o d s) k (file_by s less (effect o d s) refl h)) h

      pub other_owned : (s : ℕ) → s < l.entries → is_file (d s) ≡ true → (s ≡ x → ⊥) → becomes s ≡ s → Owned s
      other_owned s less file ne stays = owned_by s (chain_of l c s) (other_chain s less file ne) (owned_old becomes y s s less file stays)

      one_owner : (s r k : ℕ) → Owner c becomes y s k → Owner c becomes y r k → s ≡ r
      one_owner s r k (Owner.old a less file m e) (Owner.old b less' file' m' e') =
          ⊎_elim (λ q. sym e ∙ ap becomes q ∙ e') (λ ne. absurd (sound.apart a b less less' file file' ne k m m')) (same? a b)
      one_owner s r k (Owner.old a less file m e) (Owner.new none q) = absurd
          ((mem_all (Used l g) (chain_of l c a) (file_used st a (sound.chains a less file)) k m).busy none)
      one_owner s r k (Owner.new none q) (Owner.old a less file m e) = absurd
          ((mem_all (Used l g) (chain_of l c a) (file_used st a (sound.chains a less file)) k m).busy none)
      one_owner s r k (Owner.new none q) (Owner.new none' q') = q ∙ sym q'

      pub sound_then : ((s : ℕ) → s < l.entries → is_file (slot_at l t s) ≡ true → Owned s) → Sound l t
      sound_then h = record {
        chains = λ s less file. (h s less file).keeps;
        apart = λ s r less less' file file' ne k m m'. ne (one_owner s r k
            (mem_all (Owner c becomes y s) (chain_of l t s) (h s less file).owners k m)
            (mem_all (Owner c becomes y r) (chain_of l t r) (h r less' file').owners k m'));
      }
