-- Once a group's store is on the card: recovery makes what is left of the operation.
use Prim.Native.Nat.{ℕ, ◌+◌, ◌-◌, ◌*◌, ◌/◌, ◌%◌, ◌≤◌, ◌<◌}
use native.Mathlib.Omega.{arith}
use mathlib.Core.Path.{◌≡◌, refl, sym, ap, ◌∙◌, subst, fun_ext}
use mathlib.Core.Logic.{◌⊎◌, inl, inr, ⊎_elim}
use mathlib.Core.Bool.{true, false}
use Rattle.model.specs.Bytes.{Bytes}
use Rattle.model.specs.Sector.{Card, clip, Store, after}
use Rattle.model.specs.Fat.{fat2_of}
use Rattle.model.specs.Root.{end_slot, first_bytes, slot_at, Directory, root_place}
use Rattle.model.specs.Log.{log_of}
use Rattle.model.specs.Promises.{Shape}
use Rattle.model.specs.declared.Area.{Area}
use Rattle.model.specs.Scan.{among}
use Rattle.model.specs.Record.{Change, Group, group_of}
use Rattle.model.specs.declared.Layout.{Layout}
use Rattle.model.specs.Pending.{fills, named_slots, end_past}
use Rattle.operations.specs.Finish.{root_sector, effect, concerns, finish}
use Rattle.model.proofs.Tests.{less?, told}
use Rattle.model.proofs.All.{All, all_map}
use Rattle.model.proofs.Cards.{put_case, clip_clip, clip_same}
use Rattle.model.proofs.Changes.{Clipped, Keeps, after_keeps, Covers, after_is}
use Rattle.model.proofs.Records.{ChangeFits}
use Rattle.model.proofs.Recorded.{Recorded}
use Rattle.model.proofs.Pendings.{Stored}
use Rattle.model.proofs.Volumes.{layout_of, SameMarks, first_fat, area_of}
use Rattle.safety.proofs.Start.{Fixed, Start, shape_of}
use Rattle.operations.proofs.Edits.{Near, unconcerned, sector_mix}
use Rattle.operations.proofs.Edits as Edits
use Rattle.safety.proofs.Effect.{Lives, recorded_slots}
use Rattle.safety.proofs.Steps.{root_store, finish_all, finish_fat, finish_root}

-- The lowest slot beginning 0 of a card.
abbrev pub last_slot : Card → ℕ
last_slot c = end_slot (layout_of c).entries (first_bytes (layout_of c) c)

-- The same, read for the group of a change: as if the slots that it names began 0xE5.
abbrev pub past_slot : Card → Change → ℕ
past_slot c o = end_past o.operation (layout_of c).entries (first_bytes (layout_of c) c)

-- A change whose root sectors may reach the card in any order: no slot that it names is above the lowest that begins 0.
abbrev pub LowSlots : Card → Change → Type 0
LowSlots c o = (k : ℕ) → k < (layout_of c).entries → among (named_slots o.operation) k ≡ true → k ≤ last_slot c

-- Card u has the group of operation o in log sector i and the change of the FATs in FAT2, and is else as c in what a recovery looks at.
pub record Entered (c u : Card) (i : ℕ) (o : Change) : Type 0 where
  pub clipped : Clipped u
  pub fixed : (n : ℕ) → Fixed (layout_of c) n → u n ≡ c n
  pub marks : SameMarks (layout_of c) (fat2_of (layout_of c) u) (first_fat c)
  pub stored : Stored (area_of c).sectors (log_of (area_of c) u) i o
  pub fits : ChangeFits o
  pub recorded : Recorded (layout_of c).entries (past_slot c o) o
  pub lives : Lives (slot_at (layout_of c) c) o
  pub lined : (0 < fills o.operation) ⊎ LowSlots c o

-- What sector n is to become, if it is one of those that are still written: FAT1's as FAT2's, the root directory's as in `new`.
pub data Target (l : Layout) (u : Card) (new : Directory) (n : ℕ) (b : Bytes) : Type 0 where
  fat1 : (s : ℕ) → s < l.fatsize → n ≡ l.fat1 + s → b ≡ u (l.fat2 + s) → Target l u new n b
  root : (r : ℕ) → r < l.entries / 16 → n ≡ root_place l r → b ≡ clip (root_sector new r) → Target l u new n b

-- Sector n is none of them.
abbrev pub Still : Layout → ℕ → Type 0
Still l n = ((s : ℕ) → s < l.fatsize → n ≡ l.fat1 + s → ⊥) × ((r : ℕ) → r < l.entries / 16 → n ≡ root_place l r → ⊥)

module _ {size : ℕ} {c : Card} (st : Start size c) {u : Card} {i : ℕ} {o : Change} (h : Entered c u i o) where
  abbrev l : Layout
  l = layout_of c

  abbrev log : Area
  log = area_of c

  abbrev old : Directory
  old = slot_at l c

  abbrev pub new_root : Directory
  new_root = effect o old

  abbrev z : ℕ
  z = past_slot c o

  abbrev pub grp : Group
  grp = group_of (log.sector + i) o

  sh : Shape l
  sh = shape_of st

  abbrev Aim : ℕ → Bytes → Type 0
  Aim n b = Target l u new_root n b

  -- Each sector is as in u or as it is to become.
  abbrev pub Mixed : Card → Type 0
  Mixed y = (n : ℕ) → (y n ≡ u n) ⊎ Aim n (y n)

  -- A store that makes its sector so.
  abbrev Hits : Store → Type 0
  Hits s = Aim s.sector (clip s.bytes)

  pub mixed_keeps : (s : Store) → Hits s → Keeps Mixed s
  mixed_keeps s g x m n = put_case (λ b. (b ≡ u n) ⊎ Aim n b) x s n (λ e. inr (subst (λ k. Aim k (clip s.bytes)) (sym e) g)) (λ _. m n)

  -- ---- what sectors are to become

  aim_fat1 : (s n : ℕ) (b : Bytes) → s < l.fatsize → n ≡ l.fat1 + s → Aim n b → b ≡ u (l.fat2 + s)
  aim_fat1 s n b less e (Target.fat1 r k q is) = is ∙ ap (λ s. u (l.fat2 + s)) (omega (arith, sh))
  aim_fat1 s n b less e (Target.root r k q is) = absurd (omega (arith, sh))

  aim_root : (r n : ℕ) (b : Bytes) → r < l.entries / 16 → n ≡ root_place l r → Aim n b → b ≡ clip (root_sector new_root r)
  aim_root r n b less e (Target.fat1 s k q is) = absurd (omega (arith, sh))
  aim_root r n b less e (Target.root s k q is) = is ∙ ap (λ r. clip (root_sector new_root r)) (omega (arith, sh))

  aim_still : (n : ℕ) (b : Bytes) → Still l n → Aim n b → ⊥
  aim_still n b k (Target.fat1 s less e is) = k.0 s less e
  aim_still n b k (Target.root r less e is) = k.1 r less e

  pub still_fat2 : (s : ℕ) → s < l.fatsize → Still l (l.fat2 + s)
  still_fat2 s less = (λ r k e. omega (arith, sh), λ r k e. omega (arith, sh))

  pub still_data : (n : ℕ) → l.start ≤ n → Still l n
  still_data n above = (λ r k e. omega (arith, sh), λ r k e. omega (arith, sh))

  pub still_boot : Still l 0
  still_boot = (λ r k e. omega (arith, sh), λ r k e. omega (arith, sh))

  -- Every sector is one of FAT1, of the root directory, or still.
  abbrev Place : ℕ → Type 0
  Place n = ((s : ℕ) × (s < l.fatsize) × (n ≡ l.fat1 + s)) ⊎ (((r : ℕ) × (r < l.entries / 16) × (n ≡ root_place l r)) ⊎ Still l n)

  place? : (n : ℕ) → Place n
  place? n = go (less? n l.fat1) (less? n (l.fat1 + l.fatsize)) (less? n l.root) (less? n l.start)
    where
      go : (n < l.fat1) ⊎ (l.fat1 ≤ n) → (n < l.fat1 + l.fatsize) ⊎ (l.fat1 + l.fatsize ≤ n) → (n < l.root) ⊎ (l.root ≤ n)
          → (n < l.start) ⊎ (l.start ≤ n) → Place n
      go (inl a) b d e = inr (inr (λ s k q. omega (arith, sh), λ r k q. omega (arith, sh)))
      go (inr a) (inl b) d e = inl (n - l.fat1, omega (arith, sh), omega (arith, sh))
      go (inr a) (inr b) (inl d) e = inr (inr (λ s k q. omega (arith, sh), λ r k q. omega (arith, sh)))
      go (inr a) (inr b) (inr d) (inl e) = inr (inl (n - l.root, omega (arith, sh), omega (arith, sh)))
      go (inr a) (inr b) (inr d) (inr e) = inr (inr (still_data n e))

  -- ---- a mixture

  module _ (y : Card) (m : Mixed y) where
    pub still_kept : (n : ℕ) → Still l n → y n ≡ u n
    still_kept n k = ⊎_elim (λ e. e) (λ g. absurd (aim_still n (y n) k g)) (m n)

    pub fat1_near : (s : ℕ) → s < l.fatsize → (y (l.fat1 + s) ≡ c (l.fat1 + s)) ⊎ (y (l.fat1 + s) ≡ u (l.fat2 + s))
    fat1_near s less =
        ⊎_elim (λ e. inl (e ∙ h.fixed (l.fat1 + s) (Fixed.fat1 s less refl))) (λ g. inr (aim_fat1 s (l.fat1 + s) _ less refl g)) (m (l.fat1 + s))

    pub root_near : (r : ℕ) → r < l.entries / 16 → (y (root_place l r) ≡ c (root_place l r)) ⊎ (y (root_place l r) ≡ clip (root_sector new_root r))
    root_near r less =
        ⊎_elim (λ e. inl (e ∙ h.fixed (root_place l r) (Fixed.root r less refl))) (λ g. inr (aim_root r (root_place l r) _ less refl g)) (m (root_place l r))

    mixed_clipped : Clipped y
    mixed_clipped n = ⊎_elim (λ e. rw e (h.clipped n)) (λ g. go (y n) g) (m n)
      where
        go : (b : Bytes) → Aim n b → clip b ≡ b
        go b (Target.fat1 s k e is) = rw is (h.clipped (l.fat2 + s))
        go b (Target.root r k e is) = rw is (clip_clip (root_sector new_root r))

    pub slot_near : (j : ℕ) → j < 32 → (k : ℕ) → k < l.entries → Near old new_root (slot_at l y) k j
    slot_near = Edits.slot_near l c y new_root sh.whole_sectors root_near

    pub effect_same : (r : ℕ) → r < l.entries / 16 → clip (root_sector (effect o (slot_at l y)) r) ≡ clip (root_sector new_root r)
    effect_same r less = clip_same (root_sector (effect o (slot_at l y)) r) (root_sector new_root r)
        (sector_mix l c y o sh.whole_sectors (recorded_slots l.entries z o h.recorded) root_near r less)

    -- A root sector that is not concerned is as it is to become.
    byte_kept : (r : ℕ) → concerns o r ≡ false → (j : ℕ) → j < 512 → root_sector new_root r j ≡ c (root_place l r) j
    unfolding root_sector slot_at
    byte_kept r e j small =
        let row : (16 * r + j / 32) / 16 ≡ r = omega (arith, sh) in
        let col : 32 * ((16 * r + j / 32) % 16) + j % 32 ≡ j = omega (arith, sh) in
        (λ t. unconcerned o old (16 * r + j / 32) (ap (concerns o) row ∙ e) t (j % 32)) ∙ (λ t. c (root_place l (row t)) (col t))

    pub unconcerned_same : (r : ℕ) → r < l.entries / 16 → concerns o r ≡ false → y (root_place l r) ≡ clip (root_sector new_root r)
    unconcerned_same r less e =
        let same : clip (root_sector new_root r) ≡ c (root_place l r) = clip_same (root_sector new_root r) (c (root_place l r)) (byte_kept r e)
        ∙ st.clipped (root_place l r) in
        ⊎_elim (λ q. q ∙ sym same) (λ q. q) (root_near r less)

    -- ---- what is left to store

    pub root_hits : (r : ℕ) → r < l.entries / 16 → Hits (root_store l o y r)
    root_hits r less = Target.root r less refl (clip_clip (root_sector (effect o (slot_at l y)) r) ∙ effect_same r less)

    finish_hits : All Hits (finish l o y)
    finish_hits = finish_all l o y Hits
        (λ s less. Target.fat1 s less refl (clip_clip (y (l.fat2 + s)) ∙ ap (λ (b : Bytes). clip b) (still_kept (l.fat2 + s) (still_fat2 s less)) ∙
        h.clipped (l.fat2 + s))) root_hits

    pub finish_keeps : All (Keeps Mixed) (finish l o y)
    finish_keeps = all_map Hits (Keeps Mixed) mixed_keeps (finish l o y) finish_hits

    abbrev done : Card
    done = after (finish l o y) y

    pub done_mixed : Mixed done
    done_mixed = after_keeps Mixed (finish l o y) finish_keeps y m

    -- A sector is at the end what every store of it makes it, if one is made or it is so already.
    done_at : (n : ℕ) (b : Bytes) → ((a : Bytes) → Aim n a → a ≡ b) → Covers n (finish l o y) ⊎ (y n ≡ b) → done n ≡ b
    done_at n b aim k = after_is n b (finish l o y) y
        (all_map Hits (λ s. n ≡ s.sector → clip s.bytes ≡ b) (λ s g e. aim (clip s.bytes) (subst (λ i. Aim i (clip s.bytes)) (sym e) g))
        (finish l o y) finish_hits) k

    pub done_fat1 : (s : ℕ) → s < l.fatsize → done (l.fat1 + s) ≡ u (l.fat2 + s)
    done_fat1 s less =
        let same : clip (y (l.fat2 + s)) ≡ clip (y (l.fat1 + s)) → y (l.fat1 + s) ≡ u (l.fat2 + s) =
        λ e. sym (mixed_clipped (l.fat1 + s)) ∙ sym e ∙ mixed_clipped (l.fat2 + s) ∙ still_kept (l.fat2 + s) (still_fat2 s less) in
        done_at (l.fat1 + s) (u (l.fat2 + s)) (λ a g. aim_fat1 s (l.fat1 + s) a less refl g)
        (⊎_elim (λ k. inl k) (λ e. inr (same e)) (finish_fat l o y s less))

    pub done_root : (r : ℕ) → r < l.entries / 16 → done (root_place l r) ≡ clip (root_sector new_root r)
    done_root r less = done_at (root_place l r) (clip (root_sector new_root r)) (λ a g. aim_root r (root_place l r) a less refl g)
        (⊎_elim (λ k. inl (finish_root l o y r less k)) (λ k. inr (unconcerned_same r less k)) (told (concerns o r)))

  pub start_mixed : Mixed u
  start_mixed n = inl refl

  -- The card when all but the mark is stored.
  abbrev pub complete : Card
  complete = after (finish l o u) u

  pub finish_whole : (y : Card) (m : Mixed y) → after (finish l o y) y ≡ complete
  finish_whole y m = fun_ext (λ n. go n (place? n))
    where
      go : (n : ℕ) → Place n → done y m n ≡ complete n
      go n (inl (s, less, e)) = rw e (done_fat1 y m s less ∙ sym (done_fat1 u start_mixed s less))
      go n (inr (inl (r, less, e))) = rw e (done_root y m r less ∙ sym (done_root u start_mixed r less))
      go n (inr (inr k)) = still_kept (done y m) (done_mixed y m) n k ∙ sym (still_kept complete (done_mixed u start_mixed) n k)
