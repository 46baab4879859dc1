-- Laws of the stores that renew FAT2, sector by sector, and of what they leave alone.
use Prim.Native.Nat.{ℕ, ◌+◌, ◌*◌, ◌/◌, ◌%◌, ◌<◌, ◌≤◌}
use native.Mathlib.Omega.{arith}
use mathlib.Core.Path.{◌≡◌, refl, sym, ap, ◌∙◌, fun_ext}
use mathlib.Core.Logic.{⊎_elim}
use mathlib.Core.Bool.{Bool, true, false, not}
use mathlib.Core.List.{List, [], ◌∷◌}
use lib.ListN.{length, get_or, set, length-set}
use lib.Dec.{eqb}
use borrow.Author.Tests.{lt-ltb, le-ltb, ne_eqb}
use Rattle.model.specs.Bytes.{Bytes, bytes_of, byte_of, overlay, patch, pick}
use Rattle.model.specs.Sector.{Card, Store, store, card_of, clip}
use Rattle.model.specs.Fat.{Fat, entry, fat1_of, fat2_of, same, write_fat, set_entry}
use Rattle.std.proofs.Common.{Result}
use Rattle.model.specs.Promises.{Spent, up_to, Shape}
use Rattle.model.specs.declared.Stopped.{Stopped}
use Rattle.model.specs.declared.Layout.{Layout}
use Rattle.model.proofs.Tests.{less?, by_pick}
use Rattle.model.proofs.Scan.{all_same}
use Rattle.model.proofs.Overlays.{overlay_none, overlay_more}
use Rattle.model.proofs.Cards.{store_same, clip_at, Away}
use Rattle.model.proofs.Runs.{upto_away, spent_away}
use Rattle.model.proofs.Turns.{upto_same}
use Rattle.model.proofs.Copies.{write_fat_turns}
use Rattle.model.proofs.Fats.{entry_same}
use Rattle.model.proofs.Entries.{set_here, set_local, set_away}
use Rattle.fat_copy.specs.Change.{lead, renewal, sectors_of, own_fat}

-- ---- the store of a sector

-- No store where it has the bytes; one where it has not.
pub renewal_none : (at : ℕ) (new old : Bytes) → not (same new old) ≡ false → renewal at new old ≡ []
unfolding renewal
renewal_none at new old h = rw h

pub renewal_one : (at : ℕ) (new old : Bytes) → not (same new old) ≡ true → renewal at new old ≡ store at new ∷ []
unfolding renewal
renewal_one at new old h = rw h

-- It depends on the 512 bytes alone.
pub renewal_same : (at : ℕ) (a b old : Bytes) → ((j : ℕ) → j < 512 → a j ≡ b j) → renewal at a old ≡ renewal at b old
unfolding renewal same
renewal_same at a b old h =
    rw (all_same (λ j. eqb (a j) (old j)) (λ j. eqb (b j) (old j)) 0 512 (λ j lo hi. rw (h j (omega arith))), store_same at a b h)

pub renewal_away : (at : ℕ) (new old : Bytes) (s : ℕ) → (s ≡ at → ⊥) → Away (renewal at new old) s
unfolding renewal
renewal_away at new old s ne = by_pick (λ ss. Away ss s) (not (same new old)) (store at new ∷ []) [] (λ _. (ne, tt)) (λ _. tt)

-- ---- a changed entry

pub lead_none : (k v : ℕ) (f : Fat) → k ≡ 0 → lead k v f ≡ f
unfolding lead
lead_none k v f e = rw e

pub lead_some : (k v : ℕ) (f : Fat) → eqb k 0 ≡ false → lead k v f ≡ set_entry k v f
unfolding lead
lead_some k v f e = rw e

pub lead_away : (k v : ℕ) (f : Fat) (s : ℕ) → (s ≡ k / 256 → ⊥) → lead k v f s ≡ f s
unfolding lead
lead_away k v f s ne = by_pick (λ (g : Fat). g s ≡ f s) (eqb k 0) f (set_entry k v f) (λ _. refl) (λ _. set_away k v f s ne)

pub lead_local : (k v : ℕ) (f g : Fat) (s j : ℕ) → f s j ≡ g s j → lead k v f s j ≡ lead k v g s j
unfolding lead
lead_local k v f g s j e = go (eqb k 0)
  where
    go : (b : Bool) → pick b f (set_entry k v f) s j ≡ pick b g (set_entry k v g) s j
    go true = e
    go false = set_local k v f g s j e

-- ---- buffers

-- The two bytes of a value, written one after the other.
pub put_pair : (b : List ℕ) (at v : ℕ) → at + 1 < length b → v < 65536 → (j : ℕ)
    → get_or (set (set b at (v % 256)) (at + 1) (v / 256)) j 0 ≡ patch 2 v at (bytes_of b) j
unfolding byte_of
put_pair b at v h small j =
    let z : at + 0 ≡ at = omega arith in
    let one : (i : ℕ) → get_or (set b at (v % 256)) i 0 ≡ overlay 1 (byte_of v) at (bytes_of b) i =
    rw z at (overlay_more (byte_of v) b b at 0 (v % 256) (omega arith) (omega arith) (λ i. sym (overlay_none (byte_of v) at (bytes_of b) i))) in
    overlay_more (byte_of v) b (set b at (v % 256)) at 1 (v / 256) (simp length-set h) (omega arith) one j

pub loaded : (r xs : List ℕ) (s : ℕ) → clip (bytes_of r) ≡ card_of xs s → (j : ℕ) → j < 512 → get_or r j 0 ≡ card_of xs s j
loaded r xs s e j h = sym (clip_at (bytes_of r) j h) ∙ ap (λ (b : Bytes). b j) e

-- A buffer that holds sector s of f, with the entry put in.
pub led : (b r : List ℕ) (f : Fat) (k v s j : ℕ) → (k ≡ 0 → ⊥) → s ≡ k / 256 → get_or b j 0 ≡ f s j → get_or r j 0 ≡ patch 2 v (2 * (k % 256)) (bytes_of b) j
    → get_or r j 0 ≡ lead k v f s j
led b r f k v s j some here held e =
    e ∙ ap (λ (b : Bytes). b j) (sym (set_here k v (λ _. bytes_of b) s here)) ∙ set_local k v (λ _. bytes_of b) f s j held
    ∙ ap (λ (g : Fat). g s j) (sym (lead_some k v f (ne_eqb k 0 some)))

-- ---- the sectors of FAT1

module _ (l : Layout) (c : Card) where
  pub own_sector : (s : ℕ) → s < l.fatsize → sectors_of l c s ≡ fat1_of l c s
  unfolding sectors_of
  own_sector s h = rw (lt-ltb s l.fatsize h)

  pub own_entry : (k : ℕ) → k < 256 * l.fatsize → entry (sectors_of l c) k ≡ entry (fat1_of l c) k
  own_entry k h = entry_same (fat1_of l c) (sectors_of l c) k (own_sector (k / 256) (omega arith))

-- ---- all sectors

-- The stores that make FAT2 the FAT `new`, by sector.
abbrev pub renewals : Layout → Fat → Fat → ℕ → List Store
renewals l new old s = renewal (l.fat2 + s) (new s) (old s)

pub write_turns : (l : Layout) (new old : Fat) → up_to (renewals l new old) l.fatsize ≡ write_fat l l.fat2 new old
unfolding renewal
write_turns l new old = sym (write_fat_turns l l.fat2 new old)

-- A FAT that has the same sectors is written by the same stores.
pub write_same : (l : Layout) (f g old : Fat) → ((s j : ℕ) → s < l.fatsize → j < 512 → f s j ≡ g s j)
    → write_fat l l.fat2 f old ≡ write_fat l l.fat2 g old
write_same l f g old h =
    sym (write_turns l f old)
    ∙ upto_same (renewals l f old) (renewals l g old) l.fatsize (λ s less. renewal_same (l.fat2 + s) (f s) (g s) (old s) (λ j b. h s j less b))
    ∙ write_turns l g old

-- What the stores so far leave alone: FAT1, and the sectors of FAT2 that come next.
module _ (l : Layout) (sh : Shape l) (new : Fat) (k : ℕ) {b left : ℕ} {e x : List ℕ} {r : Result Unit Stopped}
    (so : Spent b left (up_to (renewals l new (fat2_of l (card_of e))) k) e x r) where
  left_alone : (s : ℕ) → ((i : ℕ) → i < k → s ≡ l.fat2 + i → ⊥) → card_of x s ≡ card_of e s
  left_alone s ne =
      spent_away so s
      (upto_away (renewals l new (fat2_of l (card_of e))) k s (λ i less. renewal_away (l.fat2 + i) (new i) (card_of e (l.fat2 + i)) s (ne i less)))

  pub next_kept : (s : ℕ) → k ≤ s → card_of x (l.fat2 + s) ≡ card_of e (l.fat2 + s)
  next_kept s le = left_alone (l.fat2 + s) (λ i less q. omega arith)

  pub fat_kept : own_fat l x ≡ own_fat l e
  unfolding sectors_of
  fat_kept = fun_ext (λ s. ⊎_elim
      (λ h. rw (lt-ltb s l.fatsize h) (left_alone (l.fat1 + s) (λ i less q. omega (arith, sh.fat2_at))))
      (λ h. rw (le-ltb s l.fatsize h)) (less? s l.fatsize))
