-- Laws of root stores: what they read and leave alone; the stores of steps 4 to 6.
use Prim.Native.Nat.{ℕ, ◌+◌, ◌*◌, ◌/◌, ◌%◌, ◌<◌, ◌≤◌}
use native.Mathlib.Omega.{arith}
use mathlib.Core.Path.{◌≡◌, refl, sym, ap, ◌∙◌}
use mathlib.Core.List.{List, [], ◌∷◌, ◌++◌, append_assoc}
use lib.Dec.{ltb}
use Rattle.model.specs.Bytes.{Bytes, part}
use Rattle.model.specs.Sector.{Card, Store, store}
use Rattle.model.specs.Root.{Directory, root_place, slot_at}
use Rattle.model.specs.declared.Layout.{Layout}
use Rattle.model.specs.Fat.{fat1_of, fat2_of, write_fat}
use Rattle.model.specs.Record.{Change, Group, commit}
use Rattle.model.specs.Pending.{fills}
use Rattle.model.proofs.Tests.{by_pick}
use Rattle.model.proofs.All.{All}
use Rattle.model.proofs.Cards.{Away, store_same}
use Rattle.model.proofs.Turns.{map_away, map_same}
use Rattle.operations.specs.Finish.{Edit, set_slots, edits, effect, Slots, root_sector, concerns, root_stores, finish, rising, redo}
use Rattle.operations.specs.Program.{stores}

-- Directories with the same slots below n have them also after the same edits of such.
set_slots_same : (n : ℕ) (es : List Edit) (d f : Directory) → ((k : ℕ) → k < n → d k ≡ f k) → All (λ e. (e.slot < n) × (e.source < n)) es
    → (k : ℕ) → k < n → set_slots es d k ≡ set_slots es f k
unfolding set_slots
set_slots_same n [] d f h w k less = h k less
set_slots_same n (e ∷ es) d f h w k less = rw (h e.source w.0.1, set_slots_same n es d f h w.1 k less)

-- Cards that have a slot's sector in common have the slot.
pub slot_same : (l : Layout) (c d : Card) (k : ℕ) → c (root_place l (k / 16)) ≡ d (root_place l (k / 16)) → slot_at l c k ≡ slot_at l d k
unfolding slot_at
slot_same l c d k e = ap (λ (b : Bytes). part b (32 * (k % 16))) e

-- Root stores read only root sectors, and store only there.
pub root_stores_same : (l : Layout) (o : Change) (c d : Card) → l.entries % 16 ≡ 0 → Slots l.entries o
    → ((r : ℕ) → r < l.entries / 16 → c (root_place l r) ≡ d (root_place l r)) → root_stores l o c ≡ root_stores l o d
unfolding root_stores effect root_sector
root_stores_same l o c d whole fit h =
    map_same (sector_of c) (sector_of d) (concerns o) (l.entries / 16)
    (λ r less. store_same (root_place l r) (bytes_in c r) (bytes_in d r) (λ j b. same_byte r j less b))
  where
    bytes_in : Card → ℕ → Bytes
    bytes_in x r = root_sector (effect o (slot_at l x)) r

    sector_of : Card → ℕ → Store
    sector_of x r = store (root_place l r) (bytes_in x r)

    slots : (k : ℕ) → k < l.entries → slot_at l c k ≡ slot_at l d k
    slots k less = slot_same l c d k (h (k / 16) (omega arith))

    same_byte : (r j : ℕ) → r < l.entries / 16 → j < 512 → bytes_in c r j ≡ bytes_in d r j
    same_byte r j less b = ap (λ (x : Bytes). x (j % 32))
        (set_slots_same l.entries (edits o) (slot_at l c) (slot_at l d) slots fit (16 * r + j / 32) (omega arith))

pub root_stores_away : (l : Layout) (o : Change) (c : Card) (s : ℕ) → (l.root ≤ s → s < l.root + l.entries / 16 → ⊥) → Away (root_stores l o c) s
unfolding root_stores
root_stores_away l o c s out =
    map_away (λ r. store (root_place l r) (root_sector (effect o (slot_at l c)) r)) (concerns o) (l.entries / 16) s
    (λ k less e. out (omega arith) (omega arith))

-- ---- steps 4 to 6 as one list

rising_stores : (ys rs : List Store) (m : Store) → stores (rising ys rs m) ≡ ys ++ (rs ++ (m ∷ []))
unfolding rising
rising_stores ys [] m = refl
rising_stores ys (r ∷ rs) m = ap (λ ss. ys ++ (r ∷ ss)) (rising_stores [] rs m)

pub redo_stores : (l : Layout) (g : Group) (c : Card) → stores (redo l g c) ≡ finish l g.change c ++ (commit c g ∷ [])
unfolding redo finish
redo_stores l g c =
    let fats : List Store = write_fat l l.fat1 (fat2_of l c) (fat1_of l c) in
    let roots : List Store = root_stores l g.change c in
    by_pick (λ q. stores q ≡ (fats ++ roots) ++ (commit c g ∷ [])) (ltb 0 (fills g.change.operation)) _ _
    (λ _. rising_stores fats roots (commit c g) ∙ sym (append_assoc fats roots (commit c g ∷ []))) (λ _. refl)
