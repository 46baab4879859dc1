-- What a copy into a lent buffer leaves.
use Rattle.std.specs.Prelude.{ℕ, ◌+◌, ◌*◌, ◌≡◌, List, ◌&&◌, leb, get_or, length}
use Rattle.model.specs.Bytes.{pick, bytes_of, overlay}
use Rattle.model.specs.Sector.{Card}
use Rattle.model.specs.Root.{slot_at, listed}
use Rattle.model.specs.Scan.{indices}
use Rattle.model.specs.declared.Layout.{Layout}

-- The listed ones among the first n slots.
abbrev pub shown_to : Layout → Card → ℕ → List ℕ
shown_to l c n = indices (λ k. listed (slot_at l c k)) n

-- Slot k is put after n others, where it is listed and fits.
pub record Listed (l : Layout) (c : Card) (k n : ℕ) (entry exit : List ℕ) (count : ℕ) : Type 0 where
  pub counted : count ≡ n + pick (listed (slot_at l c k)) 1 0
  pub bytes : (i : ℕ) → get_or exit i 0
      ≡ pick (listed (slot_at l c k) && leb (32 * n + 32) (length entry)) (overlay 32 (slot_at l c k) (32 * n) (bytes_of entry) i) (get_or entry i 0)
