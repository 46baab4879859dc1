-- One sector of a FAT: with an entry changed, and stored where it differs.
use Rattle.std.specs.Prelude.{ℕ, not, List, [], ◌∷◌, eqb, ltb}
use Rattle.model.specs.Bytes.{Bytes, pick, zeros}
use Rattle.model.specs.Sector.{Card, Store, store, card_of}
use Rattle.model.specs.Fat.{Fat, fat1_of, set_entry, same}
use Rattle.model.specs.declared.Layout.{Layout}

-- Cluster k leads to v; no cluster where k is 0.
unfoldable pub lead : ℕ → ℕ → Fat → Fat
lead k v f = pick (eqb k 0) f (set_entry k v f)

-- The store of a sector that is to become `new`, where it differs from `old`.
unfoldable pub renewal : ℕ → Bytes → Bytes → List Store
renewal at new old = pick (not (same new old)) (store at new ∷ []) []

-- The sectors of FAT1, and none past its end: it stays the same while FAT2 is stored.
unfoldable pub sectors_of : Layout → Card → Fat
sectors_of l c s = pick (ltb s l.fatsize) (fat1_of l c s) zeros

abbrev pub own_fat : Layout → List ℕ → Fat
own_fat l xs = sectors_of l (card_of xs)
