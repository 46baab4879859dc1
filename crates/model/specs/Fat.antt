-- FATs: entries, what their values mean, a FAT with some entries changed, and the stores that write a changed FAT.
use Rattle.std.specs.Prelude.{ℕ, ◌+◌, ◌*◌, ◌/◌, ◌%◌, List, [], ◌∷◌, map, Bool, not, eqb}
use Rattle.model.specs.Bytes.{Bytes, pick, le, patch}
use Rattle.model.specs.Scan.{between, indices, indices_from, all}
use Rattle.model.specs.Sector.{Card, Store, store}
use Rattle.model.specs.declared.Layout.{Layout}
use Rattle.model.specs.declared.Class.{Class}

-- The sectors of a FAT, counted from its first.
abbrev pub Fat : Type 0
Fat = ℕ → Bytes

-- The two FATs of a card.
abbrev pub fat_at : Card → ℕ → Fat
fat_at c first s = c (first + s)

abbrev pub fat1_of : Layout → Card → Fat
fat1_of l c = fat_at c l.fat1

abbrev pub fat2_of : Layout → Card → Fat
fat2_of l c = fat_at c l.fat2

-- The value of entry k, where entries have a width in bytes; those of FAT16 have 2.
unfoldable pub wide_entry : ℕ → Fat → ℕ → ℕ
wide_entry w f k = le w (f (k / (512 / w))) (w * (k % (512 / w)))

abbrev pub entry : Fat → ℕ → ℕ
entry f k = wide_entry 2 f k

-- "0 free; 2 to clusters + 1 the next cluster; 0xFFF6 reserved; 0xFFF7 bad; 0xFFF8 to 0xFFFF end. We write 0xFFFF for the end."
abbrev pub is_free : ℕ → Bool
is_free v = eqb v 0

unfoldable pub in_range : Layout → ℕ → Bool
in_range l v = between 2 (l.clusters + 1) v

abbrev pub is_reserved : ℕ → Bool
is_reserved v = eqb v 0xFFF6

unfoldable pub is_end : ℕ → Bool
is_end v = between 0xFFF8 0xFFFF v

abbrev pub end_value : ℕ
end_value = 0xFFFF

unfoldable pub class : Layout → ℕ → Class
class l v =
    pick (is_free v) Class.Free
    (pick (in_range l v) Class.Next
    (pick (is_reserved v) Class.Reserved
    (pick (eqb v 0xFFF7) Class.Bad
    (pick (is_end v) Class.End Class.Other))))

-- The free clusters, rising.
unfoldable pub free_clusters : Layout → Fat → List ℕ
free_clusters l f = indices_from (λ k. is_free (entry f k)) 2 l.clusters

-- One entry changed.
unfoldable pub set_wide_entry : ℕ → ℕ → ℕ → Fat → Fat
set_wide_entry w k v f s = pick (eqb s (k / (512 / w))) (patch w v (w * (k % (512 / w))) (f s)) (f s)

abbrev pub set_entry : ℕ → ℕ → Fat → Fat
set_entry k v f = set_wide_entry 2 k v f

-- Each cluster of the list leads to the next, and the last ends the chain.
unfoldable pub link : List ℕ → Fat → Fat
link [] f = f
link (a ∷ []) f = set_entry a end_value f
link (a ∷ (b ∷ r)) f = link (b ∷ r) (set_entry a b f)

-- "Freed entries are 0"
unfoldable pub release : List ℕ → Fat → Fat
release [] f = f
release (a ∷ r) f = release r (set_entry a 0 f)

-- Whether two sectors hold the same bytes, and whether two FATs do.
unfoldable pub same : Bytes → Bytes → Bool
same a b = all (λ j. eqb (a j) (b j)) 512

unfoldable pub fats_agree : Layout → Card → Bool
fats_agree l c = all (λ s. same (fat1_of l c s) (fat2_of l c s)) l.fatsize

-- The sectors in which two FATs differ, rising; and those of `new` stored into the FAT that begins at a sector.
unfoldable pub differing : Layout → Fat → Fat → List ℕ
differing l f g = indices (λ s. not (same (f s) (g s))) l.fatsize

unfoldable pub write_fat : Layout → ℕ → Fat → Fat → List Store
write_fat l at new old = map (λ s. store (at + s) (new s)) (differing l new old)
