-- The log: where it lies, its table, and its lowest unused sector.
use Rattle.std.specs.Prelude.{ℕ, ◌+◌, ◌*◌, [], ◌∷◌, Bool, leb, eqb}
use Rattle.model.specs.Bytes.{Bytes}
use Rattle.model.specs.Scan.{every, first, first_from, count_from, all_from}
use Rattle.model.specs.Sector.{Card}
use Rattle.model.specs.Fat.{Fat, entry, is_reserved}
use Rattle.model.specs.Chain.{cluster_sector}
use Rattle.model.specs.declared.Layout.{Layout}
use Rattle.model.specs.declared.Area.{Area}
use Rattle.model.specs.declared.Run.{Run}

-- "consecutive clusters marked 0xFFF6 in FAT1": the lowest of those marked, and how many there are.
abbrev pub marked : Fat → ℕ → Bool
marked f k = is_reserved (entry f k)

unfoldable pub run : Layout → Fat → Run
run l f = record { start = first_from (marked f) 2 l.clusters; size = count_from (marked f) 2 l.clusters }

-- "at most 128 sectors"
abbrev pub most_sectors : ℕ
most_sectors = 128

-- "The log is the only run".
unfoldable pub run_ok : Layout → Fat → Run → Bool
run_ok l f r = every (leb 1 r.size ∷ leb (r.size * l.factor) most_sectors ∷ all_from (marked f) r.start r.size ∷ [])

unfoldable pub area : Layout → Run → Area
area l r = record { sector = cluster_sector l r.start; sectors = r.size * l.factor }

-- The log table: its sectors, counted from its first. "The scan is given the log table as a part of the window and nothing
-- else", so what is read of a log is a function of this.
abbrev pub Log : Type 0
Log = ℕ → Bytes

abbrev pub log_of : Area → Card → Log
log_of a c s = c (a.sector + s)

-- "the lowest log sector whose first byte is 0", of n; n where there is none.
unfoldable pub unused : ℕ → Log → ℕ
unused n g = first (λ s. eqb (g s 0) 0) n
