-- What a format leaves: a card as asked for; while it is under way, one that every other call refuses; begun again, the same card.
use Rattle.std.specs.Prelude.{ℕ, ◌+◌, ◌*◌, ◌≤◌, ◌<◌, ◌≡◌, ◌⊎◌, false, leb, length}
use mathlib.Core.List.{List, [], ◌∷◌, Memᴰ}
use Rattle.model.specs.Bytes.{Bytes, Span}
use Rattle.model.specs.Sector.{Window, Store, after}
use Rattle.model.specs.Boot.{fields, arrange, fat_holds}
use Rattle.model.specs.Fat.{fat1_of, entry, is_free}
use Rattle.model.specs.Ground.{refused, granted}
use Rattle.model.specs.Volume.{examine, clean}
use Rattle.model.specs.declared.Volume.{Volume}
use Rattle.model.specs.Outcome.{Done}
use Rattle.model.specs.declared.Ground.TheVariants as Ground
use Rattle.operations.specs.Program.{Program, stores}
use Rattle.operations.specs.Calls.{Call, plan}
use Rattle.operations.specs.Outcome.{outcome, leaves, largest}
use Rattle.operations.specs.Reading.{read, list, long_name, filled_outcome, buffer_after}
use Rattle.operations.specs.Fitting.{fits}
use Rattle.formatting.specs.Fresh.{with_fats, fresh_fields, fresh_entry}
use Rattle.formatting.specs.Format.{fresh_volume, format}
use Rattle.safety.specs.Sound.{Sound}
use Rattle.safety.specs.Cuts.{Cut}
use Rattle.safety.specs.Demand3.{Genuine}

-- "It is given total sectors, sectors per cluster and log clusters": the card of a volume is of this form.
pub record AsAsked (total factor n : ℕ) (v : Volume) : Type 0 where
  pub sectors : v.layout.total ≡ total
  pub per_cluster : v.layout.factor ≡ factor
  -- "1 reserved sector, 512 root entries"
  pub reserved : v.layout.fat1 ≡ 1
  pub entries : v.layout.entries ≡ 512
  -- "2 FATs of the fewest sectors that hold clusters + 2 entries": no smaller number of them does. (That these do, BOOT asks.)
  pub fewest_sectors : (g : ℕ) → 1 ≤ g → g < v.layout.fatsize → fat_holds (arrange (with_fats total factor g)) ≡ false
  -- "the log in the clusters from 2 on"
  pub log_first : v.log.sector ≡ v.layout.start
  pub log_sectors : v.log.sectors ≡ n * factor

-- A window that is formatted by the stores of p.
pub record Formatted (w : Window) (total factor n : ℕ) (p : Program) : Type 0 where
  -- With the largest limit the call ends.
  pub ends : outcome largest (format w total factor n) ≡ Done (length (stores p))
  -- Every store is within the card, the card within the window.
  pub within : (s : Store) → Memᴰ s (stores p) → s.sector < total
  pub holds : 512 * total ≤ w.size
  -- The finished card is clean, and as asked.
  pub is_clean : clean (leaves largest (format w total factor n) w) ≡ granted (fresh_volume (fresh_fields total factor) n)
  pub as_asked : AsAsked total factor n (fresh_volume (fresh_fields total factor) n)
  -- It is sound.
  pub is_sound : Sound (arrange (fresh_fields total factor)) (leaves largest (format w total factor n) w).card
  -- It lists no file: none is counted, and no byte of a buffer is touched.
  pub none_listed : (room : ℕ) → filled_outcome (list (leaves largest (format w total factor n) w) room) ≡ Done 0
  pub none_copied : (room : ℕ) (b : Bytes) (i : ℕ) → buffer_after (list (leaves largest (format w total factor n) w) room) b i ≡ b i
  -- Every cluster but the log's is free.
  pub free_clusters : (k : ℕ) → 2 ≤ k → k < 2 + (arrange (fresh_fields total factor)).clusters
      → is_free (entry (fat1_of (arrange (fresh_fields total factor)) (leaves largest (format w total factor n) w).card) k) ≡ leb (2 + n) k
  -- A window of bytes stays one, under any limit: so all that is promised of calls on a clean card holds of calls on this one.
  pub genuine : (limit : ℕ) → Genuine w → Genuine (leaves limit (format w total factor n) w)

abbrev pub FormatFinished : Type 0
FormatFinished = (w : Window) (total factor n : ℕ) (p : Program) → format w total factor n ≡ granted p → Formatted w total factor n p

-- Every other call refuses the window as BOOT.
pub record Unusable (x : Window) : Type 0 where
  pub calls : (k : Call) → plan k x ≡ refused Ground.Boot
  pub reads : (n : Span) (offset room : ℕ) → read x n offset room ≡ refused Ground.Boot
  pub lists : (room : ℕ) → list x room ≡ refused Ground.Boot
  pub long_names : (n : Span) (room : ℕ) → long_name x n room ≡ refused Ground.Boot
  pub fits_bytes : (bytes : ℕ) → fits x bytes ≡ refused Ground.Boot

-- "Cut between the first store and the last, all other calls refuse the card with BOOT."
abbrev pub FormatCut : Type 0
FormatCut = (w : Window) (total factor n : ℕ) (p : Program) → format w total factor n ≡ granted p
    → (limit : ℕ) → 1 ≤ limit → limit < length (stores p) → Unusable (leaves limit (format w total factor n) w)

-- The same on a card that holds stores back, but lets none pass a store of the boot sector: nothing has happened, or the card is refused so, or
-- the format is finished.
abbrev pub FormatHeldBack : Type 0
FormatHeldBack = (w : Window) (total factor n : ℕ) (p : Program) → format w total factor n ≡ granted p → (zs : List Store) → Cut p zs
    → (zs ≡ []) ⊎ (Unusable (record { size = w.size; card = after zs w.card }) ⊎ (zs ≡ stores p))

-- A format begun again, however often it was cut before, answers the same and ends with the same card, to the last byte.
abbrev pub formats : ℕ → ℕ → ℕ → List ℕ → Window → Window
formats total factor n [] w = w
formats total factor n (limit ∷ limits) w = formats total factor n limits (leaves limit (format w total factor n) w)

abbrev pub FormatAgain : Type 0
FormatAgain = (w : Window) (total factor n : ℕ) (limits : List ℕ)
    → (format (formats total factor n limits w) total factor n ≡ format w total factor n)
    × (leaves largest (format w total factor n) (formats total factor n limits w) ≡ leaves largest (format w total factor n) w)

-- A card of the form: the fields of its boot sector, and the entries of its clusters in FAT1.
pub record OfForm (total factor n : ℕ) (x : Window) : Type 0 where
  pub numbers : fields (x.card 0) ≡ fresh_fields total factor
  pub marks : (k : ℕ) → 2 ≤ k → k < 2 + (arrange (fresh_fields total factor)).clusters
      → entry (fat1_of (arrange (fresh_fields total factor)) x.card) k ≡ fresh_entry n k

-- "SIZE, no card of this form with the given numbers would pass BOOT and LOGAREA".
abbrev pub SizeRefused : Type 0
SizeRefused = (w : Window) (total factor n : ℕ) → format w total factor n ≡ refused Ground.Size
    → (x : Window) → OfForm total factor n x → (v : Volume) → examine x ≡ granted v → ⊥
