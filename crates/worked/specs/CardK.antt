-- Card K of the worked example, and what is observed of the cards that calls on it leave.
use Rattle.std.specs.Prelude.{ℕ, ◌*◌, List, [], ◌∷◌, map, ◌||◌, ltb, eqb}
use Rattle.model.specs.Bytes.{Bytes, Span, view, pick, zeros}
use Rattle.model.specs.Sector.{Card, Window, Store, clip, after}
use Rattle.model.specs.Boot.{layout}
use Rattle.model.specs.Fat.{fat1_of}
use Rattle.model.specs.Root.{find, file_at}
use Rattle.model.specs.Record.{r_from}
use Rattle.model.specs.declared.Layout.{Layout}
use Rattle.model.specs.declared.File.{File}
use Rattle.operations.specs.Plan.{clusters_of}
use Rattle.operations.specs.Calls.{Call, plan, name_of}
use Rattle.operations.specs.Outcome.{made, largest}
use Rattle.formatting.specs.Fresh.{with_fats, write_fields, wide_fat, log_mark}

-- A FAT sector in which clusters 2 to 9 are the log.
unfoldable pub log_fat : Bytes
log_fat = wide_fat 2 (log_mark 8) 0

-- "Card K: 1 reserved sector, 1 sector per cluster, 16 per FAT, 512 root entries, 4,150 sectors; FAT1 at sector 1, FAT2 at 17, root at
-- 33, data at 65; log clusters 2 to 9; otherwise empty": fields and log as in a fresh card, without jump, media byte and entries 0 and 1.
-- The number of sectors is left open. A sector is a function of its
-- 512 bytes, as in the window of a slice.
unfoldable pub card_k : ℕ → Card
card_k total s = clip (pick (eqb s 0) (write_fields (with_fats total 1 16) zeros) (pick (eqb s 1 || eqb s 17) log_fat zeros))

unfoldable pub window_k : ℕ → Window
window_k total = record { size = 512 * total; card = card_k total }

unfoldable pub k : Window
k = window_k 4150

-- ROUTE.CUT, and a name of one letter.
unfoldable pub route : Span
route = view (82 ∷ 79 ∷ 85 ∷ 84 ∷ 69 ∷ 32 ∷ 32 ∷ 32 ∷ 67 ∷ 85 ∷ 84 ∷ [])

unfoldable pub letter : ℕ → Span
letter b = view (b ∷ 32 ∷ 32 ∷ 32 ∷ 32 ∷ 32 ∷ 32 ∷ 32 ∷ 32 ∷ 32 ∷ 32 ∷ [])

-- The moments of the calls, in seconds since 1980 began: 10:15:30 and 16:40:07 on 17 November 2026, 17,122 days after. The date is
-- 46 * 512 + 11 * 32 + 17, 0x5D71; the times are 10 * 2048 + 15 * 32 + 15, 0x51EF, and 16 * 2048 + 40 * 32 + 3, 0x8503.
abbrev pub morning : ℕ
morning = 1479377730

abbrev pub afternoon : ℕ
afternoon = 1479400807

abbrev pub span : ℕ → Bytes → Span
span n b = record { size = n; byte = b }

-- ROUTE.CUT as a card has it: its size and its chain.
pub data Seen : Type 0 where
  absent : Seen
  file : (size : ℕ) (chain : List ℕ) → Seen

unfoldable pub seen_file : Layout → Card → File → Seen
seen_file l c f = file f.size (clusters_of l (fat1_of l c) f)

unfoldable pub seen_at : Layout → Card → ℕ → Seen
seen_at l c s = pick (ltb s l.entries) (seen_file l c (file_at l c s)) absent

unfoldable pub seen_in : Layout → Card → Seen
seen_in l c = seen_at l c (find l c (name_of route))

unfoldable pub seen : Card → Seen
seen c = seen_in (layout (c 0)) c

-- What a call did: the sectors it stored, DIR_Cluster in the last of them (the log sector), and ROUTE.CUT after it.
pub record Row : Type 0 where
  pub sectors : List ℕ
  pub dir_cluster : ℕ
  pub seen_after : Seen

abbrev pub row : List ℕ → ℕ → Seen → Row
row ss k f = record { sectors = ss; dir_cluster = k; seen_after = f }

unfoldable pub last_from : List Store → ℕ
last_from [] = 0
last_from (s ∷ []) = r_from s.bytes
last_from (s ∷ (t ∷ ss)) = last_from (t ∷ ss)

unfoldable pub row_of : List Store → Card → Row
row_of ss c = row (map (λ s. s.sector) ss) (last_from ss) (seen c)

-- What `see` makes of the stores of each of the calls and of the card after it. They are made one after the other on cards that `on` gives again,
-- each with the largest limit.
unfoldable pub step : {R : Type 0} → (List Store → Card → R) → List Store → ℕ → Card → (Window → List R) → List R
step see ss n c rest = see ss c ∷ rest (record { size = n; card = c })

unfoldable pub trace_on : {R : Type 0} → (List Store → Card → R) → (Card → Card) → List Call → Window → List R
trace_on see on [] w = []
trace_on see on (x ∷ xs) w =
    let ss = made largest (plan x w) in
    step see ss w.size (on (after ss w.card)) (λ w'. trace_on see on xs w')

-- A row for each of the calls.
unfoldable pub trace : List Call → Window → List Row
trace xs w = trace_on row_of (λ c. c) xs w
