-- The worked example as one statement: rows M1 to M10, and the other facts that stand with them. Appended bytes are arbitrary.
use Rattle.std.specs.Prelude.{ℕ, ◌+◌, ◌-◌, ◌*◌, ◌≡◌, List, [], ◌∷◌, map, get_or, replicate}
use Rattle.model.specs.Bytes.{Bytes, patch, zeros}
use Rattle.model.specs.Scan.{range}
use Rattle.model.specs.Sector.{Card, Window, Store, store, clip, put, after}
use Rattle.model.specs.Boot.{layout}
use Rattle.model.specs.Root.{slot_at, file_size}
use Rattle.model.specs.Ground.{Answer, refused, granted}
use Rattle.model.specs.Volume.{mount, clean}
use Rattle.model.specs.Text.{ascii}
use Rattle.model.specs.Listing.{log_text}
use Rattle.model.specs.declared.Volume.{Volume}
use Rattle.model.specs.Outcome.{Outcome, Done, Stopped}
use Rattle.model.specs.declared.Pending.TheVariants as Pending
use Rattle.model.specs.declared.Ground.TheVariants as Ground
use Rattle.operations.specs.Program.{Program}
use Rattle.operations.specs.Calls.{Call, creates, appends, truncates, deletes, renames, recovers, plan}
use Rattle.operations.specs.Outcome.{outcome, made, left, largest}
use Rattle.formatting.specs.Fresh.{with_fats, write_fields}
use Rattle.worked.specs.CardK.{k, window_k, route, letter, morning, afternoon, span, trace, Row, row, Seen, file, absent, seen}

-- M1: card K is clean, with its regions and its log where they should be.
abbrev pub volume_k : Volume
volume_k = record {
  layout = record {
    factor = 1;
    fatsize = 16;
    fat1 = 1;
    fat2 = 17;
    root = 33;
    entries = 512;
    start = 65;
    total = 4150;
    clusters = 4085;
  };
  log = record { sector = 65; sectors = 8 };
  pending = Pending.Nothing;
}

-- The calls of M3, M4, M7, M8 and M9, then four creates: the last is the ninth group, M10.
abbrev pub calls : Bytes → Bytes → List Call
calls d e =
    creates route morning ∷ appends route (span 1300 d) afternoon ∷ appends route (span 100 e) afternoon ∷ truncates route 512 afternoon ∷ deletes route
    ∷ creates (letter 65) afternoon ∷ creates (letter 66) afternoon ∷ creates (letter 67) afternoon ∷ creates (letter 68) afternoon ∷ []

-- For each the sectors stored, in order; DIR_Cluster; and the size and chain of ROUTE.CUT after it.
abbrev pub rows : List Row
rows =
    row (65 ∷ 33 ∷ 65 ∷ []) 0 (file 0 [])
    ∷ row (73 ∷ 74 ∷ 75 ∷ 17 ∷ 66 ∷ 1 ∷ 33 ∷ 66 ∷ []) 10 (file 1300 (10 ∷ 11 ∷ 12 ∷ []))
    ∷ row (75 ∷ 67 ∷ 33 ∷ 67 ∷ []) 0 (file 1400 (10 ∷ 11 ∷ 12 ∷ []))
    ∷ row (17 ∷ 68 ∷ 1 ∷ 33 ∷ 68 ∷ []) 11 (file 512 (10 ∷ []))
    ∷ row (17 ∷ 69 ∷ 1 ∷ 33 ∷ 69 ∷ []) 0 absent
    ∷ row (70 ∷ 33 ∷ 70 ∷ []) 0 absent
    ∷ row (71 ∷ 33 ∷ 71 ∷ []) 0 absent
    ∷ row (72 ∷ 33 ∷ 72 ∷ []) 0 absent
    ∷ row (72 ∷ 71 ∷ 70 ∷ 69 ∷ 68 ∷ 67 ∷ 66 ∷ 65 ∷ 65 ∷ 33 ∷ 65 ∷ []) 0 absent
    ∷ []

-- The window after M3, and M4's call on it.
abbrev pub k3 : Window
k3 = left largest (creates route morning) k

abbrev pub m4 : Bytes → Call
m4 d = appends route (span 1300 d) afternoon

-- The bytes of store i of a list, from an offset to the end of the sector.
abbrev pub tail_of : List Store → ℕ → ℕ → List ℕ
tail_of ss i at = map (get_or ss i (store 0 zeros)).bytes (range at (512 - at))

-- A call cut by a limit and recovered: how the cut call ends, the sectors that the recovery stores and how it ends, ROUTE.CUT then.
pub record CutRow : Type 0 where
  pub cut : Outcome
  pub stored : List ℕ
  pub recovered : Outcome
  pub file_then : Seen

-- Each plan is an argument, so that it is computed once.
unfoldable pub recovery_row : Outcome → Answer Program → Card → CutRow
recovery_row end p c =
    let ss = made largest p in
    record { cut = end; stored = map (λ s. s.sector) ss; recovered = outcome largest p; file_then = seen (after ss c) }

unfoldable pub cut_row : ℕ → Answer Program → Window → CutRow
cut_row limit p before =
    let c = after (made limit p) before.card in
    recovery_row (outcome limit p) (plan recovers (record { size = before.size; card = c })) c

abbrev pub cut_at : ℕ → Call → Window → CutRow
cut_at limit call before = cut_row limit (plan call before) before

-- The window after M4, and root slot 1 once a rename of ROUTE.CUT on it is cut after its root store and recovered: its size, and its dates.
abbrev pub k4 : Bytes → Window
k4 d = left largest (m4 d) k3

abbrev pub renamed_slot : Bytes → Bytes
renamed_slot d = slot_at volume_k.layout (left largest recovers (left 2 (renames route (letter 66)) (k4 d))).card 1

-- "creation tenths 13, creation time 14, creation date 16, access date 18, cluster high word 20, write time 22, write date 24" of an entry.
abbrev pub dates_in : Bytes → List ℕ
dates_in b = map b (range 13 13)

-- A window in which the size in root slot 0 is that of four clusters.
unfoldable pub stretched : Window → Window
stretched w = record { size = w.size; card = put w.card (store 33 (patch 4 2048 28 (w.card 33))) }

-- A window that begins with a boot sector with 1 sector per cluster, 256 sectors per FAT and this many clusters.
abbrev pub large : ℕ → Window
large clusters =
    let total = 1 + 512 + 32 + clusters in
    record { size = 512 * total; card = λ s. clip (write_fields (with_fats total 1 256) zeros) }

pub record Worked (d e : Bytes) : Type 0 where
  -- "M1: 4,085 clusters, accepted. M2: 4,149 sectors, BOOT."
  pub m1 : clean k ≡ granted volume_k
  pub m2 : clean (window_k 4149) ≡ refused Ground.Boot
  -- M3, M4, M7, M8, M9, M10
  pub history : trace (calls d e) k ≡ rows
  -- "sector 75 ends in 236 zeros": the third store of M4, from its last new byte on
  pub m4_zeros : tail_of (made largest (plan (m4 d) k3)) 2 275 ≡ d 1299 ∷ replicate 236 0
  -- "M5: limit 4 in M4, recovered: size 0. M6: limit 5: size 1,300."
  pub m5 : cut_at 4 (m4 d) k3 ≡ record { cut = Stopped 4; stored = 17 ∷ []; recovered = Done 1; file_then = file 0 [] }
  pub m6 : cut_at 5 (m4 d) k3 ≡ record { cut = Stopped 5; stored = 1 ∷ 33 ∷ 66 ∷ []; recovered = Done 3; file_then = file 1300 (10 ∷ 11 ∷ 12 ∷ []) }
  -- M7 cut after its group's store, where the FATs agree: recovery stores the root, and the first cluster stays
  pub m7_cut : cut_at 2 (appends route (span 100 e) afternoon) (k4 d)
      ≡ record { cut = Stopped 2; stored = 33 ∷ 67 ∷ []; recovered = Done 2; file_then = file 1400 (10 ∷ 11 ∷ 12 ∷ []) }
  -- A rename may be redone after its root store: the new slot has the old one's size, and its dates, which M3 and M4 gave
  pub rename_cut : file_size (renamed_slot d) ≡ 1300
  pub rename_dates : dates_in (renamed_slot d) ≡ 0 ∷ 0xEF ∷ 0x51 ∷ 0x71 ∷ 0x5D ∷ 0x71 ∷ 0x5D ∷ 0 ∷ 0 ∷ 0x03 ∷ 0x85 ∷ 0x71 ∷ 0x5D ∷ []
  -- "Judging a chain by its end mark alone hands the loader old points": the chain of M4 ends after three clusters
  pub short_chain : plan (deletes route) (stretched (k4 d)) ≡ refused Ground.Chain
  -- "65,524 clusters accepted, 65,525 BOOT; truncate to size + 1, LENGTH."
  pub largest_card : (mount (large 65524) ≡ granted (layout ((large 65524).card 0))) × ((layout ((large 65524).card 0)).clusters ≡ 65524)
  pub too_large : (mount (large 65525) ≡ refused Ground.Boot) × ((layout ((large 65525).card 0)).clusters ≡ 65525)
  pub longer : plan (truncates route 1301 afternoon) (left largest (m4 d) k3) ≡ refused Ground.Length
  -- "M3's sector 65 after its first store gives, whole:", with the line that it gained; and after its third store, committed.
  pub listing : log_text (span 512 (get_or (made largest (plan (creates route morning) k)) 0 (store 0 zeros)).bytes)
      ≡ ascii "log 1 sectors\n0 0 create pending ROUTE.CUT slot 0 first 0 from 0 size 0\n0 1 part pending T???????.??? slot 0 first 0 from 0 size 0\n"
  pub listing_then : log_text (span 512 (get_or (made largest (plan (creates route morning) k)) 2 (store 0 zeros)).bytes)
      ≡ ascii "log 1 sectors\n0 0 create committed ?OUTE.CUT slot 0 first 0 from 0 size 0\n0 1 part committed ????????.??? slot 0 first 0 from 0 size 0\n"
