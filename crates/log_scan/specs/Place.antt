-- A log table lent as a slice, the place of a record in it, and what the first pending record begins.
use Rattle.std.specs.Prelude.{ℕ, ◌+◌, ◌*◌, ◌/◌, ◌%◌, ◌≤◌, ◌<◌, ◌≡◌, List, length, ltb, Option, Some, None}
use Rattle.model.specs.Bytes.{pick}
use Rattle.model.specs.Sector.{Card, card_of}
use Rattle.model.specs.Log.{Log, log_of}
use Rattle.model.specs.Pending.{accepted, seen_end}
use Rattle.model.specs.declared.Layout.{Layout}
use Rattle.model.specs.declared.Area.{Area}
use Rattle.model.specs.declared.Pending.{Pending}
use Rattle.log_scan.specs.declared.Place.{Place}

-- The slice holds the sectors of a log.
pub record Lent (a : Area) (xs : List ℕ) : Type 0 where
  pub whole : length xs ≡ 512 * a.sectors
  pub few : a.sectors ≤ 128
  pub ends : a.sector + a.sectors < 4294967296

-- It is a log's part of a window.
pub record Table (a : Area) (window xs : List ℕ) : Type 0 where
  pub whole : length xs ≡ 512 * a.sectors
  pub same : (s : ℕ) → s < a.sectors → card_of xs s ≡ log_of a (card_of window) s

-- Record i of a table of n sectors, as sector and record.
unfoldable pub place_of : ℕ → ℕ → Option Place
place_of i n = pick (ltb i (16 * n)) (Some (record { sector = i / 16; number = i % 16 })) None

-- Record i of a table, the first pending one, begins a group or records that RECORD refuses.
unfoldable pub judged : ℕ → ℕ → Area → Log → ℕ → Pending
judged entries z a g i =
    pick (accepted entries z a.sectors g i) (Pending.Held (a.sector + i / 16)) Pending.Broken

-- The lowest slot beginning 0 of a card, as RECORD reads it for the group of the record at a place of its log.
abbrev pub Seen : Layout → Area → Card → Option Place → ℕ → Type 0
Seen l a c None z = Unit {0}
Seen l a c (Some p) z = z ≡ seen_end l c (log_of a c p.sector)
