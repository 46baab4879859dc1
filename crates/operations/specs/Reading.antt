-- Read, list and the reading of a long name: what they answer, and what they leave of the lent buffer.
use Rattle.std.specs.Prelude.{ℕ, ◌+◌, ◌-◌, ◌*◌, ◌/◌, ◌%◌, min, List, not, ltb, get_or, length}
use Rattle.model.specs.Bytes.{Bytes, Span, overlay}
use Rattle.model.specs.Scan.{indices}
use Rattle.model.specs.Sector.{Card, Window}
use Rattle.model.specs.Fat.{fat1_of}
use Rattle.model.specs.Chain.{file_sector}
use Rattle.model.specs.Root.{Directory, slot_at, listed, name_ok}
use Rattle.model.specs.LongName.{long_byte, long_length}
use Rattle.model.specs.Ground.{Answer, refused, granted, ◌when◌, ◌>>=◌, ◌>>◌}
use Rattle.model.specs.Volume.{clean}
use Rattle.model.specs.declared.Layout.{Layout}
use Rattle.model.specs.declared.File.{File}
use Rattle.model.specs.declared.Volume.{Volume}
use Rattle.model.specs.declared.Access.TheVariants as Access
use Rattle.model.specs.declared.Ground.TheVariants as Ground
use Rattle.model.specs.Outcome.{Outcome, Refused, Done}
use Rattle.operations.specs.Plan.{clusters_of}
use Rattle.operations.specs.Calls.{slot_of, file_of}

-- A count, and the first bytes of the lent buffer.
pub record Filled : Type 0 where
  pub count : ℕ
  pub bytes : Span

-- "a file's bytes are the first size bytes along it in FAT1": byte i, of any file on any card.
unfoldable pub file_byte : Layout → Card → File → Bytes
file_byte l c f i = c (file_sector l (clusters_of l (fat1_of l c) f) (i / 512)) (i % 512)

-- "Read fills a lent buffer from an offset up to the end of the file, touches no byte after, and gives the count; an offset at or
-- past the end gives 0."
unfoldable pub reading : Layout → Card → File → ℕ → ℕ → Filled
reading l c f offset room =
    let n = min room (f.size - offset) in
    record { count = n; bytes = record { size = n; byte = λ i. file_byte l c f (offset + i) } }

-- On a clean card, and on any window.
unfoldable pub read_on : Volume → Card → Span → ℕ → ℕ → Answer Filled
read_on v c n offset room = file_of Access.Read v c n >>= λ f. granted (reading v.layout c f offset room)

unfoldable pub read : Window → Span → ℕ → ℕ → Answer Filled
read w n offset room = do
  v ← clean w
  read_on v w.card n offset room

-- "List copies live slots without bit 0x08, in slot order, as many as fit whole, touches no byte after them, and gives how many
-- there are."
unfoldable pub shown : Layout → Card → List ℕ
shown l c = indices (λ k. listed (slot_at l c k)) l.entries

unfoldable pub directory_listing : Layout → Card → List ℕ → ℕ → Filled
directory_listing l c ss room = record {
  count = length ss;
  bytes = record {
    size = 32 * min (length ss) (room / 32);
    byte = λ i. slot_at l c (get_or ss (i / 32) 0) (i % 32);
  };
}

unfoldable pub list : Window → ℕ → Answer Filled
list w room = do
  v ← clean w
  granted (directory_listing v.layout w.card (shown v.layout w.card) room)

-- "The reading call copies the characters before the first zero, as many as fit, touches nothing after, gives how many there are, 0 without
-- long entries": of the name in slot s.
unfoldable pub long_reading : Directory → ℕ → ℕ → Filled
long_reading d s room =
    let n = long_length d s in
    record { count = n; bytes = record { size = 2 * min (room / 2) n; byte = long_byte d s } }

-- ".. and asks 1 to 9": a directory's long name is read too.
unfoldable pub long_name_on : Volume → Card → Span → ℕ → Answer Filled
long_name_on v c n room = do
  Ground.Name when not (name_ok n)
  Ground.Absent when not (ltb (slot_of v c n) v.layout.entries)
  granted (long_reading (slot_at v.layout c) (slot_of v c n) room)

unfoldable pub long_name : Window → Span → ℕ → Answer Filled
long_name w n room = do
  v ← clean w
  long_name_on v w.card n room

-- "A refusal alters no lent byte, gives count 0."
unfoldable pub buffer_after : Answer Filled → Bytes → Bytes
buffer_after (refused g) b = b
buffer_after (granted f) b = overlay f.bytes.size f.bytes.byte 0 b

unfoldable pub filled_outcome : Answer Filled → Outcome
filled_outcome (refused g) = Refused g
filled_outcome (granted f) = Done f.count
