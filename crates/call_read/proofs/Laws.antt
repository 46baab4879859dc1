-- How read, list and the reading of a long name end, by what the card and the name give.
use Prim.Native.Nat.{ℕ, ◌≤◌, ◌<◌}
use mathlib.Core.Path.{◌≡◌}
use mathlib.Core.Bool.{true, false}
use borrow.Author.Tests.{lt-ltb, le-ltb}
use Rattle.model.specs.Bytes.{Span}
use Rattle.model.specs.Sector.{Card, Window}
use Rattle.model.specs.Root.{slot_at, name_ok}
use Rattle.model.specs.Ground.{refused, granted, ◌when◌, ◌>>=◌, ◌>>◌}
use Rattle.model.specs.Volume.{clean}
use Rattle.model.specs.declared.Ground.{Ground}
use Rattle.model.specs.declared.Volume.{Volume}
use Rattle.operations.specs.Calls.{slot_of}
use Rattle.operations.specs.Reading.{list, read_on, read, directory_listing, shown, long_reading, long_name_on, long_name}

module _ (w : Window) where
  pub list_refused : (room : ℕ) (g : Ground) → clean w ≡ refused g → list w room ≡ refused g
  unfolding list ◌>>=◌
  list_refused room g e = rw e

  pub list_granted : (room : ℕ) (v : Volume) → clean w ≡ granted v
      → list w room ≡ granted (directory_listing v.layout w.card (shown v.layout w.card) room)
  unfolding list ◌>>=◌
  list_granted room v e = rw e

  module _ (n : Span) (offset room : ℕ) where
    pub read_refused : (g : Ground) → clean w ≡ refused g → read w n offset room ≡ refused g
    unfolding read ◌>>=◌
    read_refused g e = rw e

    pub read_granted : (v : Volume) → clean w ≡ granted v → read w n offset room ≡ read_on v w.card n offset room
    unfolding read ◌>>=◌
    read_granted v e = rw e

  module _ (n : Span) (room : ℕ) where
    pub long_refused : (g : Ground) → clean w ≡ refused g → long_name w n room ≡ refused g
    unfolding long_name ◌>>=◌
    long_refused g e = rw e

    pub long_granted : (v : Volume) → clean w ≡ granted v → long_name w n room ≡ long_name_on v w.card n room
    unfolding long_name ◌>>=◌
    long_granted v e = rw e

-- What the name says, of the reading of a long name on a clean card.
module _ (v : Volume) (c : Card) (n : Span) (room : ℕ) where
  pub long_nameless : name_ok n ≡ false → long_name_on v c n room ≡ refused Ground.Name
  unfolding long_name_on ◌when◌ ◌>>◌
  long_nameless bad = rw bad

  module _ (s : ℕ) (fine : name_ok n ≡ true) (is : s ≡ slot_of v c n) where
    pub long_absent : v.layout.entries ≤ s → long_name_on v c n room ≡ refused Ground.Absent
    unfolding long_name_on ◌when◌ ◌>>◌
    long_absent out = rw (fine, ← is, le-ltb s v.layout.entries out)

    pub long_found : s < v.layout.entries → long_name_on v c n room ≡ granted (long_reading (slot_at v.layout c) s room)
    unfolding long_name_on ◌when◌ ◌>>◌
    long_found inside = rw (fine, ← is, lt-ltb s v.layout.entries inside)
