-- The places of an entry, filled one after the other.
use Prim.Native.Nat.{ℕ, ◌+◌}
use native.Mathlib.Numerals.{add-one}
use mathlib.Core.Path.{◌≡◌}
use Rattle.model.specs.Bytes.{Bytes, patch}
use Rattle.model.specs.LongName.{place, fill}

pub fill_more : (f : ℕ → ℕ) (b : Bytes) (k : ℕ) → patch 2 (f k) (place k) (fill f b k) ≡ fill f b (k + 1)
unfolding fill
fill_more f b k = rw (add-one k)

pub fill_none : (f : ℕ → ℕ) (b : Bytes) → b ≡ fill f b 0
unfolding fill
fill_none f b = λ i. b
