-- Words that contracts use: what a function that reads a number gives, what the layout of a lent window is like, and what a
-- function that stores does.
use Rattle.std.specs.Prelude.{ℕ, zero, suc, ◌+◌, ◌-◌, ◌*◌, ◌/◌, ◌%◌, ◌^◌, ◌<◌, ◌≤◌, min, ◌≡◌, Bool, List, [], ◌∷◌, ◌++◌, length, take, leb, Result, is_ok}
use Rattle.model.specs.Bytes.{Bytes, le}
use Rattle.model.specs.Sector.{card_of, Store, after}
use Rattle.model.specs.Record.{operation_records, text_room}
use Rattle.model.specs.declared.Layout.{Layout}
use Rattle.model.specs.declared.Stopped.{Stopped}
use Rattle.model.specs.declared.Operation.{Operation}

-- What holds of all of a list.
abbrev pub All {ℓ} : {A : Type ℓ} → (A → Type 0) → List A → Type 0
All P [] = Unit {0}
All P (x ∷ xs) = P x × All P xs

-- r is the number in the n bytes at an offset, and fits them.
pub record Number (n : ℕ) (b : Bytes) (at r : ℕ) : Type 0 where
  pub is : r ≡ le n b at
  pub below : r < 256 ^ n

-- An accepted layout: regions in order, one after the other, ending within the card.
pub record Shape (l : Layout) : Type 0 where
  pub factor_low : 1 ≤ l.factor
  pub factor_high : l.factor ≤ 64
  pub fat1_low : 1 ≤ l.fat1
  pub fat2_at : l.fat2 ≡ l.fat1 + l.fatsize
  pub root_at : l.root ≡ l.fat2 + l.fatsize
  pub start_at : l.start ≡ l.root + l.entries / 16
  pub whole_sectors : l.entries % 16 ≡ 0
  pub many : 4085 ≤ l.clusters
  pub few : l.clusters ≤ 65524
  pub enough : l.clusters + 2 ≤ 256 * l.fatsize
  pub data_end : l.start + l.clusters * l.factor ≤ l.total

-- The numbers of such a layout that come from two bytes.
pub record Fits (l : Layout) : Type 0 where
  pub shape : Shape l
  pub fat1_high : l.fat1 < 65536
  pub fatsize_high : l.fatsize < 65536
  pub entries_high : l.entries < 65536

-- A lent window that holds a card of this layout.
pub record Held (l : Layout) (xs : List ℕ) : Type 0 where
  pub fits : Fits l
  pub whole : 512 * l.total ≤ length xs

-- The window `entry` has become `exit` by the first stores of a list, as many as the limit allows; `made` says how many those
-- are, `whole` whether they are all.
pub record Ran (limit : ℕ) (ss : List Store) (entry exit : List ℕ) (made : ℕ) (whole : Bool) : Type 0 where
  pub stores : made ≡ min limit (length ss)
  pub all : whole ≡ leb (length ss) limit
  pub card : card_of exit ≡ after (take limit ss) (card_of entry)

-- The same, where the limit is lent: it has gone down from `before` to `left` by the stores made, and the result tells whether those are all.
pub record Spent (before left : ℕ) (ss : List Store) (entry exit : List ℕ) (r : Result Unit Stopped) : Type 0 where
  pub within : left ≤ before
  pub ran : Ran before ss entry exit (before - left) (is_ok r)

-- A text in whole characters, no more than a sector has room for after its main record; the group of an operation has room for it.
pub record Texted (xs : List ℕ) : Type 0 where
  pub even : length xs % 2 ≡ 0
  pub short : length xs ≤ text_room

abbrev pub Room : Operation → List ℕ → Type 0
Room o xs = 32 * length (operation_records o) + length xs ≤ 512

-- The lists st 0, st 1, .. below n, one after the other.
unfoldable pub up_to : (ℕ → List Store) → ℕ → List Store
up_to st zero = []
up_to st (suc n) = up_to st n ++ st n
