-- A card by its sectors, and the stores that write them.
use Rattle.std.specs.Prelude.{ℕ, ◌+◌, ◌*◌, ◌/◌, ◌%◌, List, [], ◌∷◌, eqb, get_or, length}
use Rattle.model.specs.Bytes.{Bytes, pick}

-- The bytes of each 512-byte sector.
abbrev pub Card : Type 0
Card = ℕ → Bytes

-- The sector that the first 512 bytes of a run make. It is a function of these alone, so that equal bytes are equal sectors.
abbrev pub clip : Bytes → Bytes
clip b j = b (j % 512)

-- "A card is a lent window of bytes": how many bytes it has, and the card in it.
pub record Window : Type 0 where
  pub size : ℕ
  pub card : Card

-- The card and the window of a slice's list.
abbrev pub card_of : List ℕ → Card
card_of xs s = clip (λ j. get_or xs (512 * s + j) 0)

abbrev pub window_of : List ℕ → Window
window_of xs = record { size = length xs; card = card_of xs }

-- Byte i of a card.
abbrev pub card_byte : Card → Bytes
card_byte c i = c (i / 512) (i % 512)

-- "A store writes one whole 512-byte sector, at once."
pub record Store : Type 0 where
  pub sector : ℕ
  pub bytes : Bytes

abbrev pub store : ℕ → Bytes → Store
store s b = record { sector = s; bytes = clip b }

-- The card after a store, and after a list of stores.
unfoldable pub put : Card → Store → Card
put c s t = pick (eqb t s.sector) (clip s.bytes) (c t)

unfoldable pub after : List Store → Card → Card
after [] c = c
after (s ∷ ss) c = after ss (put c s)
