-- A record's line in the parts that it is written in.
use Rattle.std.specs.Prelude.{ℕ, ◌+◌, ◌*◌, List, [], ◌∷◌, ◌++◌}
use Rattle.model.specs.Bytes.{Bytes}
use Rattle.model.specs.Text.{ascii, decimal}
use Rattle.model.specs.Record.{r_number, r_slot, r_high, r_from, r_cluster, r_size}
use Rattle.model.specs.Listing.{op_word, state_word}
use Rattle.listing_line.specs.declared.Numbers.{Numbers}

unfoldable pub place_text : ℕ → ℕ → List ℕ
place_text s r = decimal s ++ (32 ∷ decimal r)

unfoldable pub operation_text : ℕ → List ℕ
operation_text n = 32 ∷ ascii (op_word n)

unfoldable pub state_text : ℕ → List ℕ
state_text b = 32 ∷ (ascii (state_word b) ++ (32 ∷ []))

unfoldable pub head_text : ℕ → ℕ → Bytes → List ℕ
head_text s r b = place_text s r ++ (operation_text (r_number b) ++ state_text (b 0))

unfoldable pub numbers : Bytes → Numbers
numbers b = record { slot = r_slot b; first = 65536 * r_high b + r_cluster b; from = r_from b; size = r_size b }

unfoldable pub slot_text : Numbers → List ℕ
slot_text n = ascii " slot " ++ (decimal n.slot ++ (ascii " first " ++ decimal n.first))

unfoldable pub size_text : Numbers → List ℕ
size_text n = ascii " from " ++ (decimal n.from ++ (ascii " size " ++ (decimal n.size ++ (10 ∷ []))))
