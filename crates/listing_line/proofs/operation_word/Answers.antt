use Rattle.std.proofs.Common.{ℕ, ◌≡◌, ◌∷◌, rules}
use borrow.Author.Tests.{ne_eqb}
use Rattle.model.specs.Text.{ascii}
use Rattle.model.specs.Listing.{op_word}
use Rattle.listing_line.specs.Words.{operation_text}
use Rattle.listing_line.proofs.operation_word.Goals as goal

unknown : (n : ℕ) → (n ≡ 0 → ⊥) → (n ≡ 1 → ⊥) → (n ≡ 2 → ⊥) → (n ≡ 3 → ⊥) → (n ≡ 4 → ⊥) → (n ≡ 5 → ⊥) → (n ≡ 6 → ⊥)
    → 32 ∷ ascii "unknown" ≡ operation_text n
unfolding operation_text op_word ascii
unknown n a b c d e f g = rw (ne_eqb n 0 a, ne_eqb n 1 b, ne_eqb n 2 c, ne_eqb n 3 d, ne_eqb n 4 e, ne_eqb n 5 f, ne_eqb n 6 g)

pub returns-in-0 : goal.returns-in-0
unfolding operation_text op_word ascii
returns-in-0 c = (rw c.in-0.is, search rules)

pub returns-in-1 : goal.returns-in-1
unfolding operation_text op_word ascii
returns-in-1 c = (rw c.in-1.is, search rules)

pub returns-in-2 : goal.returns-in-2
unfolding operation_text op_word ascii
returns-in-2 c = (rw c.in-2.is, search rules)

pub returns-in-3 : goal.returns-in-3
unfolding operation_text op_word ascii
returns-in-3 c = (rw c.in-3.is, search rules)

pub returns-in-4 : goal.returns-in-4
unfolding operation_text op_word ascii
returns-in-4 c = (rw c.in-4.is, search rules)

pub returns-in-5 : goal.returns-in-5
unfolding operation_text op_word ascii
returns-in-5 c = (rw c.in-5.is, search rules)

pub returns-in-6 : goal.returns-in-6
unfolding operation_text op_word ascii
returns-in-6 c = (rw c.in-6.is, search rules)

pub returns-in_default : goal.returns-in_default
unfolding operation_text op_word ascii
returns-in_default c =
    let n = c.args.number in
    (unknown n (search rules) (search rules) (search rules) (search rules) (search rules) (search rules) (search rules), search rules)
