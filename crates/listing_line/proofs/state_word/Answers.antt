use Rattle.std.proofs.Common.{rules}
use borrow.Author.Tests.{eq-eqb, ne_eqb}
use Rattle.model.specs.Text.{ascii}
use Rattle.model.specs.Listing.{state_word}
use Rattle.listing_line.specs.Words.{state_text}
use Rattle.listing_line.proofs.state_word.Goals as goal

pub returns-then-b-eq229 : goal.returns-then-b-eq229
unfolding state_text state_word ascii
returns-then-b-eq229 c = (rw (eq-eqb _ _ c.if-b-eq229.true), search rules)

pub returns-else-b-eq229 : goal.returns-else-b-eq229
unfolding state_text state_word ascii
returns-else-b-eq229 c = (rw (ne_eqb _ _ c.if-b-eq229.false), search rules)
