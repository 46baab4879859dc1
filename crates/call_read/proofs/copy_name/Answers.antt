use Rattle.operations.specs.Reading.{long_reading}
use Rattle.call_read.proofs.copy_name.Goals as goal

pub returns : goal.returns
unfolding long_reading
returns c =
    let length = c.long_length-n.ensures.0 in
    record { counted = length; bytes = λ i. rw length at (c.copy_characters.ensures i) }
