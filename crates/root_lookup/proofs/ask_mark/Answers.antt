use Rattle.model.specs.Ground.{◌when◌, ◌>>◌}
use Rattle.operations.specs.Calls.{admit}
use Rattle.root_lookup.proofs.ask_mark.Goals as goal

pub returns-in-Write : goal.returns-in-Write
unfolding admit ◌when◌ ◌>>◌
returns-in-Write c = rw (c.in-Write.is, c.if-locked.true)

pub returns-in-Write-2 : goal.returns-in-Write-2
unfolding admit ◌when◌ ◌>>◌
returns-in-Write-2 c = rw (c.in-Write.is, c.if-locked.false)

pub returns-in-Read : goal.returns-in-Read
unfolding admit
returns-in-Read c = rw c.in-Read.is
