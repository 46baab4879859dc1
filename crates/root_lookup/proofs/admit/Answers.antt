use Rattle.operations.specs.Calls.{admit}
use Rattle.root_lookup.proofs.admit.Goals as goal

pub returns-in-Absent : goal.returns-in-Absent
unfolding admit
returns-in-Absent c = rw c.in-Absent.is

pub returns-in-Directory : goal.returns-in-Directory
unfolding admit
returns-in-Directory c = rw c.in-Directory.is
