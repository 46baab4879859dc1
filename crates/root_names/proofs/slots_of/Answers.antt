use mathlib.Core.Logic.{inl, inr}
use Rattle.model.specs.Pending.{named_slots}
use Rattle.model.proofs.Long.{any_end}
use Rattle.root_names.proofs.slots_of.Goals as goal

pub returns-in-Create : goal.returns-in-Create
unfolding named_slots
returns-in-Create c = elim c.in-Create.is [ inl w ↦ rw w.1 c.one_name-in-Create.ensures | inr w ↦ rw w.2 c.one_name-in-Create.ensures ]

pub returns-in-Update : goal.returns-in-Update
unfolding named_slots
returns-in-Update c = elim c.in-Update.is [
  | inl w ↦ rw w.4 c.one_name.ensures
  | inr v ↦ elim v [ inl w ↦ rw w.4 c.one_name.ensures | inr w ↦ rw w.4 c.one_name.ensures ]
]

pub returns-in-Rename : goal.returns-in-Rename
unfolding named_slots
returns-in-Rename c = rw c.in-Rename.is (λ q. rw any_end)
