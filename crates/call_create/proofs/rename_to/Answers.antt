use mathlib.Core.Path.{refl}
use native.Mathlib.Omega.{arith}
use Rattle.model.specs.Record.{operation_records}
use Rattle.operations.specs.Plan.{rename_stores}
use Rattle.operations.proofs.Seats.{rename_slots}
use Rattle.root_lookup.proofs.Laws.{name_length}
use Rattle.call_create.proofs.rename_to.Goals as goal

pub name_of-requires : goal.name_of-requires
name_of-requires c = let e = name_length c.args.name.now c.requires.slots_and_name.2 in omega arith

pub record_change-requires : goal.record_change-requires
unfolding operation_records
record_change-requires c =
    let h = c.requires.slots_and_name in record {
      ready = c.requires.ready;
      slots = (
        rename_slots c.args.v.layout.entries _ _ h.0 _ _ _ _ _ h.1,
        record { even = refl; short = omega arith },
        omega arith,
      );
    }

pub returns : goal.returns
unfolding rename_stores
returns c = rw (c.name_of.ensures, c.long_count.ensures) at c.record_change.ensures
