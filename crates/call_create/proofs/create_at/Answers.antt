use native.Mathlib.Omega.{arith}
use Rattle.model.specs.Bytes.{bytes_of}
use Rattle.model.specs.Record.{operation_records}
use Rattle.operations.specs.Plan.{create_stores}
use Rattle.operations.proofs.Seats.{create_slots}
use Rattle.root_lookup.proofs.Laws.{name_length}
use Rattle.call_create.proofs.Laws.{view_text}
use Rattle.call_create.proofs.create_at.Goals as goal

pub name_of-requires : goal.name_of-requires
name_of-requires c = let e = name_length c.args.name.now c.requires.slot_and_names.1 in omega arith

pub record_change-requires : goal.record_change-requires
unfolding operation_records
record_change-requires c =
    let a = c.args in
    let h = c.requires.slot_and_names in record {
      ready = c.requires.ready;
      slots = (
        create_slots a.v.layout.entries _ _ h.0 a.stamp (bytes_of a.text.now),
        record { even = h.2; short = omega arith },
        omega arith,
      );
    }

pub returns : goal.returns
unfolding create_stores
returns c = rw (c.name_of.ensures, c.long_slots.ensures, view_text c.args.text.now) at c.record_change.ensures
