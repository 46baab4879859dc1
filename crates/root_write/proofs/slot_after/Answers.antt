use native.Mathlib.Omega.{arith}
use mathlib.Core.Path.{sym, ◌∙◌}
use Rattle.model.specs.Bytes.{bytes_of}
use Rattle.model.specs.Record.{with_text}
use Rattle.model.specs.Pending.{named_slots}
use Rattle.model.proofs.Long.{low_named}
use Rattle.root_write.proofs.Laws.{out, in_create, in_update, in_delete, in_truncate, in_rename, in_renamed, in_replace}
use Rattle.root_write.proofs.Laws.{rename_source, create_slot}
use Rattle.root_write.proofs.slot_after.Goals as goal

pub returns-then-not-names : goal.returns-then-not-names
returns-then-not-names c =
    out (with_text c.args.o (bytes_of c.args.text.now)) _ c.args.k (bytes_of c.load_slot-b.result)
    (sym c.names.ensures ∙ c.if-not-names.true) c.load_slot-b.ensures

pub name_slot-requires : goal.name_slot-requires
unfolding named_slots
name_slot-requires c =
    let a = c.args in
    let e = c.in-Create.entry in
    let low = low_named e.slot c.in-Create.count a.k (rw c.in-Create.is at (sym c.names.ensures ∙ c.if-not-names.false)) in
    let in_root = create_slot (bytes_of a.text.now) a.l.entries e c.in-Create.count c.in-Create.stamp (rw c.in-Create.is at c.requires.slots.0) in
    (c.requires.slots.1.even, c.requires.slots.1.short, low, omega (arith, c.requires.held.0.fits.entries_high))

pub load_slot-requires : goal.load_slot-requires
load_slot-requires c =
    let r = c.in-Rename in
    (c.requires.held.0, rename_source (bytes_of c.args.text.now) c.args.l.entries r.entry r.count r.first r.size r.to r.renamed (rw r.is at c.requires.slots.0))

pub returns-in-Create : goal.returns-in-Create
returns-in-Create c =
    in_create c.args.o (bytes_of c.args.text.now) _ c.args.k (bytes_of c.load_slot-b.result) (bytes_of c.name_slot.result) c.load_slot-b.ensures
    (sym c.names.ensures ∙ c.if-not-names.false) c.in-Create.is c.name_slot.ensures

pub returns-in-Update : goal.returns-in-Update
returns-in-Update c =
    in_update c.args.o (bytes_of c.args.text.now) _ c.args.k (bytes_of c.load_slot-b.result) (bytes_of c.rewrite.result) c.load_slot-b.ensures
    (sym c.names.ensures ∙ c.if-not-names.false) c.in-Update.is c.rewrite.ensures

pub returns-in-Truncate : goal.returns-in-Truncate
returns-in-Truncate c =
    in_truncate c.args.o (bytes_of c.args.text.now) _ c.args.k (bytes_of c.load_slot-b.result) (bytes_of c.rewrite-in-Truncate.result) c.load_slot-b.ensures
    (sym c.names.ensures ∙ c.if-not-names.false) c.in-Truncate.is c.rewrite-in-Truncate.ensures

pub returns-in-Replace : goal.returns-in-Replace
returns-in-Replace c =
    in_replace c.args.o (bytes_of c.args.text.now) _ c.args.k (bytes_of c.load_slot-b.result) (bytes_of c.rewrite-in-Replace.result) c.load_slot-b.ensures
    (sym c.names.ensures ∙ c.if-not-names.false) c.in-Replace.is c.rewrite-in-Replace.ensures

pub returns-in-Delete : goal.returns-in-Delete
returns-in-Delete c =
    in_delete c.args.o (bytes_of c.args.text.now) _ c.args.k (bytes_of c.load_slot-b.result) (bytes_of c.mark.result) c.load_slot-b.ensures
    (sym c.names.ensures ∙ c.if-not-names.false) c.in-Delete.is c.mark.ensures

pub returns-then-has_slot : goal.returns-then-has_slot
returns-then-has_slot c =
    in_rename c.args.o (bytes_of c.args.text.now) _ c.args.k (bytes_of c.load_slot-b.result) (bytes_of c.mark-then-has_slot.result) c.load_slot-b.ensures
    (sym c.names.ensures ∙ c.if-not-names.false) c.in-Rename.is (sym c.has_slot.ensures ∙ c.if-has_slot.true) c.mark-then-has_slot.ensures

pub returns-else-has_slot : goal.returns-else-has_slot
returns-else-has_slot c =
    in_renamed (bytes_of c.args.text.now) _ c.args.k (bytes_of c.load_slot.result) (bytes_of c.set_name.result) c.load_slot.ensures
    (sym c.names.ensures ∙ c.if-not-names.false) c.in-Rename.is (sym c.has_slot.ensures ∙ c.if-has_slot.false) c.set_name.ensures
