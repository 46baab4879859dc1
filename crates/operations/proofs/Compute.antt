-- All definitions at once: `unfolding compute` opens them, for a proof by computation.
use lib.Count.{ones, ones_in}

unfoldable pub compute : Unit {0}
unfolding ones ones_in
    Rattle.model.specs.Bytes.le Rattle.model.specs.Bytes.byte_of Rattle.model.specs.Bytes.overlay
    Rattle.model.specs.Scan.every Rattle.model.specs.Scan.any Rattle.model.specs.Scan.between Rattle.model.specs.Scan.walk
    Rattle.model.specs.Scan.first_from Rattle.model.specs.Scan.indices_from Rattle.model.specs.Scan.count_from Rattle.model.specs.Scan.all_from
    Rattle.model.specs.Sector.put Rattle.model.specs.Sector.after
    Rattle.model.specs.Boot.total_sectors Rattle.model.specs.Boot.fields Rattle.model.specs.Boot.arrange Rattle.model.specs.Boot.layout
    Rattle.model.specs.Boot.signed Rattle.model.specs.Boot.fields_ok Rattle.model.specs.Boot.size_ok Rattle.model.specs.Boot.boot_ok
    Rattle.model.specs.Fat.wide_entry Rattle.model.specs.Fat.in_range Rattle.model.specs.Fat.is_end Rattle.model.specs.Fat.class
    Rattle.model.specs.Fat.free_clusters Rattle.model.specs.Fat.set_wide_entry Rattle.model.specs.Fat.link Rattle.model.specs.Fat.release
    Rattle.model.specs.Fat.same Rattle.model.specs.Fat.fats_agree Rattle.model.specs.Fat.differing Rattle.model.specs.Fat.write_fat
    Rattle.model.specs.Chain.cluster_bytes Rattle.model.specs.Chain.needed Rattle.model.specs.Chain.chain Rattle.model.specs.Chain.ends_after
    Rattle.model.specs.Chain.keeps_chain Rattle.model.specs.Chain.cluster_sector Rattle.model.specs.Chain.file_sector
    Rattle.model.specs.Root.slot_at Rattle.model.specs.Root.vacant Rattle.model.specs.Root.is_label Rattle.model.specs.Root.is_directory
    Rattle.model.specs.Root.listed Rattle.model.specs.Root.is_file Rattle.model.specs.Root.name_byte Rattle.model.specs.Root.stem_length
    Rattle.model.specs.Root.padded Rattle.model.specs.Root.name_ok Rattle.model.specs.Root.same_name Rattle.model.specs.Root.bears
    Rattle.model.specs.Root.lowest_slot Rattle.model.specs.Root.find Rattle.model.specs.Root.free_run Rattle.model.specs.Root.end_slot
    Rattle.model.specs.Root.root_ok Rattle.model.specs.Root.entry_at Rattle.model.specs.Root.file_at Rattle.model.specs.Root.is_locked
    Rattle.model.specs.Root.slot_holds Rattle.model.specs.Root.lookup Rattle.model.specs.Long.name_slots
    Rattle.model.specs.Long.turned Rattle.model.specs.Long.sum_of Rattle.model.specs.Long.is_long Rattle.model.specs.Long.belong
    Rattle.model.specs.Long.long_count
    Rattle.model.specs.LongName.forbidden Rattle.model.specs.LongName.all_allowed Rattle.model.specs.LongName.text_ok
    Rattle.model.specs.LongName.spelled Rattle.model.specs.LongName.fill Rattle.model.specs.LongName.long_entry
    Rattle.model.specs.LongName.name_entry Rattle.model.specs.LongName.long_length Rattle.model.specs.LongName.has_text
    Rattle.model.specs.LongName.find_text
    Rattle.model.specs.Calendar.is_leap Rattle.model.specs.Calendar.year_days Rattle.model.specs.Calendar.month_days
    Rattle.model.specs.Calendar.count_off Rattle.model.specs.Calendar.moment Rattle.model.specs.Calendar.stamp_of
    Rattle.model.specs.Log.run Rattle.model.specs.Log.run_ok Rattle.model.specs.Log.area Rattle.model.specs.Log.unused
    Rattle.model.specs.Record.record_bytes Rattle.model.specs.Record.record_of Rattle.model.specs.Record.stamp_record
    Rattle.model.specs.Record.operation_records Rattle.model.specs.Record.records
    Rattle.model.specs.Record.lay Rattle.model.specs.Record.encode Rattle.model.specs.Record.operation_of Rattle.model.specs.Record.change_of
    Rattle.model.specs.Record.group_size Rattle.model.specs.Record.tells Rattle.model.specs.Record.pends Rattle.model.specs.Record.committed
    Rattle.model.specs.Record.commit Rattle.model.specs.Record.text_length Rattle.model.specs.Record.leads Rattle.model.specs.Record.text_in
    Rattle.model.specs.Record.group_records
    Rattle.model.specs.Pending.first_pending Rattle.model.specs.Pending.slot_ok Rattle.model.specs.Pending.record_ok Rattle.model.specs.Pending.alike
    Rattle.model.specs.Pending.most_counted Rattle.model.specs.Pending.count_ok
    Rattle.model.specs.Pending.is_stamp Rattle.model.specs.Pending.pair_ok
    Rattle.model.specs.Pending.part_ok Rattle.model.specs.Pending.records_ok Rattle.model.specs.Pending.empty_from Rattle.model.specs.Pending.group_ok
    Rattle.model.specs.Pending.alone Rattle.model.specs.Pending.accepted Rattle.model.specs.Record.group_in Rattle.model.specs.Pending.pending_in
    Rattle.model.specs.Pending.pending Rattle.model.specs.Pending.characters_ok Rattle.model.specs.Pending.named_slots
    Rattle.model.specs.Pending.end_past
    Rattle.model.specs.Ground.◌>>=◌ Rattle.model.specs.Ground.◌when◌ Rattle.model.specs.Ground.◌>>◌
    Rattle.model.specs.Volume.mount Rattle.model.specs.Volume.locate Rattle.model.specs.Volume.inspect Rattle.model.specs.Volume.examine
    Rattle.model.specs.Volume.settled Rattle.model.specs.Volume.clean Rattle.model.specs.Volume.clean_at
    Rattle.model.specs.Text.ascii Rattle.model.specs.Text.digits Rattle.model.specs.Text.decimal Rattle.model.specs.Text.join Rattle.model.specs.Text.line
    Rattle.model.specs.Listing.op_word Rattle.model.specs.Listing.state_word Rattle.model.specs.Listing.shown_byte Rattle.model.specs.Listing.trimmed
    Rattle.model.specs.Listing.dotted Rattle.model.specs.Listing.shown_name Rattle.model.specs.Listing.record_line
    Rattle.model.specs.Listing.has_line Rattle.model.specs.Listing.record_lines Rattle.model.specs.Listing.is_table
    Rattle.model.specs.Listing.table_text Rattle.model.specs.Listing.log_text
    Rattle.operations.specs.Finish.set_slots Rattle.operations.specs.Finish.new_entry Rattle.operations.specs.Finish.operation_edits
    Rattle.operations.specs.Finish.edits Rattle.operations.specs.Finish.effect Rattle.operations.specs.Finish.root_sector
    Rattle.operations.specs.Finish.concerns Rattle.operations.specs.Finish.root_stores Rattle.operations.specs.Finish.finish
    Rattle.operations.specs.Finish.redo Rattle.operations.specs.Finish.rising Rattle.operations.specs.Finish.name_slot
    Rattle.operations.specs.Plan.clear_all Rattle.operations.specs.Plan.clearing Rattle.operations.specs.Plan.group_sector
    Rattle.operations.specs.Plan.new_group Rattle.operations.specs.Plan.group_store Rattle.operations.specs.Plan.prepare
    Rattle.operations.specs.Plan.journal Rattle.operations.specs.Plan.operate Rattle.operations.specs.Plan.create_stores
    Rattle.operations.specs.Plan.clusters_of Rattle.operations.specs.Plan.appended Rattle.operations.specs.Plan.append_sector
    Rattle.operations.specs.Plan.data_stores Rattle.operations.specs.Plan.added Rattle.operations.specs.Plan.new_clusters
    Rattle.operations.specs.Plan.extend Rattle.operations.specs.Plan.append_along Rattle.operations.specs.Plan.append_stores
    Rattle.operations.specs.Plan.fresh_clusters Rattle.operations.specs.Plan.exchange Rattle.operations.specs.Plan.replace_along
    Rattle.operations.specs.Plan.replace_stores
    Rattle.operations.specs.Plan.shorten Rattle.operations.specs.Plan.truncate_along
    Rattle.operations.specs.Plan.truncate_stores Rattle.operations.specs.Plan.delete_stores
    Rattle.operations.specs.Plan.rename_stores Rattle.operations.specs.Plan.recover_stores
    Rattle.operations.specs.Calls.slot_of Rattle.operations.specs.Calls.admit Rattle.operations.specs.Calls.file_named
    Rattle.operations.specs.Calls.whole
    Rattle.operations.specs.Calls.taken Rattle.operations.specs.Calls.root_full Rattle.operations.specs.Calls.new_slot
    Rattle.operations.specs.Calls.text_taken Rattle.operations.specs.Calls.create_as Rattle.operations.specs.Calls.create_long_on
    Rattle.operations.specs.Calls.create_long Rattle.operations.specs.Calls.new_slots
    Rattle.operations.specs.Calls.file_of Rattle.operations.specs.Calls.create_on Rattle.operations.specs.Calls.unless_none
    Rattle.operations.specs.Calls.append_to Rattle.operations.specs.Calls.append_on Rattle.operations.specs.Calls.replace_file
    Rattle.operations.specs.Calls.replace_on Rattle.operations.specs.Calls.truncate_as Rattle.operations.specs.Calls.truncate_on
    Rattle.operations.specs.Calls.delete_on Rattle.operations.specs.Calls.rename_as Rattle.operations.specs.Calls.rename_on
    Rattle.operations.specs.Calls.create Rattle.operations.specs.Calls.append Rattle.operations.specs.Calls.replace
    Rattle.operations.specs.Calls.truncate Rattle.operations.specs.Calls.delete Rattle.operations.specs.Calls.rename
    Rattle.operations.specs.Calls.recover Rattle.operations.specs.Calls.plan Rattle.operations.specs.Calls.named_file
    Rattle.operations.specs.Calls.taken_by Rattle.operations.specs.Calls.released_by
    Rattle.operations.specs.Calls.old_slots Rattle.operations.specs.Calls.changed_by
    Rattle.operations.specs.Outcome.outcome Rattle.operations.specs.Outcome.made Rattle.operations.specs.Outcome.left
    Rattle.operations.specs.Reading.file_byte Rattle.operations.specs.Reading.reading Rattle.operations.specs.Reading.read_on
    Rattle.operations.specs.Reading.read
    Rattle.operations.specs.Reading.shown Rattle.operations.specs.Reading.directory_listing Rattle.operations.specs.Reading.list
    Rattle.operations.specs.Reading.long_reading Rattle.operations.specs.Reading.long_name_on
    Rattle.operations.specs.Reading.long_name
    Rattle.operations.specs.Reading.buffer_after Rattle.operations.specs.Reading.filled_outcome
    Rattle.operations.specs.Fitting.fit Rattle.operations.specs.Fitting.fits_on Rattle.operations.specs.Fitting.fits
    Rattle.operations.specs.Fitting.fit_outcome
compute = tt
