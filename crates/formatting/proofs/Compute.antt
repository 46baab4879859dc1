-- All definitions at once, those of a fresh card among them: `unfolding compute` opens them, for a proof by computation.
unfoldable pub compute : Unit {0}
unfolding Rattle.operations.proofs.Compute.compute
    Rattle.formatting.specs.Fresh.fewest Rattle.formatting.specs.Fresh.write_fields Rattle.formatting.specs.Fresh.fresh_boot
    Rattle.formatting.specs.Fresh.wide_fat Rattle.formatting.specs.Fresh.log_mark Rattle.formatting.specs.Fresh.fresh_entry
    Rattle.formatting.specs.Format.form_ok Rattle.formatting.specs.Format.fresh_table Rattle.formatting.specs.Format.fresh_tables
    Rattle.formatting.specs.Format.format_stores Rattle.formatting.specs.Format.format
compute = tt
