-- All definitions at once, those of the worked card among them: `unfolding compute` opens them, for a proof by computation.
unfoldable pub compute : Unit {0}
unfolding Rattle.formatting.proofs.Compute.compute
    Rattle.worked.specs.CardK.log_fat Rattle.worked.specs.CardK.card_k
    Rattle.worked.specs.CardK.window_k Rattle.worked.specs.CardK.k Rattle.worked.specs.CardK.route
    Rattle.worked.specs.CardK.letter Rattle.worked.specs.CardK.seen_file Rattle.worked.specs.CardK.seen_at
    Rattle.worked.specs.CardK.seen_in Rattle.worked.specs.CardK.seen Rattle.worked.specs.CardK.last_from
    Rattle.worked.specs.CardK.row_of Rattle.worked.specs.CardK.step Rattle.worked.specs.CardK.trace_on
    Rattle.worked.specs.CardK.trace Rattle.worked.specs.Worked.recovery_row Rattle.worked.specs.Worked.cut_row
    Rattle.worked.specs.Worked.stretched
compute = tt
