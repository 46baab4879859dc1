-- How large the parts of a date are.
use Rattle.model.proofs.Calendar.{year_reached, month_reached, month_long}

pub ruleset reached = (year_reached, month_reached, month_long)
