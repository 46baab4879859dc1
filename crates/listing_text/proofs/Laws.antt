-- Laws that attributes of the code name: numbers in decimal, and bytes as they are shown.
use lib.ListN.{length-append}
use Rattle.listing_text.proofs.Decimal.{decimal_low, decimal_high, decimal_short}
use Rattle.listing_text.proofs.Buffer.{put_none, put_then}
use Rattle.listing_text.proofs.Shown.{shown_none, shown_more, shown_length}

pub ruleset decimals = (decimal_low, decimal_high, decimal_short, length-append, put_then)

pub ruleset shows = (shown_none, shown_more, shown_length, put_none, put_then)
