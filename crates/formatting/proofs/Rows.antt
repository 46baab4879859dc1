-- The rows, by computation.
use mathlib.Core.Path.{refl}
use Rattle.model.specs.Sector.{Card}
use Rattle.formatting.specs.Rows.{Rows}
use Rattle.formatting.proofs.Compute.{compute}

pub rows : (c : Card) → Rows c
unfolding compute
rows c = record {
  least = refl;
  full_fat = refl;
  one_more = refl;
  two_more = refl;
  last_small = refl;
  first_large = refl;
  fields_19_32 = (refl, refl);
  largest_card = refl;
  too_large = refl;
  totals_possible = refl;
  largest_possible = refl;
  factors_possible = refl;
  not_one = refl;
  logs_possible = refl;
  log_sectors_possible = refl;
  sectors = refl;
  first_zeros = refl;
  boot_head = refl;
  boot_rest = refl;
  fat1_head = refl;
  fat1_rest = (refl, refl, refl);
  fat2_same = refl;
  root_and_log = (refl, refl, refl, refl);
  windows = refl;
  size_first = refl;
  number = refl;
  stopped = refl;
}
