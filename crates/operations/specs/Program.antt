-- What a call stores, in segments. A segment ends in a barrier, a store that none passes: the group's store and the commit mark, where
-- a long name is written each root sector's, and in a format both stores of the boot sector.
use Rattle.std.specs.Prelude.{List, ◌∷◌, ◌++◌}
use Rattle.model.specs.Sector.{Store}

pub data Program : Type 0 where
  ending : List Store → Program
  segment : List Store → Store → Program → Program

-- "The call has a fixed list of stores."
abbrev pub stores : Program → List Store
stores (ending ys) = ys
stores (segment ys b p) = ys ++ b ∷ stores p
