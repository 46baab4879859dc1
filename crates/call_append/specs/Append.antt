-- The stores of an append's first two steps.
use Rattle.std.specs.Prelude.{ℕ, List, ◌++◌}
use Rattle.model.specs.Bytes.{Span}
use Rattle.model.specs.Sector.{Card, Store}
use Rattle.model.specs.Fat.{fat1_of, fat2_of, write_fat}
use Rattle.model.specs.declared.Layout.{Layout}
use Rattle.model.specs.declared.File.{File}
use Rattle.fat_write.specs.Allocate.{grown}
use Rattle.file_append.specs.Extents.{append_data}

-- Steps 1 and 2: the data sectors; FAT2 with n new clusters linked after the last.
abbrev pub chain_stores : Layout → Card → File → Span → ℕ → ℕ → List Store
chain_stores l c f d last n = append_data l c f d ++ write_fat l l.fat2 (grown l (fat1_of l c) last n) (fat2_of l c)
