-- A file without its bytes; the stores of a replace's first two steps.
use Rattle.std.specs.Prelude.{ℕ, List, ◌++◌}
use Rattle.model.specs.Bytes.{Span}
use Rattle.model.specs.Sector.{Card, Store}
use Rattle.model.specs.Fat.{fat1_of, fat2_of, write_fat}
use Rattle.model.specs.declared.Layout.{Layout}
use Rattle.model.specs.declared.File.{File}
use Rattle.fat_write.specs.Renew.{exchanged}
use Rattle.file_append.specs.Extents.{append_data}

-- The file without its bytes: a replace's data sectors are those of an append to it.
abbrev pub emptied : File → File
emptied f = record { entry = f.entry; first = 0; size = 0 }

-- Steps 1 and 2: the data sectors; FAT2 with n new clusters linked and the m clusters from `old` on freed.
abbrev pub exchange_stores : Layout → Card → File → Span → ℕ → ℕ → ℕ → List Store
exchange_stores l c g d n old m = append_data l c g d ++ write_fat l l.fat2 (exchanged l (fat1_of l c) n old m) (fat2_of l c)
