-- The layout that a boot sector gives, or none.
use Rattle.std.specs.Prelude.{◌<◌, Option, Some, None}
use Rattle.std.specs.Option.{IfSome}
use Rattle.model.specs.Bytes.{Bytes, pick}
use Rattle.model.specs.Boot.{layout, size_ok, boot_ok}
use Rattle.model.specs.Promises.{Fits}
use Rattle.model.specs.declared.Fields.{Fields}
use Rattle.model.specs.declared.Layout.{Layout}

unfoldable pub booted : Bytes → Option Layout
booted b = pick (boot_ok b) (Some (layout b)) None

-- A layout whose fields were accepted is judged by its sizes.
unfoldable pub sized : Layout → Option Layout
sized l = pick (size_ok l) (Some l) None

-- What a layout that is given is like.
abbrev pub Placed : Option Layout → Type 0
Placed o = IfSome o Fits

-- Fields that come from two bytes.
pub record Narrow (f : Fields) : Type 0 where
  pub reserved : f.reserved < 65536
  pub fatsize : f.fatsize < 65536
  pub entries : f.entries < 65536
