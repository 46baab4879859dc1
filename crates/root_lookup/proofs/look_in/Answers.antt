use mathlib.Core.Path.{sym, ap, ◌∙◌}
use native.Mathlib.Omega.{arith}
use lib.Dec.{eqb}
use Prim.Native.Nat.{◌%◌}
use Rattle.model.specs.Sector.{card_of}
use Rattle.model.specs.Root.{file_at, entry_at, is_locked}
use Rattle.model.specs.declared.File.{File}
use Rattle.model.specs.declared.Lookup.TheVariants as Lookup
use Rattle.model.proofs.Lookups.{holds_none, holds_directory, holds_file}
use Rattle.root_lookup.proofs.look_in.Goals as goal

pub returns-then-l-s : goal.returns-then-l-s
returns-then-l-s c = sym (holds_none _ _ _ (omega arith))

pub returns-then-is_directory : goal.returns-then-is_directory
returns-then-is_directory c = sym (holds_directory _ _ _ (omega arith) (sym c.is_directory.ensures ∙ c.if-is_directory.true))

pub returns : goal.returns
unfolding file_at entry_at is_locked
returns c =
    let a = c.args in
    let plain = sym c.is_directory.ensures ∙ c.if-is_directory.false in
    ap (λ (f : File). Lookup.File f (eqb (f.entry.attributes % 2) 1)) c.file_at-file.ensures
    ∙ sym (holds_file a.v.layout (card_of a.w.now) a.s (omega arith) plain)
