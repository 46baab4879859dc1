-- Where the log lies, as a search of the FAT finds it.
use Rattle.std.specs.Prelude.{ℕ, ◌+◌, ◌≤◌, Bool, not, eqb, Option, Some, None}
use Rattle.std.specs.Option.{IfSome}
use Rattle.model.specs.Bytes.{pick}
use Rattle.model.specs.Fat.{Fat, entry}
use Rattle.model.specs.Log.{run, run_ok, area}
use Rattle.model.specs.declared.Layout.{Layout}
use Rattle.model.specs.declared.Area.{Area}

-- Entry k holds v; it holds something else.
abbrev pub holds : ℕ → Fat → ℕ → Bool
holds v f k = eqb (entry f k) v

abbrev pub lacks : ℕ → Fat → ℕ → Bool
lacks v f k = not (holds v f k)

unfoldable pub located : Layout → Fat → Option Area
located l f = pick (run_ok l f (run l f)) (Some (area l (run l f))) None

-- A log that is found lies in the data, and is not long.
pub record Lies (l : Layout) (a : Area) : Type 0 where
  pub above : l.start ≤ a.sector
  pub some : 1 ≤ a.sectors
  pub few : a.sectors ≤ 128
  pub inside : a.sector + a.sectors ≤ l.total

abbrev pub Locates : Layout → Option Area → Type 0
Locates l o = IfSome o (Lies l)
