use native.Mathlib.Omega.{arith}
use Rattle.model.specs.Scan.{every}
use Rattle.model.specs.Boot.{layout, boot_ok}
use Rattle.boot.specs.Booted.{booted, sized}
use Rattle.boot.proofs.boot.Goals as goal

pub returns : goal.returns
unfolding booted boot_ok sized layout every
returns c = grind arith
