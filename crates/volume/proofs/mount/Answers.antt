use mathlib.Core.Path.{sym}
use native.Mathlib.Omega.{arith}
use Rattle.model.specs.Sector.{window_of}
use Rattle.boot.proofs.Grounds.{mount_short, mount_boot, mount_window, mount_layout}
use Rattle.volume.proofs.mount.Goals as goal

pub returns-then-w-lt512-clause-answer : goal.returns-then-w-lt512-clause-answer
returns-then-w-lt512-clause-answer c = sym (mount_short (window_of c.args.w.now) (omega arith))

pub returns-in_default-clause-answer : goal.returns-in_default-clause-answer
returns-in_default-clause-answer c = sym (mount_boot (window_of c.args.w.now) (omega arith) (sym c.in_default.ensures.0))

pub returns-then-w-l-clause-answer : goal.returns-then-w-l-clause-answer
returns-then-w-l-clause-answer c = sym (mount_window (window_of c.args.w.now) (omega arith) _ (sym c.in-Some.ensures.0) (omega arith))

pub returns-clause-answer : goal.returns-clause-answer
returns-clause-answer c = sym (mount_layout (window_of c.args.w.now) (omega arith) _ (sym c.in-Some.ensures.0) (omega arith))
