use native.Mathlib.Omega.{arith}
use mathlib.Core.Path.{refl}
use Rattle.model.proofs.Texts.{told_records}
use borrow.Author.Rules.{rules}
use Rattle.log_steps.proofs.plain_steps.Goals as goal

pub log_steps-requires : goal.log_steps-requires
log_steps-requires c =
    record {
      held = search rules;
      log_within = search rules;
      slots = (c.requires.slots, record { even = refl; short = omega arith }, omega (arith, told_records c.args.o));
    }
