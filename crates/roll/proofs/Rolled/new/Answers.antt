-- `roll::Rolled::new` meets its contract: the draught is above 0. Assumes nothing.
use native.Mathlib.Omega.{arith}
use mathlib.Core.Path.{refl}
use Rattle.rules.specs.Roll.{b}
use Rattle.roll.proofs.Limits.{sized}
use Rattle.roll.proofs.Rolled.new.Goals as goal

pub overflow_mul-b : goal.overflow_mul-b
overflow_mul-b c = omega (arith, sized _ c.args.c.now.fair)

pub nonzero_div-b : goal.nonzero_div-b
nonzero_div-b c = omega (arith, sized _ c.args.c.now.fair)

pub invariant_of-result : goal.invariant_of-result
unfolding b
invariant_of-result c = record { ratio = refl }
