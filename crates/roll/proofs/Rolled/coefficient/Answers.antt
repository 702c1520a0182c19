-- `roll::Rolled::coefficient` meets its contract: what is taken for L is less than 373,000. Assumes nothing.
use native.Mathlib.Omega.{arith}
use Rattle.rules.specs.Roll.{C}
use Rattle.roll.proofs.Limits.{sized, b_to, length_part_to}
use Rattle.roll.proofs.Rolled.coefficient.Goals as goal

pub overflow_mul-result : goal.overflow_mul-result
overflow_mul-result c = omega (arith, b_to _ c.args.self.c.now.fair)

pub overflow_add-result : goal.overflow_add-result
overflow_add-result c = omega (arith, b_to _ c.args.self.c.now.fair)

pub overflow_mul-self : goal.overflow_mul-self
overflow_mul-self c = omega (arith, sized _ c.args.self.c.now.fair)

pub overflow_sub-result : goal.overflow_sub-result
overflow_sub-result c = omega (arith, length_part_to _ c.args.self.c.now.fair)

pub returns : goal.returns
unfolding C
returns c = rw (c.ceil.ensures, c.args.self.ratio)
