-- `roll::outside` meets its contract: each way out is a test of the rules. Assumes nothing.
use native.Mathlib.Omega.{arith}
use Rattle.roll.proofs.Limits.{sized}
use Rattle.roll.proofs.outside.Goals as goal

pub overflow_mul-c : goal.overflow_mul-c
overflow_mul-c c = omega (arith, sized _ c.args.c.now.fair)

pub overflow_mul-d : goal.overflow_mul-d
overflow_mul-d c = omega (arith, sized _ c.args.c.now.fair)

pub overflow_mul-c-else-c-kg : goal.overflow_mul-c-else-c-kg
overflow_mul-c-else-c-kg c = omega (arith, sized _ c.args.c.now.fair)

pub overflow_mul-d-else-d-c : goal.overflow_mul-d-else-d-c
overflow_mul-d-else-d-c c = omega (arith, sized _ c.args.c.now.fair)
