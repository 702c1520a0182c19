-- `roll::keel` meets its contract: a sharp bilge has its k at once, a round one from the table. Assumes nothing.
use native.Mathlib.Omega.{arith}
use Rattle.rules.specs.Roll.{keel_index, k}
use Rattle.roll.proofs.Limits.{sized, plan_from, plan_to}
use Rattle.roll.proofs.keel.Goals as goal

pub returns-in-Sharp : goal.returns-in-Sharp
unfolding k
returns-in-Sharp c = rw c.in-Sharp.is

pub overflow_mul-index : goal.overflow_mul-index
overflow_mul-index c = omega (arith, sized _ c.args.c.now.fair)

pub overflow_mul-index-in-Round : goal.overflow_mul-index-in-Round
overflow_mul-index-in-Round c = omega (arith, plan_to _ c.args.c.now.fair)

pub nonzero_div-index : goal.nonzero_div-index
nonzero_div-index c = omega (arith, plan_from _ c.args.c.now.fair)

pub returns-in-Round : goal.returns-in-Round
unfolding k keel_index
returns-in-Round c = rw c.in-Round.is c.table_up.ensures
