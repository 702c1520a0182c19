-- `roll::wind_levers` meets its contract: lw1 and lw2 are the rules', and far below 2^64. Assumes nothing.
use native.Mathlib.Omega.{arith}
use Rattle.rules.specs.Criteria.{lw1, lw2}
use Rattle.roll.proofs.Limits.{sized, moment_to, lw1_to}
use Rattle.roll.proofs.wind_levers.Goals as goal

pub overflow_mul-moment : goal.overflow_mul-moment
overflow_mul-moment c = omega (arith, sized _ c.args.c.now.fair)

pub overflow_mul-moment-2 : goal.overflow_mul-moment-2
overflow_mul-moment-2 c = omega (arith, moment_to _ c.args.c.now.fair)

pub overflow_mul-weight : goal.overflow_mul-weight
overflow_mul-weight c = omega (arith, sized _ c.args.c.now.fair)

pub ceil-lw1-requires : goal.ceil-lw1-requires
ceil-lw1-requires c = omega (arith, sized _ c.args.c.now.fair)

pub overflow_mul-lw1 : goal.overflow_mul-lw1
unfolding lw1
overflow_mul-lw1 c = omega (arith, c.ceil-lw1.ensures, lw1_to _ c.args.c.now.fair)

pub returns : goal.returns
unfolding lw1 lw2
returns c = rw (c.ceil-lw2.ensures, c.ceil-lw1.ensures)
