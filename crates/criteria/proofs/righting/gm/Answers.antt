-- `criteria::righting::gm` meets its contract: KM and KG are far below 2^63, and so is their difference. Assumes nothing.
use native.Mathlib.Omega.{arith}
use Prim.Native.Nat.{◌*◌}
use Rattle.roll.proofs.Limits.{sized}
use Rattle.curve.proofs.Machine.{difference, difference_fits}
use Rattle.criteria.proofs.righting.gm.Goals as goal

pub overflow_mul-result : goal.overflow_mul-result
overflow_mul-result c = omega (arith, sized _ c.args.c.now.fair)

pub overflow_cast-result : goal.overflow_cast-result
overflow_cast-result c = record { sfits = omega (arith, sized _ c.args.c.now.fair) }

pub overflow_cast-result-2 : goal.overflow_cast-result-2
overflow_cast-result-2 c = record { sfits = omega (arith, sized _ c.args.c.now.fair) }

pub overflow_sub-result : goal.overflow_sub-result
overflow_sub-result c = difference_fits (10 * c.args.c.now.loaded.km) c.args.c.now.loaded.kg (omega (arith, sized _ c.args.c.now.fair)) (omega (arith, sized _ c.args.c.now.fair))

pub returns : goal.returns
returns c = difference (10 * c.args.c.now.loaded.km) c.args.c.now.loaded.kg (omega (arith, sized _ c.args.c.now.fair)) (omega (arith, sized _ c.args.c.now.fair))
