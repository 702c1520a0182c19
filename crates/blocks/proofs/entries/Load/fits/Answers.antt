-- `fits` meets its contract: the limits, one after the other, and the rule of the fill.
use native.Mathlib.Omega.{arith}
use Rattle.blocks.proofs.Limits.{load_item, load_tank}
use Rattle.blocks.proofs.entries.Load.fits.Goals as goal

pub returns-in_default : goal.returns-in_default
returns-in_default c k v e = grind (arith, load_item c.args.self k v e c.in_default.is)

pub returns-then-tank-gt0 : goal.returns-then-tank-gt0
returns-then-tank-gt0 c k v e = grind (arith, load_tank c.args.self c.in-Some.tank k v e c.in-Some.is)

pub returns-else-tank-gt0 : goal.returns-else-tank-gt0
returns-else-tank-gt0 c k v e = grind (arith, load_tank c.args.self c.in-Some.tank k v e c.in-Some.is)

pub returns-else-fits-4 : goal.returns-else-fits-4
returns-else-fits-4 c k v e = grind (arith, load_tank c.args.self c.in-Some.tank k v e c.in-Some.is)
