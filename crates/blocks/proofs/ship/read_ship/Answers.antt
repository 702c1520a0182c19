-- `read_ship` meets its contract: each value at its place and within its limits.
use native.Mathlib.Omega.{arith}
use Rattle.blocks.proofs.Values.{ship_values}
use Rattle.blocks.proofs.Limits.{ship_told}
use Rattle.blocks.proofs.ship.read_ship.Goals as goal

pub returns-in_err-bilge : goal.returns-in_err-bilge
returns-in_err-bilge c = let v = ship_values c.args.body.now (omega arith) in grind (arith, ship_told)

pub returns-then-fits-3 : goal.returns-then-fits-3
returns-then-fits-3 c = rw (ship_values c.args.body.now (omega arith)) (grind (arith, ship_told))

pub returns-else-fits : goal.returns-else-fits
returns-else-fits c = rw (ship_values c.args.body.now (omega arith)) (grind (arith, ship_told))
