-- `rounding::greatest_square` meets its contract: each turn narrows the bracket of what is searched by half. Assumes nothing.
use native.Mathlib.Omega.{arith}
use Rattle.rounding.proofs.Halves.{found}
use Rattle.rounding.proofs.greatest_square.Goals as goal

pub returns : goal.returns
returns c = found _ _ c.loop-high.low c.loop-high.high c.loop-high.invariant (omega arith)
