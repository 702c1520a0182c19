-- `rounding::greatest_square` meets its contract: each turn narrows the bracket of what is searched by half. Assumes nothing.
use Prim.Native.Nat.{◌-◌}
use Rattle.rounding.proofs.Halves.{Bracket, square_fits}
use Rattle.rounding.proofs.greatest_square.Given as goal

abbrev pub invariant-loop-high : goal.invariant-loop-high
invariant-loop-high l = Bracket (square_fits l.a l.b) l.top l.low l.high

abbrev pub decreases-loop-high : goal.decreases-loop-high
decreases-loop-high l = l.high - l.low
