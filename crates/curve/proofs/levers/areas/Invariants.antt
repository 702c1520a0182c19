-- `curve::levers::areas` meets its contract: the areas up to the tenths passed are filled. Assumes nothing.
use mathlib.Core.Path.{◌≡◌}
use Prim.Native.Nat.{◌+◌}
use lib.ListN.{length}
use lib.IntN.{pos}
use Rattle.curve.specs.Levers.{held, up_to}
use Rattle.curve.proofs.Filling.{Filled}
use Rattle.curve.proofs.levers.areas.Given as goal

abbrev pub invariant-loop-t : goal.invariant-loop-t
invariant-loop-t l = (length l.area ≡ 601) × Filled (pos 0) (up_to (held l.y)) (l.t + 1) l.area
