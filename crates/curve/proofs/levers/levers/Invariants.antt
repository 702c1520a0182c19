-- `curve::levers::levers` meets its contract: the stations passed are filled. Assumes nothing.
use mathlib.Core.Path.{◌≡◌}
use lib.ListN.{length}
use lib.IntN.{pos}
use Rattle.curve.specs.Levers.{g as gOf}
use Rattle.curve.proofs.Filling.{Filled}
use Rattle.curve.proofs.levers.levers.Given as goal

abbrev pub invariant-loop-i : goal.invariant-loop-i
invariant-loop-i l = (length l.g ≡ 13) × Filled (pos 0) (gOf l.kn l.kg) l.i l.g
