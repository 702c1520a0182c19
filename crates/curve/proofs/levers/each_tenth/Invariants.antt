-- `curve::levers::each_tenth` meets its contract: the tenths passed are filled, and the last one was from the start. Assumes nothing.
use mathlib.Core.Path.{◌≡◌}
use lib.ListN.{length, get_or}
use lib.IntN.{pos}
use Rattle.curve.specs.Levers.{straight}
use Rattle.curve.proofs.Filling.{Filled}
use Rattle.curve.proofs.levers.each_tenth.Given as goal

abbrev pub invariant-loop-t : goal.invariant-loop-t
invariant-loop-t l = (length l.y ≡ 601) × Filled (pos 0) (straight l.g) l.t l.y × (get_or l.y 600 (pos 0) ≡ straight l.g 600)
