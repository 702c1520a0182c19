-- `levers` meets its contract: value after value is stored, so that after i turns the first i are the row's.
use mathlib.Core.Path.{◌≡◌}
use Prim.Native.Nat.{◌+◌, ◌*◌}
use lib.ListN.{length, replicate, take, drop}
use Rattle.rules.specs.Numbers.{num}
use Rattle.blocks.proofs.Stations.{written}
use Rattle.blocks.proofs.row.levers.Given as goal

abbrev pub invariant-loop-i : goal.invariant-loop-i
invariant-loop-i l = (length l.kn ≡ 13) × (l.kn ≡ written (λ j. num (take 2 (drop (8 + 2 * j) l.body))) l.i (replicate 13 0))
