-- `group` meets its contract: no depth left and an empty body are 5; else it is a group.
use native.Mathlib.Omega.{arith}
use Rattle.rules.proofs.walk.BlockExits.{begun_deep, begun_empty, begun_nest}
use Rattle.blocks.proofs.entries.group.Goals as goal

pub returns-then-depth-eq0 : goal.returns-then-depth-eq0
returns-then-depth-eq0 c = grind (arith, begun_deep, begun_empty)

pub returns : goal.returns
returns c = grind (arith, begun_nest)
