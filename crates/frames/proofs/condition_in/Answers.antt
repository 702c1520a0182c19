-- `condition_in` meets its contract: a condition alone on its line, no longer than 4,096, is what is inside.
use native.Mathlib.Omega.{arith}
use Rattle.rules.proofs.walk.FrameExits.{condition_whole}
use Rattle.frames.proofs.condition_in.Goals as goal

pub returns : goal.returns
returns c = let i = c.args.frame.inside in grind (arith, condition_whole)
