-- `end` meets its contract: two bytes behind the tag.
use mathlib.Core.Path.{◌∙◌}
use native.Mathlib.Omega.{arith}
use Rattle.rules.proofs.layout.Parts.{num_two}
use Rattle.frames.proofs.long.LongLine.end.Goals as goal

pub returns : goal.returns
returns c = let n = c.number_at.ensures.value ∙ num_two c.args.self.head.now 1 (omega arith) in omega arith
