-- `header` meets its contract: the length against what is left of the parent.
use mathlib.Core.Path.{ap, sym, ◌∙◌}
use native.Mathlib.Omega.{arith}
use Rattle.rules.proofs.layout.Parts.{num_two, header_short, header_over}
use Rattle.blocks.specs.BlockAnswers.{begun_of}
use Rattle.blocks.proofs.Heads.{begins}
use Rattle.blocks.proofs.header.Goals as goal

pub returns-then-s-lt3 : goal.returns-then-s-lt3
returns-then-s-lt3 c = sym (ap begun_of (header_short _ 0 0 c.if-s-lt3.true))

pub returns-then-s-len : goal.returns-then-s-len
returns-then-s-len c = let n = c.number_at-len.ensures.value ∙ num_two c.args.s.now 1 (omega arith) in sym (ap begun_of (header_over _ 0 0 (omega arith) (omega arith)))

pub returns : goal.returns
returns c = begins _ _ (c.number_at-len.ensures.value ∙ num_two c.args.s.now 1 (omega arith)) (omega arith)
