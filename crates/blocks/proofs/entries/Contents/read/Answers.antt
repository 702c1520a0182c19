-- `read` meets its contract: each value at its place.
use Rattle.blocks.specs.BlockAnswers.{tank_kind_of}
use Rattle.blocks.proofs.Values.{tank_values, kind_plain}
use Rattle.blocks.proofs.entries.Contents.read.Goals as goal

pub returns : goal.returns
returns c = rw (c.number_at.ensures.value, c.number_at-2.ensures.value, c.number_at-3.ensures.value, tank_values c.args.body.now (tank_kind_of c.args.kind), kind_plain c.args.kind)
