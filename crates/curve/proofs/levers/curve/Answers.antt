-- `curve::levers::curve` meets its contract: the straight line between the levers at the stations is 01's y. Assumes nothing.
use Rattle.curve.proofs.Straight.{holds_lever}
use Rattle.curve.proofs.Sizes.{levers_within}
use Rattle.curve.proofs.levers.curve.Goals as goal

pub each_tenth-requires : goal.each_tenth-requires
each_tenth-requires c = rw c.levers-g.ensures (levers_within _ _ c.requires)

pub returns : goal.returns
returns c = holds_lever _ _ c.levers-g.ensures c.each_tenth.ensures
