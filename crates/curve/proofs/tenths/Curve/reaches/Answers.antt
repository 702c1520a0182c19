-- `curve::Curve::reaches` meets its contract: what is searched for is still what is left to search for. Assumes nothing.
use Rattle.std.proofs.Common.{◌∙◌, true, false, arith}
use Rattle.curve.proofs.Machine.{back, tested_within}
use Rattle.curve.proofs.Steps.{reaches_here, reaches_later, found_at, found_none}
use Rattle.curve.proofs.tenths.Curve.reaches.Goals as goal

pub loop-t-preserved : goal.loop-t-preserved
loop-t-preserved c =
    let e = rw c.y.ensures at (tested_within c.args.level c.y.result false c.ranges.level.sfits c.y.type_inv c.if-level-y.false) in
    c.loop-t.invariant ∙ rw (back c.args.level c.ranges.level.sfits) (reaches_later _ _ _ _ (omega arith) e)

pub returns-then-level-y : goal.returns-then-level-y
returns-then-level-y c =
    let e = rw c.y.ensures at (tested_within c.args.level c.y.result true c.ranges.level.sfits c.y.type_inv c.if-level-y.true) in
    let h = rw (back c.args.level c.ranges.level.sfits) at c.loop-t.invariant in
    rw h (found_at _ _ _ _ (omega arith) (reaches_here _ _ _ _ (omega arith) e))

pub returns : goal.returns
returns c =
    let h = rw (back c.args.level c.ranges.level.sfits) at c.loop-t.invariant in
    rw h (found_none _ _ _ _ (omega arith))
