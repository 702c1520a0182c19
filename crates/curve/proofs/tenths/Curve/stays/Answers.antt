-- `curve::Curve::stays` meets its contract: up to `last` the lever stays at or above the level, and the tenth after it is the next. Assumes nothing.
use Rattle.std.proofs.Common.{◌∙◌, refl, true, false, pos, arith}
use Rattle.rules.specs.Curve.{y as yOf}
use Rattle.curve.specs.Heeled.{heeled}
use Rattle.curve.proofs.Machine.{back, tested_below, at_or_above}
use Rattle.curve.proofs.Steps.{stays_on, stays_to, stays_all}
use Rattle.curve.proofs.tenths.Curve.stays.Goals as goal

pub out-init : goal.out-init
out-init c =
    (omega arith, c.requires.0, rw (back c.args.level c.ranges.level.sfits) (stays_on _ _ _ _ c.requires.0 (at_or_above (yOf (heeled c.args.self.now) (pos c.args.from)) c.args.level c.requires.2)))

pub loop-t-preserved : goal.loop-t-preserved
loop-t-preserved c =
    let e = rw c.y.ensures at (tested_below c.y.result c.args.level false c.y.type_inv c.ranges.level.sfits c.if-y-level.false) in
    (refl, omega arith, c.loop-t.invariant.2 ∙ rw (back c.args.level c.ranges.level.sfits) (stays_on _ _ _ _ (omega arith) e))

pub returns-then-to-t : goal.returns-then-to-t
returns-then-to-t c =
    let h = rw (back c.args.level c.ranges.level.sfits, ← c.loop-t.invariant.0) at c.loop-t.invariant.2 in
    rw h (stays_all _ _ _ _ (omega arith))

pub returns-then-y-level : goal.returns-then-y-level
returns-then-y-level c =
    let e = rw (c.y.ensures, ← c.loop-t.invariant.0) at (tested_below c.y.result c.args.level true c.y.type_inv c.ranges.level.sfits c.if-y-level.true) in
    let h = rw (back c.args.level c.ranges.level.sfits, ← c.loop-t.invariant.0) at c.loop-t.invariant.2 in
    rw h (stays_to _ _ _ _ (omega arith) e)
